-- `carrying::carry_out` meets its contract: each call gets the area as the last one left it, with the run that it left in it.
use Rattle.std.proofs.Common.{arith}
use Rattle.lenses.proofs.Holding.{holding_ready}
use Rattle.carrying.proofs.InOrder.{take_asks, taken_off, put_asks, after_put, reply_asks, after_reply, send_asks, after_probes, count_asks, all_done}
use Rattle.carrying.proofs.carry_out.Goals as goal

pub take-requires-clause-is_slot : goal.take-requires-clause-is_slot
take-requires-clause-is_slot c = (take_asks c.requires.ready c.requires.carried c.requires.linked).1.1

pub put_process-requires : goal.put_process-requires
put_process-requires c =
    let h = put_asks c.requires.ready c.requires.carried (taken_off c.requires.ready c.requires.carried c.take.ensures) in
    record { ready = h.0; is_process = h.1.0; in_range = h.1.1.0; father_right = h.1.1.1 }

pub acknowledge-requires : goal.acknowledge-requires
acknowledge-requires c =
    let h = reply_asks c.requires.ready c.requires.carried (after_put c.requires.ready c.requires.carried c.take.ensures c.put_process.ensures) c.requires.row in
    record { ready = h.0; is_process = h.1.0; row = h.1.1.0; fits = h.1.1.1.0; answerable = h.1.1.1.1 }

pub send-requires : goal.send-requires
send-requires c =
    let h = send_asks c.requires.ready c.requires.carried (after_reply c.requires.ready c.requires.carried c.take.ensures c.put_process.ensures c.acknowledge.ensures) c.requires.row in
    record { ready = h.0; is_process = h.1.0; row = h.1.1.0; spreadable = h.1.1.1 }

pub invariant_of-count : goal.invariant_of-count
invariant_of-count c =
    record {
      ready = holding_ready c.requires.ready
          (after_probes c.requires.ready c.requires.carried c.take.ensures c.put_process.ensures c.acknowledge.ensures c.send.ensures);
    }

pub overflow_add-count : goal.overflow_add-count
overflow_add-count c =
    omega (
      arith,
      (count_asks c.requires.ready c.requires.carried (after_probes c.requires.ready c.requires.carried c.take.ensures c.put_process.ensures c.acknowledge.ensures c.send.ensures) c.count-count.ensures).1,
    )

pub put_count-requires : goal.put_count-requires
put_count-requires c =
    let h = count_asks c.requires.ready c.requires.carried (after_probes c.requires.ready c.requires.carried c.take.ensures c.put_process.ensures c.acknowledge.ensures c.send.ensures) c.count-count.ensures in
    record { ready = h.0; within_most_deliveries = h.1 }

pub returns : goal.returns
returns c =
    all_done c.requires.ready c.requires.carried (after_probes c.requires.ready c.requires.carried c.take.ensures c.put_process.ensures c.acknowledge.ensures c.send.ensures) c.count-count.ensures
    c.put_count.ensures
