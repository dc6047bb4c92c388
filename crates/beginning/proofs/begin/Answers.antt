-- `beginning::begin` meets its contract: after each call the area holds the run of the next stage, which has room for the probes to come and the
-- same table, so that the start's row stays right.
use Rattle.base.specs.CountLaws.{replicate_zero}
use Rattle.tables.specs.Pairs.{square_side}
use Rattle.beginning.proofs.Beginning.{row_kept, record_in_range, record_father, put_stage, put_room, suc_stage, suc_room, begin_made}
use Rattle.beginning.proofs.begin.Goals as goal

pub fill_row-requires-clause-zeros : goal.fill_row-requires-clause-zeros
fill_row-requires-clause-zeros c = replicate_zero square_side

pub put_process-requires : goal.put_process-requires
put_process-requires c =
    let x = c.first_record-first in
    record {
      ready = c.requires.ready;
      is_process = c.requires.start_is_in;
      in_range = record_in_range c.requires x.result x.ensures;
      father_right = record_father c.requires x.result x.ensures;
    }

pub broadcast-requires : goal.broadcast-requires
broadcast-requires c =
    let x = c.first_record-first in
    let first = put_stage c.requires x.result x.ensures c.put_process.new.area c.put_process.ensures in
    record {
      ready = first.ready;
      is_process = c.requires.start_is_in;
      row = row_kept first _ _ c.fill_row.ensures;
      spreadable = λ q l u j. put_room c.requires first q;
    }

pub broadcast-requires-2 : goal.broadcast-requires-2
broadcast-requires-2 c =
    let x = c.first_record-first in
    let first = put_stage c.requires x.result x.ensures c.put_process.new.area c.put_process.ensures in
    let second = suc_stage c.requires first c.broadcast.new.area c.broadcast.ensures in
    record {
      ready = second.ready;
      is_process = c.requires.start_is_in;
      row = row_kept second _ _ c.fill_row.ensures;
      spreadable = λ q l u j. suc_room c.requires second q;
    }

pub returns : goal.returns
returns c =
    let x = c.first_record-first in
    let first = put_stage c.requires x.result x.ensures c.put_process.new.area c.put_process.ensures in
    let second = suc_stage c.requires first c.broadcast.new.area c.broadcast.ensures in
    begin_made c.requires second c.broadcast-2.new.area c.broadcast-2.ensures
