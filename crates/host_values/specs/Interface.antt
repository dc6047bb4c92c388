-- What the C interface adds to the calls that it exports: numbers for the cases of an enum, and the parts of the step's long promise by name.
--   chain_of k           == the chain that a number names: 0 the out-chain, any other the in-chain
--   message_of k c       == the message that a kind and two counts name; a kind that is none of 1, 2, 3 names one whose count is out of range
--   process_of ..        == a process record from its seven values
--   probes_number, reply_receiver   == what a step sends, as numbers, zeros where it sends nothing; the counts are counts_replied (steps, Effect)
--   StepTold m o i p x y ..   == the step of the record x on message m, with degrees o and i, from p, has left the record y and given these values
-- The laws stand in InterfaceLaws. Assumes nothing.
use Rattle.std.specs.Prelude.{ℕ, ◌+◌, ◌≡◌, eqb, ℤ, pos, Option}
use Rattle.base.specs.Choice.{choose}
use Rattle.tables.specs.declared.Chain.{Chain}
use Rattle.tables.specs.declared.Chain.TheVariants.{Out, In}
use Rattle.steps.specs.declared.Message.{Message}
use Rattle.steps.specs.declared.Message.TheVariants.{Suc, Pre, Ack}
use Rattle.steps.specs.declared.Process.{Process}
use Rattle.steps.specs.declared.Probes.{Probes}
use Rattle.steps.specs.declared.Probes.TheVariants.{Sucs, Pres}
use Rattle.steps.specs.declared.Reply.{Reply}
use Rattle.steps.specs.declared.TwoCounts.{TwoCounts}
use Rattle.steps.specs.Step.{most_count, stepped}
use Rattle.steps.specs.Effect.{counts_replied, receiver}
use Rattle.host_values.specs.Values.{stepped_number, stepped_probes, stepped_reply}
use Rattle.lending.specs.Lent.{lent_record}

-- "its out- or in-chain"
unfoldable pub chain_of : ℕ → Chain
chain_of k = choose (eqb k 0) Out In

-- "a suc probe, a pre probe or an acknowledgement with its count": 1, 2 and 3, as kindOf (Values) numbers them. Any other kind is
-- refused as "count out of range" is (message_of_other)
unfoldable pub message_of : ℕ → TwoCounts → Message
message_of k c =
    choose (eqb k 1) Suc (choose (eqb k 2) Pre (choose (eqb k 3) (Ack c) (Ack (record { count = pos (most_count + 1); second = pos 0 }))))

abbrev pub process_of : ℕ → ℕ → ℕ → ℤ → ℕ → ℕ → ℤ → Process
process_of s p b c n f d = record { succeeding = s; preceding = p; subordinate = b; cs = c; num = n; father = f; second = d }

-- "the probes to broadcast": 0 none, 1 suc to all successors, 2 pre to all predecessors
abbrev pub probes_number : Probes → ℕ
probes_number Probes.Nothing = 0
probes_number Sucs = 1
probes_number Pres = 2

-- "the one acknowledgement to send, if there is one": to whom, 0 if there is none
abbrev pub reply_receiver : Option Reply → ℕ
reply_receiver y = receiver y

pub record StepTold (m : Message) (o i p : ℕ) (x y : Process) (r b t : ℕ) (z : TwoCounts) : Type 0 where
  pub number : r ≡ stepped_number (stepped m o i p x)
  pub left : y ≡ lent_record x (stepped m o i p x)
  pub probes : b ≡ probes_number (stepped_probes (stepped m o i p x))
  pub to : t ≡ reply_receiver (stepped_reply (stepped m o i p x))
  pub counts : z ≡ counts_replied (stepped_reply (stepped m o i p x))
