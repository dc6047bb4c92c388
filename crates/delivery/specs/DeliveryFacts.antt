-- What is known of a delivery that goes.
--   Taking r a b m t      == t is the receiver's turn, and it meets no 22
--   Going r n a b i g t   == the delivery of g, at place i of the link from a to b, leaves and sends what t says
-- Assumes nothing.
use Rattle.std.specs.Prelude.{ℕ, ◌≤◌, true, ◌≡◌, Ok, Some}
use Rattle.steps.specs.declared.Message.{Message}
use Rattle.steps.specs.declared.Reply.{Reply}
use Rattle.steps.specs.declared.Turn.{Turn}
use Rattle.checks.specs.Run.{Run, turn_at}
use Rattle.carrying.specs.Carrying.{carried_out, Carried}
use Rattle.delivery.specs.Delivering.{deliver_at}
use Rattle.steps.specs.Step.{fitting}

-- t is the receiver's turn, and it meets no 22
pub record Taking (r : Run) (a b : ℕ) (m : Message) (t : Turn) : Type 0 where
  pub fits : fitting m (r.process b) (turn_at r a b m) ≡ true
  pub is : t ≡ turn_at r a b m

-- the delivery answers g, and what its step leaves and sends can be carried out
pub record Going (r : Run) (n a b i : ℕ) (g : Message) (t : Turn) : Type 0 where
  pub carried : Carried r a b i t.process t.sent.probes t.sent.reply
  pub answer : (deliver_at r a b i).answer ≡ Ok g
  pub run : (deliver_at r a b i).run ≡ carried_out r a b i t.process t.sent.probes t.sent.reply
  pub replied : (y : Reply) → t.sent.reply ≡ Some y → (1 ≤ y.to) × (y.to ≤ n)
