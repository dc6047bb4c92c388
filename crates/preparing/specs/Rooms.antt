-- Room on the receiver's links, counted without making the delivery.
--   load_after r a b y z q   == how many messages wait on the link from b to q after the delivery of a message from a to b, whose step broadcasts
--                              y and acknowledges z
--   room_to r a b y z q      == that link would not hold a fifth message
--   roomy r a b y z         == no link from b would
-- Assumes nothing.
use Rattle.std.specs.Prelude.{Bool, ◌&&◌, leb, eqb, ℕ, ◌+◌, ◌-◌, length, Option}
use Rattle.base.specs.Sums.{all_to}
use Rattle.base.specs.Choice.{bit}
use Rattle.steps.specs.declared.Probes.{Probes}
use Rattle.steps.specs.declared.Reply.{Reply}
use Rattle.checks.specs.Run.{Run, reply_receiver, probes_to}
use Rattle.areas.specs.Used.{link_slots}

abbrev pub load_after : Run → ℕ → ℕ → Probes → Option Reply → ℕ → ℕ
load_after r a b y z q = length (r.link b q) - bit (eqb b a && eqb q b) + length (reply_receiver z q) + length (probes_to r.waits b y q)

-- the link from b to q would not hold a fifth message
abbrev pub room_to : Run → ℕ → ℕ → Probes → Option Reply → ℕ → Bool
room_to r a b y z q = leb (load_after r a b y z q) link_slots

abbrev pub roomy : Run → ℕ → ℕ → Probes → Option Reply → Bool
roomy r a b y z = all_to r.waits.n (room_to r a b y z)
