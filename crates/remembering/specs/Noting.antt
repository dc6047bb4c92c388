-- How what is remembered follows a delivery from a to b that was made, part by part; and how it is filled.
--   taken_marks t a b held    == the marks once a message is off the link from a to b, which then holds one if t
--   sent_marks held b S       == the marks once b has sent a message to each process that passes S
--   noted_marks r a b y z held   == the marks after the whole delivery, which leaves the run r
--   looked_marks r a b held, along_marks r x held   == the marks with the link from a to b looked at; and with both links of the arc x
-- Assumes nothing.
use Rattle.std.specs.Prelude.{ℕ, Bool, true, false, ◌&&◌, ◌||◌, eqb, Option}
use Rattle.base.specs.Choice.{choose}
use Rattle.tables.specs.declared.Arc.{Arc}
use Rattle.steps.specs.declared.Probes.{Probes}
use Rattle.steps.specs.declared.Reply.{Reply}
use Rattle.machine.specs.Calls.{waiting}
use Rattle.checks.specs.Run.{Run}
use Rattle.preparing.specs.Receiving.{probes_go, reply_goes}
use Rattle.marks.specs.Changes.{turned}

-- a link falls empty if its last message is taken
abbrev pub taken_marks : Bool → ℕ → ℕ → (ℕ → ℕ → Bool) → ℕ → ℕ → Bool
taken_marks t a b held = choose t held (turned held a b false)

abbrev pub sent_marks : (ℕ → ℕ → Bool) → ℕ → (ℕ → Bool) → ℕ → ℕ → Bool
sent_marks held b S x y = held x y || (eqb x b && S y)

abbrev pub noted_marks : Run → ℕ → ℕ → Probes → Option Reply → (ℕ → ℕ → Bool) → ℕ → ℕ → Bool
noted_marks r a b y z held =
    sent_marks (sent_marks (taken_marks (waiting (r.link a b)) a b held) b (reply_goes z)) b (probes_go r.waits y b)

abbrev pub looked_marks : Run → ℕ → ℕ → (ℕ → ℕ → Bool) → ℕ → ℕ → Bool
looked_marks r a b held = choose (waiting (r.link a b)) (turned held a b true) held

-- the two links of an arc
abbrev pub along_marks : Run → Arc → (ℕ → ℕ → Bool) → ℕ → ℕ → Bool
along_marks r x held = looked_marks r x.to x.from (looked_marks r x.from x.to held)
