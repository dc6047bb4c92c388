-- The receiver's step, and to whom it sends.
--   stepped_at r a b m     == the receiver's step as the answer of `step` or of the start's step
--   needed c m x d         == the degree d along the chain c if the step of the record x on m broadcasts along it, and else 0
--   probes_of c            == the probes that go along a chain
--   chain_of y             == the chain along which the broadcast y goes, if it goes along one
--   probes_go, reply_goes   == whether a probe of b's broadcast, and an acknowledgement, goes to q
--   probes_by y k          == the same of a broadcast, by the cell of b and q
-- Assumes nothing.
use Rattle.std.specs.Prelude.{ℕ, Bool, false, eqb, Option, Some, None, Result}
use Rattle.base.specs.Choice.{choose}
use Rattle.tables.specs.declared.Chain.{Chain}
use Rattle.tables.specs.declared.Chain.TheVariants.{Out, In}
use Rattle.tables.specs.Waits.{Waits, out_degree, in_degree}
use Rattle.tables.specs.Chains.{joins}
use Rattle.steps.specs.declared.Message.{Message}
use Rattle.steps.specs.declared.Probes.{Probes}
use Rattle.steps.specs.declared.Probes.TheVariants.{Sucs, Pres}
use Rattle.steps.specs.declared.Reply.{Reply}
use Rattle.steps.specs.declared.Process.{Process}
use Rattle.steps.specs.Step as Step
use Rattle.steps.specs.Step.{Turn, stepped, start_stepped}
use Rattle.steps.specs.Effect.{out_needed, in_needed}
use Rattle.refusals.specs.declared.Refusal.{Refusal}
use Rattle.checks.specs.Run.{Run}
use Rattle.areas.specs.Squares.{joins_in}

abbrev pub stepped_at : Run → ℕ → ℕ → Message → Result Turn Refusal
stepped_at r a b m =
    choose (eqb b r.start)
    (start_stepped m a (r.process b))
    (stepped m (out_degree r.waits b) (in_degree r.waits b) a (r.process b))

-- the degree along a chain, if the step broadcasts along it
abbrev pub needed : Chain → Message → Process → ℕ → ℕ
needed Out = out_needed
needed In = in_needed

-- "sends suc to all successors"; "the same with preceding and predecessors"
abbrev pub probes_go : Waits → Probes → ℕ → ℕ → Bool
probes_go w Probes.Nothing b q = false
probes_go w Sucs b q = joins Out w b q
probes_go w Pres b q = joins In w b q

abbrev pub probes_by : Probes → ℕ → Bool
probes_by Probes.Nothing k = false
probes_by Sucs k = joins_in Out k
probes_by Pres k = joins_in In k

-- the probes that go along a chain
abbrev pub probes_of : Chain → Probes
probes_of = Step.probes_of

-- the chain along which probes go
abbrev pub chain_of : Probes → Option Chain
chain_of = Step.chain_of

abbrev pub reply_goes : Option Reply → ℕ → Bool
reply_goes None q = false
reply_goes (Some y) q = eqb y.to q
