-- 02, N3: "without them the steps stay 002's".
--   turn_forgets    == forget the second numbers, and the step of a process other than the start is 002's
--   start_forgets   == .. and so is the start's
-- Assumes nothing.
use Rattle.std.specs.Prelude.{ℕ, Bool, true, false, ◌≡◌, eqb}
use Rattle.std.proofs.Math.Path.{refl}
use Rattle.std.proofs.Common.{ap, ◌∙◌}
use Rattle.base.specs.Choice.{choose}
use Rattle.steps.specs.declared.Message.{Message}
use Rattle.steps.specs.declared.Message.TheVariants.{Suc, Pre, Ack}
use Rattle.steps.specs.declared.Process.{Process}
use Rattle.steps.specs.declared.TwoCounts.{TwoCounts}
use Rattle.steps.specs.Step.{Turn, new_subordinate, gained, rule1, set_succeeding, set_preceding, rule3, rule4, acknowledged, turn, start_turn}
use Rattle.steps.specs.Paper.{paper_rule1, paper_succeeding, paper_preceding, paper_rule3, paper_rule4, paper_acknowledged, paper_turn, paper_start}
use Rattle.steps.specs.Paper.{plain_message, plain_process, plain_turn}

-- ---- rule by rule

-- each rule chooses by a test in which no second number stands
chosen : (b : Bool) (t u : Turn) → plain_turn (choose b t u) ≡ choose b (plain_turn t) (plain_turn u)
chosen true t u = refl
chosen false t u = refl

rule1_forgets : (p : ℕ) (x : Process) → plain_turn (rule1 p x) ≡ paper_rule1 p (plain_process x)
unfolding rule1 paper_rule1
rule1_forgets p x = chosen (eqb x.num 0) _ _

module _ (t : Turn) where
  succeeding_forgets : (o : ℕ) → plain_turn (set_succeeding o t) ≡ paper_succeeding o (plain_turn t)
  unfolding set_succeeding paper_succeeding
  succeeding_forgets o = chosen (eqb t.process.succeeding 0) _ _

  preceding_forgets : (i : ℕ) → plain_turn (set_preceding i t) ≡ paper_preceding i (plain_turn t)
  unfolding set_preceding paper_preceding
  preceding_forgets i = chosen (eqb t.process.preceding 0) _ _

  rule3_forgets : plain_turn (rule3 t) ≡ paper_rule3 (plain_turn t)
  unfolding rule3 paper_rule3 new_subordinate gained
  rule3_forgets = refl

  rule4_forgets : plain_turn (rule4 t) ≡ paper_rule4 (plain_turn t)
  unfolding rule4 paper_rule4
  rule4_forgets = chosen (eqb t.process.num 0) _ _

acknowledged_forgets : (c : TwoCounts) (x : Process) → plain_turn (acknowledged c x) ≡ paper_acknowledged c.count (plain_process x)
unfolding acknowledged paper_acknowledged
acknowledged_forgets c x = refl

-- ---- the step

pub turn_forgets : (m : Message) (o i p : ℕ) (x : Process) → plain_turn (turn m o i p x) ≡ paper_turn (plain_message m) o i p (plain_process x)
unfolding turn paper_turn
turn_forgets Suc o i p x =
    rule4_forgets (rule3 (set_succeeding o (rule1 p x))) ∙
    ap paper_rule4 (rule3_forgets (set_succeeding o (rule1 p x)) ∙
    ap paper_rule3 (succeeding_forgets (rule1 p x) o ∙ ap (paper_succeeding o) (rule1_forgets p x)))
turn_forgets Pre o i p x =
    rule4_forgets (rule3 (set_preceding i (rule1 p x))) ∙
    ap paper_rule4 (rule3_forgets (set_preceding i (rule1 p x)) ∙
    ap paper_rule3 (preceding_forgets (rule1 p x) i ∙ ap (paper_preceding i) (rule1_forgets p x)))
turn_forgets (Ack c) o i p x = rule4_forgets (acknowledged c x) ∙ ap paper_rule4 (acknowledged_forgets c x)

pub start_forgets : (m : Message) (p : ℕ) (x : Process) → plain_turn (start_turn m p x) ≡ paper_start (plain_message m) p (plain_process x)
unfolding start_turn paper_start
start_forgets Suc p x = refl
start_forgets Pre p x = refl
start_forgets (Ack c) p x = acknowledged_forgets c x
