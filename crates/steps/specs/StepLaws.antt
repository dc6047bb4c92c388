-- Laws of the step that need no look at all of its rules: what it may leave out of account, and what its ranges say. What each step does is in
-- proofs, `EffectLaws`.
--   Plain x t         == rule 1 touches neither flags nor num, and sends no probe
--   new_subordinate_both             == of two flags: the new subordinate, and 1 for both, are succeeding
--   lent_needed, stepped_needed   == a step, and what it may refuse with 21, does not depend on a degree that it does not use
--   acknowledgement_to, acknowledgement_counts, unanswered   == of what is sent: equal acknowledgements have one receiver and the same counts; none is not one
--   own_count_small    == the 1 or 0 that a process adds to its second sum is a count in range
--   inRange-P         == what `in_range x` says of the values of a record
--   stepped_inside    == a step of what is in range, from a process: 22, or the turn
--   stepped_said, start_stepped_said   == the number of a step's answer is the number that its checks come to
--   chain_none, chain_some   == a broadcast that goes along no chain is none, and one that goes along a chain is that chain's
-- Assumes nothing.
use Rattle.std.specs.Prelude.{ℕ, zero, suc, ◌+◌, ◌*◌, ◌≤◌, Bool, true, not, ◌&&◌, ◌||◌, ◌≡◌, refl, eqb, leb, ltb, nat_abs, None, Some}
use Rattle.std.proofs.Math.Bool.{false}
use Rattle.std.proofs.Common.{leb-true, le-leb, ne_eqb, le-ltb}
use Rattle.std.proofs.Math.Path.{ap, sym}
use native.Mathlib.Omega.{arith}
use Rattle.std.proofs.Math.IntN.{pos}
use Rattle.base.specs.Choice.{choose, bit}
use Rattle.base.specs.ChoiceLaws.{and_left, and_right, same?, tested}
use Rattle.base.specs.Checks.{Same, same, apart, Tested, passed, failed}
use Rattle.steps.specs.declared.Message.{Message}
use Rattle.steps.specs.declared.Message.TheVariants.{Suc, Pre, Ack}
use Rattle.steps.specs.declared.Process.{Process}
use Rattle.steps.specs.declared.Probes.{Probes}
use Rattle.steps.specs.declared.Probes.TheVariants.{Sucs, Pres}
use Rattle.steps.specs.declared.TwoCounts.{TwoCounts}
use Rattle.tables.specs.Table.{most_processes}
use Rattle.tables.specs.declared.Chain.{Chain}
use Rattle.tables.specs.declared.Chain.TheVariants.{Out, In}
use Rattle.steps.specs.Step.{small, in_range, Turn, acknowledgement, new_subordinate, rule1, set_succeeding, set_preceding, rule3, rule4, turn}
use Rattle.steps.specs.Step.{most_count, most_num, own_count, lent_in_range, fitting, step_number, stepped, start_turn, start_stepped, probes_of, chain_of}
use Rattle.refusals.specs.Numbers.{answered, number_of}
use Rattle.steps.specs.Effect.{RecordInRange, sucs_of, pres_of, receiver, counts_replied}
use Rattle.steps.specs.Effect.{both, out_needed, in_needed}

-- ---- rule 1

-- rule 1 touches neither flags nor num, and sends no probe
pub record Plain (x : Process) (t : Turn) : Type 0 where
  pub succeeding : t.process.succeeding ≡ x.succeeding
  pub preceding : t.process.preceding ≡ x.preceding
  pub subordinate : t.process.subordinate ≡ x.subordinate
  pub num : t.process.num ≡ x.num
  pub sucs : sucs_of t ≡ 0
  pub pres : pres_of t ≡ 0

pub rule1_plain : (a : ℕ) (x : Process) → Plain x (rule1 a x)
unfolding rule1
rule1_plain a x = at (same? x.num 0)
  where
    at : Same x.num 0 → Plain x (rule1 a x)
    at (same _ f) = rw f (omega arith)
    at (apart _ f) = rw f (omega arith)

-- ---- flags

-- of two flags: 1 for the first alone, and 1 for both, are the first
only_both : (s p : ℕ) → s ≤ 1 → p ≤ 1 → choose (eqb s 1 && eqb p 0) 1 0 + s * p ≡ s
only_both zero p h k = omega arith
only_both (suc zero) zero h k = refl
only_both (suc zero) (suc zero) h k = refl
only_both (suc zero) (suc (suc p)) h k = absurd (omega arith)
only_both (suc (suc s)) p h k = absurd (omega arith)

pub new_subordinate_both : (x : Process) → x.succeeding ≤ 1 → x.preceding ≤ 1 → new_subordinate x + both x ≡ x.succeeding
unfolding new_subordinate
new_subordinate_both x h k = only_both x.succeeding x.preceding h k

-- ---- degrees that are not used

set_succeeding_needed : (o : ℕ) (x : Process) (t : Turn) → t.process.succeeding ≡ x.succeeding
    → set_succeeding (choose (eqb x.succeeding 0) o 0) t ≡ set_succeeding o t
unfolding set_succeeding
set_succeeding_needed o x t e = at (tested (eqb x.succeeding 0))
  where
    at : Tested (eqb x.succeeding 0) → set_succeeding (choose (eqb x.succeeding 0) o 0) t ≡ set_succeeding o t
    at (passed f) = rw f
    at (failed f) = rw (e, f)

set_preceding_needed : (i : ℕ) (x : Process) (t : Turn) → t.process.preceding ≡ x.preceding
    → set_preceding (choose (eqb x.preceding 0) i 0) t ≡ set_preceding i t
unfolding set_preceding
set_preceding_needed i x t e = at (tested (eqb x.preceding 0))
  where
    at : Tested (eqb x.preceding 0) → set_preceding (choose (eqb x.preceding 0) i 0) t ≡ set_preceding i t
    at (passed f) = rw f
    at (failed f) = rw (e, f)

turn_needed : (m : Message) (o i p : ℕ) (x : Process) → turn m (out_needed m x o) (in_needed m x i) p x ≡ turn m o i p x
unfolding turn
turn_needed Suc o i p x = ap (λ (t : Turn). rule4 (rule3 t)) (set_succeeding_needed o x (rule1 p x) (rule1_plain p x).succeeding)
turn_needed Pre o i p x = ap (λ (t : Turn). rule4 (rule3 t)) (set_preceding_needed i x (rule1 p x) (rule1_plain p x).preceding)
turn_needed (Ack c) o i p x = refl

-- a degree that is not used is 0
choose_few : (t : Bool) {o : ℕ} → o ≤ most_processes → choose t o 0 ≤ most_processes
choose_few true h = h
choose_few false h = omega arith

out_few : (m : Message) (x : Process) {o : ℕ} → o ≤ most_processes → out_needed m x o ≤ most_processes
out_few Suc x h = choose_few (eqb x.succeeding 0) h
out_few Pre x h = omega arith
out_few (Ack c) x h = omega arith

in_few : (m : Message) (x : Process) {i : ℕ} → i ≤ most_processes → in_needed m x i ≤ most_processes
in_few Suc x h = omega arith
in_few Pre x h = choose_few (eqb x.preceding 0) h
in_few (Ack c) x h = omega arith

pub lent_needed : (m : Message) (o i : ℕ) (x : Process) → o ≤ most_processes → i ≤ most_processes
    → lent_in_range m (out_needed m x o) (in_needed m x i) x ≡ lent_in_range m o i x
unfolding lent_in_range
lent_needed m o i x h k =
    rw (le-leb (out_needed m x o) _ (out_few m x h), le-leb (in_needed m x i) _ (in_few m x k), le-leb o most_processes h, le-leb i most_processes k)

pub stepped_needed : (m : Message) (o i p : ℕ) (x : Process) → o ≤ most_processes → i ≤ most_processes
    → stepped m (out_needed m x o) (in_needed m x i) p x ≡ stepped m o i p x
unfolding stepped step_number
stepped_needed m o i p x h k = rw (lent_needed m o i x h k, turn_needed m o i p x)

pub stepped_inside :
    (m : Message) (o i p : ℕ) (x : Process) → lent_in_range m o i x ≡ true → (p ≡ 0 → ⊥) → p ≤ most_processes →
    stepped m o i p x ≡ answered (choose (not (fitting m x (turn m o i p x))) 22 0) (turn m o i p x)
unfolding stepped step_number
stepped_inside m o i p x e n h = rw (e, ne_eqb p 0 n, le-ltb most_processes p h)

-- ---- the number of an answer

-- .. where a test chooses what it is made of
chosen_said : (b : Bool) (k l : ℕ) (t : Turn) → number_of (answered k t) ≡ k → number_of (answered l t) ≡ l
    → number_of (answered (choose b k l) t) ≡ choose b k l
chosen_said true k l t h g = h
chosen_said false k l t h g = g

pub stepped_said : (m : Message) (o i p : ℕ) (x : Process) → number_of (stepped m o i p x) ≡ step_number m o i p x
unfolding stepped step_number
stepped_said m o i p x =
    let t : Turn = turn m o i p x in
    chosen_said (not (lent_in_range m o i x)) 21 _ t refl
    (chosen_said (eqb p 0 || ltb most_processes p) 25 _ t refl
    (chosen_said (not (fitting m x t)) 22 0 t refl refl))

pub start_stepped_said :
    (m : Message) (p : ℕ) (x : Process) → number_of (start_stepped m p x) ≡ choose (not (fitting m x (start_turn m p x))) 22 0
unfolding start_stepped
start_stepped_said m p x = chosen_said (not (fitting m x (start_turn m p x))) 22 0 (start_turn m p x) refl refl

-- ---- a broadcast

pub chain_none : (y : Probes) → chain_of y ≡ None → y ≡ Probes.Nothing
chain_none Probes.Nothing e = refl
chain_none Sucs e = let clash : ◌≡◌ {A = ℕ} 0 1 = cc in absurd (omega arith)
chain_none Pres e = let clash : ◌≡◌ {A = ℕ} 0 1 = cc in absurd (omega arith)

pub chain_some : (y : Probes) (c : Chain) → chain_of y ≡ Some c → y ≡ probes_of c
chain_some Probes.Nothing c e = let clash : ◌≡◌ {A = ℕ} 0 1 = cc in absurd (omega arith)
chain_some Sucs c e = let is : Out ≡ c = cc in ap probes_of is
chain_some Pres c e = let is : In ≡ c = cc in ap probes_of is

-- ---- an acknowledgement

-- two acknowledgements that are one go to one process, with the same counts
pub acknowledgement_to : {p q : ℕ} {c d : TwoCounts} → acknowledgement p c ≡ acknowledgement q d → q ≡ p
acknowledgement_to r = sym (ap receiver r)

pub acknowledgement_counts : {p q : ℕ} {c d : TwoCounts} → acknowledgement p c ≡ acknowledgement q d → c ≡ d
acknowledgement_counts r = ap counts_replied r

-- none is none to anybody
pub unanswered : (p : ℕ) (c : TwoCounts) → None ≡ acknowledgement p c → ⊥
unanswered p c r = let clash : ◌≡◌ {A = ℕ} 0 1 = cc in omega arith

-- ---- a record in range

pub own_count_small : (o : ℕ) → small (pos (own_count o)) ≡ true
unfolding own_count small
own_count_small o = at (eqb o 0)
  where
    at : (b : Bool) → leb (bit b) most_count ≡ true
    at true = refl
    at false = refl

pub in_range_P : (x : Process) → in_range x ≡ true → RecordInRange x
unfolding in_range small
in_range_P x e =
    let s : Bool = leb x.succeeding 1 in
    let p : Bool = leb x.preceding 1 in
    let u : Bool = leb x.subordinate 1 in
    let c : Bool = leb (nat_abs x.cs) most_count in
    let n : Bool = leb x.num most_num in
    let d : Bool = leb (nat_abs x.second) most_count in
    let e₅ : (s && p && u && c && n) ≡ true = and_left (s && p && u && c && n) d e in
    let e₄ : (s && p && u && c) ≡ true = and_left (s && p && u && c) n e₅ in
    let e₃ : (s && p && u) ≡ true = and_left (s && p && u) c e₄ in
    let e₂ : (s && p) ≡ true = and_left (s && p) u e₃ in
    record {
      succeeding = leb-true x.succeeding 1 (and_left s p e₂);
      preceding = leb-true x.preceding 1 (and_right s p e₂);
      subordinate = leb-true x.subordinate 1 (and_right (s && p) u e₃);
      cs = leb-true (nat_abs x.cs) most_count (and_right (s && p && u) c e₄);
      num = leb-true x.num most_num (and_right (s && p && u && c) n e₅);
      second = leb-true (nat_abs x.second) most_count (and_right (s && p && u && c && n) d e);
    }
