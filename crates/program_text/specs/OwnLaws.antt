-- The lines of the program's own deliveries, by the first thing that is met, and all of them.
--   own_over         == the run is over
--   own_turn         == one delivery more
--   own_lines        == where running on ends over they are the lines of the deliveries that it makes, from the run before to the run that it leaves
-- Assumes nothing.
use Rattle.std.specs.Prelude.{ℕ, zero, suc, true, false, [], ◌++◌, ◌≡◌, Result, Ok, Err}
use Rattle.std.proofs.Math.Path.{refl}
use Rattle.std.proofs.Common.{sym, ap, ◌∙◌, arith}
use Rattle.base.specs.ChoiceLaws.{tested}
use Rattle.base.specs.Checks.{Tested, passed, failed}
use Rattle.refusals.specs.declared.Refusal.{Refusal}
use Rattle.machine.specs.declared.Halted.{Halted}
use Rattle.machine.specs.declared.Ran.{Ran}
use Rattle.machine.specs.declared.Ran.TheVariants.{Spent}
use Rattle.machine.specs.Calls as Machines
use Rattle.machine.specs.Calls.{Answer, given, refusal, Selection, nobody, pair, lowest, fixed_order, RanOn, run_from}
use Rattle.machine.specs.RunningLaws.{from_over, from_spent, from_more, go_on_by}
use Rattle.steps.specs.declared.Message.{Message}
use Rattle.steps.specs.declared.Process.{Process}
use Rattle.checks.specs.Run.{Run, knot, over}
use Rattle.checks.specs.Calls.{delivery_of}
use Rattle.choosing.specs.declared.ChosenDelivery.{ChosenDelivery}
use Rattle.choosing.specs.Answers.{chosen_answer, next_of}
use Rattle.lines.specs.Text.{delivery_line}
use Rattle.program_text.specs.Program.{own_line, unless_refused, next_chosen, own_text}
use Rattle.program_text.specs.Own.{OwnLines, no_line, one_line}

pub own_over : (k : ℕ) (r : Run) → over r ≡ true → own_text k r ≡ []
unfolding own_text
own_over zero r o = refl
own_over (suc k) r o = rw (own_text, o)

pub own_turn : (k : ℕ) (r : Run) → over r ≡ false
    → own_text (suc k) r ≡ own_line (next_chosen r) ++ unless_refused (next_chosen r) (own_text k (next_of r).run)
unfolding own_text
own_turn k r o = rw (own_text, o)

-- ---- all of them

-- running on by up to k deliveries, i of which were made before
abbrev running : ℕ → ℕ → Run → RanOn Process Message
running k i r = run_from knot fixed_order k i 0 r

says : {o p : RanOn Process Message} → o ≡ p → {x : Result Ran Halted} → o.answer ≡ x → p.answer ≡ x
says e f = sym (ap (λ (z : RanOn Process Message). z.answer) e) ∙ f

made_all : {m n : ℕ} → ◌≡◌ {A = Result Ran Halted} (Ok (Ran.Over m)) (Ok (Ran.Over n)) → m ≡ n
made_all e = cc

not_spent : {m n : ℕ} → ◌≡◌ {A = Result Ran Halted} (Ok (Spent m)) (Ok (Ran.Over n)) → ⊥
not_spent e = let z : ◌≡◌ {A = ℕ} 0 1 = cc in absurd (omega arith)

not_refused : {h : Halted} {n : ℕ} → ◌≡◌ {A = Result Ran Halted} (Err h) (Ok (Ran.Over n)) → ⊥
not_refused e = let z : ◌≡◌ {A = ℕ} 0 1 = cc in absurd (omega arith)

not_given : {e : Refusal} {m : Message} → refusal e ≡ given m → ⊥
not_given e = let z : ◌≡◌ {A = ℕ} 0 1 = cc in absurd (omega arith)

-- the lines, if running on answers so
abbrev Told : ℕ → ℕ → ℕ → Run → Type 0
Told k i n r = (running k i r).answer ≡ Ok (Ran.Over n) → OwnLines i n r (running k i r).run (own_text k r)

last_told : (k i n : ℕ) (r : Run) → over r ≡ true → Told k i n r
last_told k i n r o h =
    let ends = from_over knot fixed_order 0 r k i o in
    rw (ends, own_over k r o, ← made_all (says ends h)) (no_line o)

-- one delivery more
module _ (k i n : ℕ) (r : Run) (o : over r ≡ false) where
  -- the whole running on, by the answer of its first delivery
  first : (x : Answer Message) → (Machines.deliver_on knot r (lowest r)).answer ≡ x
      → running (suc k) i r ≡ Machines.go_on i (record { answer = x; run = (next_of r).run }) (λ q. running k (suc i) q)
  first x p = from_more knot fixed_order 0 r k i o ∙ go_on_by i (Machines.deliver_on knot r (lowest r)) (λ q. running k (suc i) q) x p

  -- it is made on the link from a to b
  module _ (a b : ℕ) (m : Message) (e : lowest r ≡ pair a b) (p : (Machines.deliver_on knot r (lowest r)).answer ≡ given m) where
    chosen : next_chosen r ≡ Ok (record { from = a; to = b; message = m })
    chosen = ap (λ (x : Answer Message). chosen_answer (lowest r) (delivery_of x)) p ∙ ap (λ (c : Selection). chosen_answer c (delivery_of (given m))) e

    text : own_text (suc k) r ≡ delivery_line true a b m ++ own_text k (next_of r).run
    text = own_turn k r o ∙ ap (λ (d : Result ChosenDelivery Refusal). own_line d ++ unless_refused d (own_text k (next_of r).run)) chosen

  more_told : ((q : Run) → Told k (suc i) n q) → Told (suc k) i n r
  unfolding Machines.deliver_on
  more_told rest h = on (lowest r) refl (Machines.deliver_on knot r (lowest r)).answer refl
    where
      on : (c : Selection) → lowest r ≡ c → (x : Answer Message) → (Machines.deliver_on knot r (lowest r)).answer ≡ x
          → OwnLines i n r (running (suc k) i r).run (own_text (suc k) r)
      on c e (refusal z) p = absurd (not_refused (says (first (refusal z) p) h))
      on nobody e (given m) p = absurd (not_given (sym (ap (λ (c : Selection). (Machines.deliver_on knot r c).answer) e) ∙ p))
      on (pair a b) e (given m) p =
          let whole = first (given m) p in
          rw (whole, text a b m e p) (one_line a b m o (chosen a b m e p) (rest (next_of r).run (says whole h)))

pub own_lines : (k i n : ℕ) (r : Run) → (run_from knot fixed_order k i 0 r).answer ≡ Ok (Ran.Over n)
    → OwnLines i n r (run_from knot fixed_order k i 0 r).run (own_text k r)
own_lines zero i n r h = at (tested (over r))
  where
    at : Tested (over r) → OwnLines i n r (running zero i r).run (own_text zero r)
    at (passed o) = last_told zero i n r o h
    at (failed o) = absurd (not_spent (says (from_spent knot fixed_order 0 r i o) h))
own_lines (suc k) i n r h = at (tested (over r)) (own_lines k (suc i) n)
  where
    at : Tested (over r) → ((q : Run) → Told k (suc i) n q) → OwnLines i n r (running (suc k) i r).run (own_text (suc k) r)
    at (passed o) rest = last_told (suc k) i n r o h
    at (failed o) rest = more_told k i n r o rest h
