-- The lines of the picks and of the program's own deliveries, one by one, in a tested area.
--   picked                   == the run in the area that a pick leaves
--   picks_next, picks_none   == the line of pick j, and those from the area that it leaves; none is left
--   ran_out                  == the run in the area once running on has ended
--   own_full                 == no line once as many deliveries are made as a run counts at most
--   own_next                 == the line of the next delivery, and what follows it
--   follows_made, follows_none   == by whether the delivery was made: the lines from the area that it leaves on, or none
-- Assumes nothing.
use Rattle.std.proofs.Common.{ℕ, suc, ◌+◌, ◌-◌, ◌≤◌, ◌<◌, true, false, List, [], ◌++◌, ◌≡◌, refl, sym, ap, ◌∙◌, arith, ℤ, Result, Ok, Err}
use Rattle.machine.specs.Calls.{Selection, nobody, pair, lowest, fixed_order, run_from}
use Rattle.machine.specs.Calls as Machines
use Rattle.steps.specs.declared.Message.{Message}
use Rattle.refusals.specs.declared.Refusal.{Refusal}
use Rattle.tables.specs.declared.Sizes.{Sizes}
use Rattle.checks.specs.Run.{Run, knot, over, well_formed}
use Rattle.checks.specs.Calls.{pick, deliver_on, delivery_made}
use Rattle.areas.specs.Area.{fields_in, run_in, keeping}
use Rattle.lenses.specs.Ready.{Ready}
use Rattle.lenses.specs.ReadyLaws.{right_storable, keeping_run}
use Rattle.lenses.proofs.Holding.{holding_first, holding_run}
use Rattle.delivery.specs.StorableLaws.{storable_pick, storable_run_on}
use Rattle.choosing.specs.OrderLaws.{lowest_names}
use Rattle.choosing.specs.Answers.{chosen_answer, next_of}
use Rattle.choosing.proofs.OnLink.{holding-next-of}
use Rattle.area_calls.specs.AreaCalls.{pick_answer, pick_area}
use Rattle.inputs.specs.declared.Pick.{Pick}
use Rattle.inputs.specs.Input.{pick_from, pick_to, pick_in}
use Rattle.program_text.specs.OwnLaws.{own_turn}
use Rattle.program_text.specs.Program.{end_run, pick_line, picks_text, own_line, unless_refused, next_chosen, own_text}

-- ---- the picks

module _ {w : List ℤ} {s : Sizes} (y : Ready w s) where
  -- the run that a pick leaves
  pub picked : (a b : ℕ) → run_in (pick_area w a b 1) ≡ (pick (run_in w) a b 1).run
  unfolding pick_area
  picked a b =
      let e = y.right in
      rw e (keeping_run w e (pick (run_in w) a b 1).run (storable_pick (fields_in w) (run_in w) (right_storable w e) a b 1))

  answered : (a b : ℕ) → pick_answer w a b 1 ≡ (pick (run_in w) a b 1).answer
  unfolding pick_answer
  answered a b = rw y.right

module _ (bs : List ℕ) (picks j : ℕ) where
  pub picks_none : (r : Run) → picks ≤ j → picks_text bs j (picks - j) r ≡ []
  unfolding picks_text
  picks_none r h = let z : picks - j ≡ 0 = omega arith in ap (λ (k : ℕ). picks_text bs j k r) z

  module _ {w : List ℤ} {s : Sizes} (y : Ready w s) where
    pub picks_next : j < picks → (p : Pick) → p ≡ pick_in bs j → {v : List ℤ} → v ≡ pick_area w p.from p.to 1
        → picks_text bs j (picks - j) (run_in w) ≡ pick_line p.from p.to (pick_answer w p.from p.to 1) ++ picks_text bs (j + 1) (picks - (j + 1)) (run_in v)
    unfolding picks_text pick_in
    picks_next h p e f =
        let more : picks - j ≡ suc (picks - (j + 1)) = omega arith in
        let up : suc j ≡ j + 1 = omega arith in
        ap (λ (k : ℕ). picks_text bs j k (run_in w)) more
        ∙ rw (f, e, picked y (pick_from bs j) (pick_to bs j), answered y (pick_from bs j) (pick_to bs j), up)

-- ---- the program's own deliveries

-- the run in the area once running on has ended
ran_is : (r : Run) → well_formed r ≡ true → (run_from knot fixed_order knot.most 0 0 r).run ≡ end_run r
unfolding Machines.run_on
ran_is r e = rw (end_run, e)

pub ran_out : {w : List ℤ} {s : Sizes} (y : Ready w s) {v : List ℤ}
    → v ≡ keeping w (run_from knot fixed_order knot.most 0 0 (run_in w)).run → run_in v ≡ end_run (run_in w)
ran_out {w} y e =
    let f = right_storable w y.right in
    let is = ran_is (run_in w) f.formed in
    ap run_in (e ∙ ap (keeping w) is) ∙ keeping_run w y.right (end_run (run_in w)) (storable_run_on (fields_in w) knot.most (run_in w) f)

pub own_full : (most made : ℕ) (r : Run) → most ≤ made → own_text (most - made) r ≡ []
unfolding own_text
own_full most made r h = let z : most - made ≡ 0 = omega arith in ap (λ (k : ℕ). own_text k r) z

-- what follows the delivery on a choice, by whether it was made
module _ (r : Run) (t : List ℕ) where
  made_on : (c : Selection) → delivery_made (deliver_on r c).answer ≡ 1 → unless_refused (chosen_answer c (deliver_on r c).answer) t ≡ t
  unfolding Machines.deliver_on
  made_on nobody e = absurd (omega arith)
  made_on (pair a b) e = at (deliver_on r (pair a b)).answer e
    where
      at : (x : Result Message Refusal) → delivery_made x ≡ 1 → unless_refused (chosen_answer (pair a b) x) t ≡ t
      at (Ok m) e = refl
      at (Err n) e = absurd (omega arith)

  none_on : (c : Selection) (x : Result Message Refusal) → delivery_made x ≡ 0 → unless_refused (chosen_answer c x) t ≡ []
  none_on nobody (Ok m) e = absurd (omega arith)
  none_on nobody (Err n) e = refl
  none_on (pair a b) (Ok m) e = absurd (omega arith)
  none_on (pair a b) (Err n) e = refl

module _ {w : List ℤ} {s : Sizes} (y : Ready w s) (o : over (run_in w) ≡ false) (most made : ℕ) (h : made < most) where
  -- the lines from the area on that the delivery leaves
  module _ {v : List ℤ} (e : v ≡ keeping w (next_of (run_in w)).run) where
    next_run : run_in v ≡ (next_of (run_in w)).run
    next_run = holding_run y (holding-next-of lowest_names y (holding_first y) e)

    pub own_next : own_text (most - made) (run_in w)
        ≡ own_line (next_chosen (run_in w)) ++ unless_refused (next_chosen (run_in w)) (own_text (most - (made + 1)) (run_in v))
    own_next =
        let more : most - made ≡ suc (most - (made + 1)) = omega arith in
        ap (λ (k : ℕ). own_text k (run_in w)) more ∙ own_turn (most - (made + 1)) (run_in w) o
        ∙ ap (λ (q : Run). own_line (next_chosen (run_in w)) ++ unless_refused (next_chosen (run_in w)) (own_text (most - (made + 1)) q)) (sym next_run)

pub follows_made : (r : Run) (t : List ℕ) → delivery_made (next_of r).answer ≡ 1 → unless_refused (next_chosen r) t ≡ t
follows_made r t e = made_on r t (lowest r) e

pub follows_none : (r : Run) (t : List ℕ) → delivery_made (next_of r).answer ≡ 0 → unless_refused (next_chosen r) t ≡ []
follows_none r t e = none_on r t (lowest r) (next_of r).answer e
