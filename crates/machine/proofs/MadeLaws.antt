-- Picks, running on and lists of calls are accepted deliveries: the one induction over running on, and over lists.
--   answered_listed     == the numbers that may be answered, in a list
--   made_waits, made_start, made_edition, made_count   == what deliveries keep, and how they count
--   made_then           == deliveries after deliveries
--   made_keeps          == what every accepted delivery keeps holds after any number of them
--   deliver_cut, deliver_oldest   == a delivery by what is found at its place; place 1 is the oldest message
--   deliver_made, pick_made, run_from_made, run_on_made, run_shuffled_made   == what a call does, as deliveries, and the number that it answers
--   passed_made         == every list of calls is so many accepted deliveries, and keeps such an invariant; its numbers are Answered
-- Assumes nothing.
use Prim.Native.Nat.{ℕ, zero, suc, ◌+◌}
use Rattle.std.proofs.Math.Bool.{true, false}
use Rattle.std.specs.Prelude.{not, ◌≡◌, eqb, Result, Ok}
use Rattle.std.proofs.lemmas.Bool.{false≢true}
use mathlib.Core.List.Memᴰ
use mathlib.Core.List.{List, [], ◌∷◌, Memᴰ}
use Rattle.std.proofs.Math.Path.{refl}
use Rattle.std.proofs.Common.{sym, ◌∙◌, subst}
use Rattle.std.proofs.Math.Logic.{⊎_elim}
use native.Mathlib.Omega.{arith}
use Rattle.base.specs.Choice.{choose}
use Rattle.base.specs.ChoiceLaws.{tested}
use Rattle.base.specs.Checks.{Tested, passed, failed}
use Rattle.refusals.specs.Numbers.{number}
use Rattle.tables.specs.Waits.{neighbours}
use Rattle.tables.specs.Sound.{Sound}
use Rattle.tables.specs.Table.{IsProcess}
use Rattle.tables.specs.WaitsLaws.{neighbours_ends}
use Rattle.machine.specs.declared.Ran.{Ran}
use Rattle.machine.specs.declared.Ran.TheVariants.{Spent}
use Rattle.machine.specs.declared.Halted.{Halted}
use Rattle.machine.specs.Machine.{Machine, Rules, over, well_formed, after, accepts}
use Rattle.machine.specs.Calls.{Answer, given, refusal, Picked, refused, Cut, cut, behind, at_place, delivered, deliver, pick}
use Rattle.machine.specs.Calls.{Selection, nobody, pair, Chooser, RanOn, not_run, go_on, deliver_on, run_from, run_on, ran_number, ran_made}
use Rattle.machine.specs.Calls.{shuffled_order, run_shuffled}
use Rattle.machine.specs.Lists.{Call, picking, running_on, running_shuffled, reporting, reading, Passed, Reads}
use Rattle.machine.specs.Lists.{accepted_pick, answer_number, in_turn, passed_by}
use Rattle.machine.specs.Made.{Made, none, more, Stopped, went, nothing, no_place, full}
use Rattle.machine.specs.Made.{Answered, none_refused, was_over, none_waits, no_link, not_over, beyond, no_seed}
use Rattle.machine.specs.Made.{Finds, PickMade, RunMade, Sure, PassMade}
use Rattle.machine.proofs.ChooserLaws.{shuffled_order_chooses}
use Rattle.machine.specs.Among.{Among, Placed, there, not_there}
use Rattle.machine.specs.AmongLaws.{between_among}
use Rattle.machine.proofs.PlaceLaws.{at_place_P, cut_placed}

-- ---- numbers

-- the numbers that a call may answer, in a list
pub answered_listed : {n : ℕ} → Answered n → Memᴰ n (0 ∷ 23 ∷ 24 ∷ 25 ∷ 26 ∷ 31 ∷ 37 ∷ [])
answered_listed none_refused = Memᴰ.head refl
answered_listed was_over = Memᴰ.tail (Memᴰ.head refl)
answered_listed none_waits = Memᴰ.tail (Memᴰ.tail (Memᴰ.head refl))
answered_listed no_link = Memᴰ.tail (Memᴰ.tail (Memᴰ.tail (Memᴰ.head refl)))
answered_listed not_over = Memᴰ.tail (Memᴰ.tail (Memᴰ.tail (Memᴰ.tail (Memᴰ.head refl))))
answered_listed beyond = Memᴰ.tail (Memᴰ.tail (Memᴰ.tail (Memᴰ.tail (Memᴰ.tail (Memᴰ.head refl)))))
answered_listed no_seed =
    Memᴰ.tail (Memᴰ.tail (Memᴰ.tail (Memᴰ.tail (Memᴰ.tail (Memᴰ.tail (Memᴰ.head refl))))))

-- ---- deliveries

module _ {P M : Type 0} {ρ : Rules P M} {r : Machine P M} where
  pub made_waits : {k : ℕ} {q : Machine P M} → Made ρ r k q → q.waits ≡ r.waits
  unfolding after
  made_waits none = refl
  made_waits (more d a b pa pb m rest l e) = made_waits d

  pub made_start : {k : ℕ} {q : Machine P M} → Made ρ r k q → q.start ≡ r.start
  unfolding after
  made_start none = refl
  made_start (more d a b pa pb m rest l e) = made_start d

  -- "Open payments keep the edition they began under." (02, N4)
  pub made_edition : {k : ℕ} {q : Machine P M} → Made ρ r k q → q.edition ≡ r.edition
  unfolding after
  made_edition none = refl
  made_edition (more d a b pa pb m rest l e) = made_edition d

  pub made_count : {k : ℕ} {q : Machine P M} → Made ρ r k q → q.count ≡ r.count + k
  unfolding after
  made_count none = omega arith
  made_count (more d a b pa pb m rest l e) = omega (arith, made_count d)

  pub made_keeps :
      (I : Machine P M → Type 0) →
      ((q : Machine P M) → I q → (a b : ℕ) → IsProcess q.waits.n a → IsProcess q.waits.n b → (m : M) (rest : List M) → Among m rest (q.link a b)
      → accepts ρ q a b m rest ≡ true → I (after ρ q a b m rest)) →
      I r → {k : ℕ} {q : Machine P M} → Made ρ r k q → I q
  made_keeps I step i none = i
  made_keeps I step i (more {q = q} d a b pa pb m rest l e) = step q (made_keeps I step i d) a b pa pb m rest l e

made_then : {P M : Type 0} {ρ : Rules P M} {r q p : Machine P M} {k l : ℕ} → Made ρ r k q → Made ρ q l p → Made ρ r (k + l) p
made_then {P} {M} {ρ} {r} {q} {p} {k} {l} x none = let e : k ≡ k + 0 = omega arith in subst (λ (j : ℕ). Made ρ r j q) e x
made_then {P} {M} {ρ} {r} {q} {p} {k} {l} x (more {k = j} {q = o} d a b pa pb m rest li e) =
    let up : suc (k + j) ≡ k + suc j = omega arith in
    subst (λ (i : ℕ). Made ρ r i (after ρ o a b m rest)) up (more (made_then x d) a b pa pb m rest li e)

-- ---- a delivery

module _ {P M : Type 0} (ρ : Rules P M) (r : Machine P M) where
  -- a delivery by what is found at its place
  pub deliver_cut : (a b k : ℕ) (ms : List M) {m : M} {rest : List M} → at_place k ms ≡ cut m rest → deliver ρ r a b k ms ≡ delivered ρ r a b (cut m rest)
  unfolding deliver
  deliver_cut a b k [] e = absurd (omega (arith, (cut_placed k [] e).1))
  deliver_cut a b k (x ∷ xs) e = rw e

  -- place 1 is the oldest message: the others stay as they stand
  pub deliver_oldest : (a b : ℕ) (m : M) (rest : List M) → deliver ρ r a b 1 (m ∷ rest) ≡ delivered ρ r a b (cut m rest)
  unfolding behind at_place deliver
  deliver_oldest a b m rest = refl

  -- the delivery of what is found at a place
  delivered_made :
      (a b k : ℕ) → IsProcess r.waits.n a → IsProcess r.waits.n b → {f : Cut M} → Placed k (r.link a b) f → PickMade ρ r (delivered ρ r a b f)
  unfolding delivered
  delivered_made a b k pa pb (not_there _) = record { made = none; stopped = no_place }
  delivered_made a b k pa pb (there {m} {rest} h) = at (tested (accepts ρ r a b m rest))
    where
      l : Among m rest (r.link a b)
      l = between_among h

      at : Tested (accepts ρ r a b m rest)
          → PickMade ρ r (choose (accepts ρ r a b m rest) (record { answer = given m; run = after ρ r a b m rest }) (refused 22 r))
      at (passed e) = rw e (record { made = more none a b pa pb m rest l e; stopped = went })
      at (failed e) = rw e (record { made = none; stopped = full a b pa pb m rest l e })

  pub deliver_made :
      (a b k : ℕ) → IsProcess r.waits.n a → IsProcess r.waits.n b → (ms : List M) → r.link a b ≡ ms → PickMade ρ r (deliver ρ r a b k ms)
  unfolding deliver
  deliver_made a b k pa pb [] l = record { made = none; stopped = nothing }
  deliver_made a b k pa pb (m ∷ ms) l = delivered_made a b k pa pb (rw l (at_place_P k (m ∷ ms)))

  pub deliver_on_made : (c : Selection) → ((a b : ℕ) → c ≡ pair a b → IsProcess r.waits.n a × IsProcess r.waits.n b) → PickMade ρ r (deliver_on ρ r c)
  unfolding deliver_on
  deliver_on_made nobody h = record { made = none; stopped = nothing }
  deliver_on_made (pair a b) h = deliver_made a b 1 (h a b refl).0 (h a b refl).1 (r.link a b) refl

  -- a pick of any run: nothing, or one delivery
  pub pick_made : Sound r.waits → (a b k : ℕ) → Made ρ r (accepted_pick (pick ρ r a b k).answer) (pick ρ r a b k).run
  unfolding pick
  pick_made sd a b k = at (tested (well_formed ρ r)) (tested (neighbours r.waits a b)) (tested (over ρ r))
    where
      at :
          Tested (well_formed ρ r) → Tested (neighbours r.waits a b) → Tested (over ρ r) →
          Made ρ r (accepted_pick (pick ρ r a b k).answer) (pick ρ r a b k).run
      at (failed f) e o = rw f none
      at (passed f) (failed e) o = rw (f, e) none
      at (passed f) (passed e) (passed o) = rw (f, e, o) none
      at (passed f) (passed e) (failed o) =
          let j = neighbours_ends r.waits sd a b e in
          rw (f, e, o) (deliver_made a b k (j.0, j.1) (j.2, j.3) (r.link a b) refl).made

-- ---- running on

-- after a delivery it goes on; a refusal ends it at the run that it refused
go_on_made :
    {P M : Type 0} (ρ : Rules P M) (r : Machine P M) (before : ℕ) (p : Picked P M) (rest : Machine P M → RanOn P M) → PickMade ρ r p →
    ((q : Machine P M) → RunMade ρ q (suc before) (rest q)) → RunMade ρ r before (go_on before p rest)
go_on_made {P} {M} ρ r before p rest pm go = at p.answer refl
  where
    at : (x : Answer M) → p.answer ≡ x → RunMade ρ r before (go_on before p rest)
    at (refusal x) e =
        let d : Made ρ r 0 p.run = subst (λ (y : Answer M). Made ρ r (accepted_pick y) p.run) e pm.made in
        let s : Stopped ρ r (number x) = subst (λ (y : Answer M). Stopped ρ r (answer_number y)) e pm.stopped in
        rw e (record { k = 0; all = omega arith; made = d; stopped = subst (λ (q : Machine P M). Stopped ρ q (number x)) (same_run d) s })
      where
        same_run : {q : Machine P M} → Made ρ r 0 q → r ≡ q
        same_run none = refl
    at (given m) e =
        let d : Made ρ r 1 p.run = subst (λ (y : Answer M). Made ρ r (accepted_pick y) p.run) e pm.made in
        let g : RunMade ρ p.run (suc before) (rest p.run) = go p.run in
        rw e (record { k = 1 + g.k; all = omega (arith, g.all); made = made_then d g.made; stopped = g.stopped })

module _ {P M : Type 0} (ρ : Rules P M) (next : Chooser P M) (finds : Finds next) where
  ended_run : (r : Machine P M) (before : ℕ) (x : Result Ran Halted) → ran_made x ≡ before → ran_number x ≡ 0 → RunMade ρ r before (record { answer = x; run = r })
  ended_run r before x e z = record { k = 0; all = omega (arith, e); made = none; stopped = rw z went }

  pub run_from_made : (k before s : ℕ) (r : Machine P M) → RunMade ρ r before (run_from ρ next k before s r)
  unfolding run_from
  run_from_made zero before s r = at (tested (over ρ r))
    where
      at : Tested (over ρ r)
          → RunMade ρ r before (choose (over ρ r) (record { answer = Ok (Ran.Over before); run = r }) (record { answer = Ok (Spent before); run = r }))
      at (passed e) = rw e (ended_run r before (Ok (Ran.Over before)) refl refl)
      at (failed e) = rw e (ended_run r before (Ok (Spent before)) refl refl)
  run_from_made (suc k) before s r = at (tested (over ρ r)) (λ q. run_from_made k (suc before) (next s r).1 q)
    where
      at : Tested (over ρ r) → ((q : Machine P M) → RunMade ρ q (suc before) (run_from ρ next k (suc before) (next s r).1 q))
          → RunMade ρ r before (elim (over ρ r) [
            | true ↦ record { answer = Ok (Ran.Over before); run = r }
            | false ↦ go_on before
                (deliver_on ρ r (next s r).0) (λ q. run_from ρ next k (suc before) (next s r).1 q)
          ])
      at (passed e) go = rw e (ended_run r before (Ok (Ran.Over before)) refl refl)
      at (failed e) go =
          rw e (go_on_made ρ r before (deliver_on ρ r (next s r).0) (λ q. run_from ρ next k (suc before) (next s r).1 q)
          (deliver_on_made ρ r (next s r).0 (finds s r)) go)

  -- so many deliveries as it says
  from_made : (k s : ℕ) (r : Machine P M) → Made ρ r (ran_made (run_from ρ next k 0 s r).answer) (run_from ρ next k 0 s r).run
  from_made k s r =
      let p : RunMade ρ r 0 (run_from ρ next k 0 s r) = run_from_made k 0 s r in
      let same : ran_made (run_from ρ next k 0 s r).answer ≡ p.k = omega (arith, p.all) in
      rw same p.made

  -- running on from any run
  pub run_on_made : (k s : ℕ) (r : Machine P M) → Made ρ r (ran_made (run_on ρ next k s r).answer) (run_on ρ next k s r).run
  unfolding run_on
  run_on_made k s r = at (tested (well_formed ρ r))
    where
      at : Tested (well_formed ρ r) → Made ρ r (ran_made (run_on ρ next k s r).answer) (run_on ρ next k s r).run
      at (failed f) = rw f none
      at (passed f) = rw f (from_made k s r)

-- the same with a seed
module _ {P M : Type 0} (ρ : Rules P M) where
  pub run_shuffled_made : (k seed : ℕ) (r : Machine P M) → Made ρ r (ran_made (run_shuffled ρ k seed r).answer) (run_shuffled ρ k seed r).run
  unfolding run_shuffled
  run_shuffled_made k seed r = at (tested (well_formed ρ r)) (tested (eqb seed 0))
    where
      at : Tested (well_formed ρ r) → Tested (eqb seed 0) → Made ρ r (ran_made (run_shuffled ρ k seed r).answer) (run_shuffled ρ k seed r).run
      at (failed f) _ = rw f none
      at (passed f) (passed z) = rw (f, z) none
      at (passed f) (failed z) = rw (f, z) (from_made ρ shuffled_order shuffled_order_chooses.finds k seed r)

-- ---- lists

module _ {P M : Type 0} (ρ : Rules P M) (next : Chooser P M) (asked : Reads P M) (finds : Finds next) (I : Machine P M → Type 0) (sure : Sure ρ asked I) where
  -- a delivery from such a run meets no 22
  stopped_answered : (r : Machine P M) → I r → {n : ℕ} → Stopped ρ r n → Answered n
  stopped_answered r i went = none_refused
  stopped_answered r i nothing = none_waits
  stopped_answered r i no_place = beyond
  stopped_answered r i (full a b pa pb m rest l e) = absurd (false≢true (sym e ∙ sure.accepted r i a b pa pb m rest l))

  single : (x : ℕ) → Answered x → (n : ℕ) → Memᴰ n (x ∷ []) → Answered n
  single x h n i = rw (Memᴰ.eq_of_singleton i) h

  record PickAnswered (r : Machine P M) (p : Picked P M) : Type 0 where
    made : Made ρ r (accepted_pick p.answer) p.run
    answered : Answered (answer_number p.answer)

  pick_answered : (r : Machine P M) → I r → (a b k : ℕ) → PickAnswered r (pick ρ r a b k)
  unfolding pick
  pick_answered r i a b k = rw (sure.formed r i) (at (tested (neighbours r.waits a b)) (tested (over ρ r)))
    where
      at : Tested (neighbours r.waits a b) → Tested (over ρ r)
          → PickAnswered r (choose (not (neighbours r.waits a b)) (refused 25 r) (choose (over ρ r) (refused 23 r) (deliver ρ r a b k (r.link a b))))
      at (failed e) o = rw e (record { made = none; answered = no_link })
      at (passed e) (passed o) = rw (e, o) (record { made = none; answered = was_over })
      at (passed e) (failed o) =
          let j = neighbours_ends r.waits (sure.sound r i) a b e in
          let d = deliver_made ρ r a b k (j.0, j.1) (j.2, j.3) (r.link a b) refl in
          rw (e, o) (record { made = d.made; answered = stopped_answered r i d.stopped })

  -- the deliveries of a running on in any order, from any state
  abbrev ran_by : RanOn P M → Passed (Machine P M)
  ran_by x = record { left = x.run; made = ran_made x.answer; numbers = ran_number x.answer ∷ [] }

  ran_made_is : (order : Chooser P M) → Finds order → (k s : ℕ) (r : Machine P M) → I r → PassMade ρ r (ran_by (run_from ρ order k 0 s r))
  ran_made_is order named k s r i =
      let p : RunMade ρ r 0 (run_from ρ order k 0 s r) = run_from_made ρ order named k 0 s r in
      record {
        made = from_made ρ order named k s r;
        answered =
            single (ran_number (run_from ρ order k 0 s r).answer)
            (stopped_answered (run_from ρ order k 0 s r).run (made_keeps I sure.kept i p.made) p.stopped);
      }

  call_made : (c : Call) (r : Machine P M) → I r → PassMade ρ r (passed_by ρ next asked c r)
  unfolding run_on run_shuffled
  call_made (picking a b k) r i =
      let p = pick_answered r i a b k in record { made = p.made; answered = single (answer_number (pick ρ r a b k).answer) p.answered }
  call_made (running_on k) r i = rw (sure.formed r i) (ran_made_is next finds k 0 r i)
  call_made (running_shuffled k seed) r i = rw (sure.formed r i) (at (tested (eqb seed 0)))
    where
      at : Tested (eqb seed 0) → PassMade ρ r (ran_by (choose (eqb seed 0) (not_run 37 r) (run_from ρ shuffled_order k 0 seed r)))
      at (passed z) = rw z (record { made = none; answered = single 37 no_seed })
      at (failed z) = rw z (ran_made_is shuffled_order shuffled_order_chooses.finds k seed r i)
  call_made reporting r i = record { made = none; answered = single (asked.report r) (sure.reports r i) }
  call_made (reading p) r i = record { made = none; answered = single (asked.reading r p) (sure.readings r i p) }

  pub passed_made : (cs : List Call) (r : Machine P M) → I r → PassMade ρ r (in_turn (passed_by ρ next asked) cs r)
  unfolding in_turn
  passed_made [] r i = record { made = none; answered = λ n j. absurd (Memᴰ.not-nil j) }
  passed_made (c ∷ cs) r i =
      let one : PassMade ρ r (passed_by ρ next asked c r) = call_made c r i in
      let q : Machine P M = (passed_by ρ next asked c r).left in
      let rest : PassMade ρ q (in_turn (passed_by ρ next asked) cs q) = passed_made cs q (made_keeps I sure.kept i one.made) in
      record {
        made = made_then one.made rest.made;
        answered = λ n j. ⊎_elim (λ x. one.answered n x) (λ x. rest.answered n x) (Memᴰ.append_cases (passed_by ρ next asked c r).numbers j);
      }
