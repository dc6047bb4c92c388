-- Running on, turn by turn, in an area and in any order: what holds at the head of a turn, each way out of it, and the next turn.
--   Turn next seed w k area made s   == made deliveries are done and the order's state is s: the area is w with the run of now in it, and what
--                             is left to do is what was to do
--   Ended next seed w k x area   == what running on from w ends with: the answer x and the area
--   turn_first             == the first turn
--   turn_over, turn_spent, turn_refused   == each way out
--   turn_next              == the next turn
--   turn_full              == the area when k are made, over or not
--   turn_unmade, turn_made == the way out and the next turn by the number that the delivery made, 0 or 1
-- Assumes nothing.
use Rattle.std.proofs.Common.{ℕ, ◌+◌, ◌-◌, ◌≤◌, ◌<◌, Bool, true, false, List, ◌≡◌, refl, sym, ap, ◌∙◌, subst, arith, ℤ, Result, Ok, Err}
use Rattle.base.specs.ChoiceLaws.{tested}
use Rattle.base.specs.Checks.{Tested, passed, failed}
use Rattle.refusals.specs.declared.Refusal.{Refusal}
use Rattle.tables.specs.declared.Sizes.{Sizes}
use Rattle.steps.specs.declared.Message.{Message}
use Rattle.machine.specs.declared.Ran.{Ran}
use Rattle.machine.specs.declared.Ran.TheVariants.{Over, Spent}
use Rattle.machine.specs.declared.Halted.{Halted}
use Rattle.machine.specs.Calls.{Selection, Chooser, RanOn, deliver_on, run_from}
use Rattle.machine.specs.RunningLaws.{run_from_over, run_from_spent, run_from_refused, run_from_next}
use Rattle.steps.specs.declared.Process.{Process}
use Rattle.checks.specs.Run.{Run, knot, over}
use Rattle.checks.specs.AnswerLaws.{delivery_of_refused, delivery_of_delivered}
use Rattle.checks.specs.Calls.{delivery_made}
use Rattle.areas.specs.Area.{run_in, keeping}
use Rattle.lenses.specs.Ready.{Ready}
use Rattle.lenses.proofs.Holding.{Holding, holding_first, holding_run}
use Rattle.choosing.specs.OrderLaws.{Names}
use Rattle.choosing.proofs.OnLink.{on, holding-next-of}

-- the order, and the state that it begins with
module _ (next : Chooser Process Message) (seed : ℕ) where
  -- the link that is chosen in a state
  abbrev picks : ℕ → Run → Selection
  picks s r = (next s r).0

  abbrev ran : ℕ → List ℤ → RanOn Process Message
  ran k w = run_from knot next k 0 seed (run_in w)

  pub record Turn (w : List ℤ) (k : ℕ) (area : List ℤ) (made s : ℕ) : Type 0 where
    pub holds : Holding w area (run_in area)
    pub rest : ran k w ≡ run_from knot next (k - made) made s (run_in area)

  -- what the loop ends with
  abbrev Ended : List ℤ → ℕ → Result Ran Halted → List ℤ → Type 0
  Ended w k x area = (x ≡ (ran k w).answer) × (area ≡ keeping w (ran k w).run)

  ended : (k : ℕ) {w : List ℤ} {x : Result Ran Halted} {area : List ℤ} {r : Run} → ran k w ≡ record { answer = x; run = r } → Holding w area r → Ended w k x area
  ended k {w} e h = (sym (ap (λ (o : RanOn Process Message). o.answer) e), h.is ∙ sym (ap (λ (o : RanOn Process Message). keeping w o.run) e))

  module _ {w : List ℤ} {z : Sizes} {k : ℕ} (y : Ready w z) where
    pub turn_first : Turn w k w 0 seed
    turn_first =
        let z : k ≡ k - 0 = omega arith in
        record { holds = holding_first y; rest = ap (λ (j : ℕ). run_from knot next j 0 seed (run_in w)) z }

    module _ {area : List ℤ} {made s : ℕ} (t : Turn w k area made s) {o : Bool} (e : o ≡ over (run_in area)) where
      pub turn_over : o ≡ true → Ended w k (Ok (Over made)) area
      turn_over f = ended k (t.rest ∙ run_from_over knot next s (run_in area) k made (sym e ∙ f)) t.holds

      module _ (f : o ≡ false) where
        pub turn_spent : k ≤ made → Ended w k (Ok (Spent made)) area
        turn_spent u = ended k (t.rest ∙ run_from_spent knot next s (run_in area) k made (sym e ∙ f) u) t.holds

        -- the delivery leaves the area v
        module _ (named : Names (picks s)) (u : made < k) {v : List ℤ} (d : v ≡ keeping area (on (picks s) (run_in area)).run) where
          next_holds : Holding w v (on (picks s) (run_in area)).run
          next_holds = holding-next-of named y t.holds d

          pub turn_refused : {e : Refusal} → (on (picks s) (run_in area)).answer ≡ Err e → Ended w k (Err (record { refusal = e; made = made })) v
          turn_refused p =
              let r = run_in area in
              let o = delivery_of_refused (deliver_on knot r (picks s r)).answer p in
              ended k (t.rest ∙ run_from_refused knot next s r k made (sym e ∙ f) u _ o) next_holds

          pub turn_next : {z : Message} → (on (picks s) (run_in area)).answer ≡ Ok z → Turn w k v (made + 1) (next s (run_in area)).1
          turn_next {z} p =
              let r = run_in area in
              let q : (on (picks s) r).run ≡ run_in v = sym (holding_run y next_holds) in
              record {
                holds = subst (Holding w v) q next_holds;
                rest =
                    t.rest ∙ run_from_next knot next s r k made (sym e ∙ f) u z (delivery_of_delivered (deliver_on knot r (picks s r)).answer p)
                    ∙ ap (run_from knot next (k - (made + 1)) (made + 1) (next s r).1) q;
              }

          -- by the number made: none, and nothing more is done; or one
          pub turn_unmade : delivery_made (on (picks s) (run_in area)).answer ≡ 0 → v ≡ keeping w (ran k w).run
          turn_unmade z = at (on (picks s) (run_in area)).answer refl
            where
              at : (x : Result Message Refusal) → (on (picks s) (run_in area)).answer ≡ x → v ≡ keeping w (ran k w).run
              at (Err i) p = (turn_refused p).1
              at (Ok m) p = absurd (omega (arith, ap delivery_made p))

          pub turn_made : delivery_made (on (picks s) (run_in area)).answer ≡ 1 → Turn w k v (made + 1) (next s (run_in area)).1
          turn_made z = at (on (picks s) (run_in area)).answer refl
            where
              at : (x : Result Message Refusal) → (on (picks s) (run_in area)).answer ≡ x → Turn w k v (made + 1) (next s (run_in area)).1
              at (Err i) p = absurd (omega (arith, ap delivery_made p))
              at (Ok m) p = turn_next p

    pub turn_full : {area : List ℤ} {made s : ℕ} → Turn w k area made s → k ≤ made → area ≡ keeping w (ran k w).run
    turn_full {area} t u = at (tested (over (run_in area)))
      where
        at : Tested (over (run_in area)) → area ≡ keeping w (ran k w).run
        at (passed f) = (turn_over t refl f).1
        at (failed f) = (turn_spent t refl f u).1
