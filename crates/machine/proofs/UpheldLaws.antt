-- The common part of the promise over all lists of calls.
--   upheld_rest, upheld_empty   == once a run is over, no process waits for an acknowledgement, and no message waits
--   upheld_busy         == until then the start waits for one
--   upheld_taken, upheld_goes_on   == .. and a message waits on some link, and a pick takes each that waits, at its place
--   upheld_ends         == running on in any order that names a link with a message ends over, or it is spent
--   upheld_runs_out     == .. with as many deliveries as are left it ends over
--   upheld_spent        == .. with fewer it makes them all and is spent
--   upheld_list         == after every list of calls: what the list came to, and the invariants
-- Assumes nothing.
use Rattle.std.specs.Prelude.{ℕ, zero, suc, ◌+◌, ◌≤◌, ◌<◌, false, List, [], ◌∷◌, ◌≡◌, length, Ok}
use Rattle.std.proofs.Math.Bool.{true}
use Rattle.std.proofs.lemmas.Bool.{false≢true}
use Rattle.std.proofs.Math.Path.{refl}
use Rattle.std.proofs.Common.{ap, ap₂, ◌∙◌}
use native.Mathlib.Omega.{arith}
use borrow.Author.Tests.{eqb-true, eqb-false}
use Rattle.base.specs.ChoiceLaws.{tested}
use Rattle.base.specs.Checks.{Tested, passed, failed}
use Rattle.tables.specs.Table.{IsProcess}
use Rattle.tables.specs.Waits.{Waits, neighbours}
use Rattle.machine.specs.declared.Ran.{Ran}
use Rattle.machine.specs.declared.Ran.TheVariants.{Spent}
use Rattle.machine.specs.Machine.{Machine, Rules, over, accepts}
use Rattle.machine.specs.Calls.{behind, at_place, delivered, deliver, pick, given, Selection, nobody, pair, waiting, Chooser, RanOn}
use Rattle.machine.specs.Calls.{deliver_on, run_from, ran_made}
use Rattle.machine.specs.Lists.{Call, Reads, in_turn, passed_by, SomeWaits, Taken, Waiting}
use Rattle.machine.specs.Made.{Finds, Chooses, RunMade, PassMade}
use Rattle.machine.proofs.MadeLaws.{made_waits, made_start, made_count, made_keeps, deliver_cut, run_from_made, passed_made}
use Rattle.machine.specs.FormedLaws.{well_formed_P}
use Rattle.machine.specs.Among.{Among, oldest, Here}
use Rattle.machine.proofs.PlaceLaws.{at_place_here}
use Rattle.machine.specs.RunningLaws.{go_on_by, from_over, from_spent, from_more}
use Rattle.machine.specs.Diffusing.{Quota}
use Rattle.machine.specs.RestLaws.{rest_empty, something_waits, link_neighbours}
use Rattle.machine.specs.TreeLaws.{all_rest}
use Rattle.machine.specs.Upheld.{Upheld, Turned, RanOut, RanShort}

module _ {P M : Type 0} {ρ : Rules P M} {quota : Quota P} {asked : Reads P M} {I : Machine P M → Type 0} (up : Upheld ρ quota asked I)
    (r : Machine P M) (i : I r) where
  over_num : over ρ r ≡ true → ρ.num (r.process r.start) ≡ 0
  unfolding over
  over_num e = eqb-true (ρ.num (r.process r.start)) 0 e

  pub upheld_busy : over ρ r ≡ false → 1 ≤ ρ.num (r.process r.start)
  unfolding over
  upheld_busy e = let d = eqb-false (ρ.num (r.process r.start)) 0 e in omega arith

  start_is_in : IsProcess r.waits.n r.start
  start_is_in = ((well_formed_P ρ r).0 (up.sure.formed r i)).start_is_in

  pub upheld_rest : over ρ r ≡ true → (j : ℕ) → IsProcess r.waits.n j → ρ.num (r.process j) ≡ 0
  upheld_rest e = all_rest (up.diffusing r i) (up.treed r i) (over_num e)

  pub upheld_empty : over ρ r ≡ true → (a b : ℕ) → IsProcess r.waits.n a → IsProcess r.waits.n b → r.link a b ≡ []
  upheld_empty e = rest_empty (up.diffusing r i) (upheld_rest e)

  -- every message that waits is taken, whichever is named
  module _ (o : over ρ r ≡ false) (a b k : ℕ) (pa : IsProcess r.waits.n a) (pb : IsProcess r.waits.n b) where
    pub upheld_taken : 1 ≤ k → k ≤ length (r.link a b) → Taken ρ r a b k
    unfolding pick delivered
    upheld_taken l u =
        let h : Here k (r.link a b) = at_place_here k (r.link a b) l u in
        let near : neighbours r.waits a b ≡ true = link_neighbours (up.diffusing r i) (up.near r i) pa pb (omega arith) in
        let ok : accepts ρ r a b h.message h.rest ≡ true = up.sure.accepted r i a b pa pb h.message h.rest h.among in
        record {
          message = h.message;
          rest = h.rest;
          waits = h.is;
          accepted = rw (up.sure.formed r i, near, o, deliver_cut ρ r a b k (r.link a b) h.is, ok);
        }

  pub upheld_goes_on : over ρ r ≡ false → Waiting ρ r.waits r
  upheld_goes_on o = record { somewhere = something_waits (up.diffusing r i) start_is_in (upheld_busy o); each = upheld_taken o }

module _ {P M : Type 0} {ρ : Rules P M} {quota : Quota P} {asked : Reads P M} {I : Machine P M → Type 0} (up : Upheld ρ quota asked I)
    (next : Chooser P M) (finds : Finds next) where
  pub upheld_list :
      (cs : List Call) (r : Machine P M) → I r →
      PassMade ρ r (in_turn (passed_by ρ next asked) cs r) × I (in_turn (passed_by ρ next asked) cs r).left
  upheld_list cs r i =
      let p : PassMade ρ r (in_turn (passed_by ρ next asked) cs r) = passed_made ρ next asked finds I up.sure cs r i in
      (p, made_keeps I up.sure.kept i p.made)

-- ---- running on to the end

-- over after at most k deliveries, or spent after all k, where so many were made before
data Ends {P M : Type 0} (ρ : Rules P M) (k made : ℕ) (x : RanOn P M) : Type 0 where
  ends_over : (j : ℕ) → j ≤ k → x.answer ≡ Ok (Ran.Over (made + j)) → over ρ x.run ≡ true → Ends ρ k made x
  ends_spent : x.answer ≡ Ok (Spent (made + k)) → over ρ x.run ≡ false → Ends ρ k made x

module _ {P M : Type 0} {ρ : Rules P M} {quota : Quota P} {asked : Reads P M} {I : Machine P M → Type 0} (up : Upheld ρ quota asked I)
    {next : Chooser P M} (chooses : Chooses next) where
  -- until the run is over, a delivery in the order is accepted
  upheld_turn : (s : ℕ) (r : Machine P M) → I r → over ρ r ≡ false → Turned I (deliver_on ρ r (next s r).0)
  unfolding at_place behind deliver delivered deliver_on
  upheld_turn s r i o = at (next s r).0 refl
    where
      waits : SomeWaits r.waits r
      waits = something_waits (up.diffusing r i) (start_is_in up r i) (upheld_busy up r i o)

      on : (a b : ℕ) → IsProcess r.waits.n a → IsProcess r.waits.n b → (ms : List M) → waiting ms ≡ true → r.link a b ≡ ms
          → Turned I (deliver ρ r a b 1 ms)
      on a b pa pb [] w l = absurd (false≢true w)
      on a b pa pb (m ∷ rest) w l =
          let j : Among m rest (r.link a b) = rw l oldest in
          let ok : accepts ρ r a b m rest ≡ true = up.sure.accepted r i a b pa pb m rest j in
          rw ok (record { message = m; gives = refl; keeps = up.sure.kept r i a b pa pb m rest j ok })

      at : (c : Selection) → (next s r).0 ≡ c → Turned I (deliver_on ρ r c)
      at nobody e =
          absurd (omega (arith, waits.some, ap length (chooses.nothing s r e waits.sender waits.receiver waits.sender_in waits.receiver_in)))
      at (pair a b) e =
          let p = chooses.finds s r a b e in
          on a b p.0 p.1 (r.link a b) (chooses.waits s r a b e) refl

  -- the one induction over running on in such an order
  upheld_ends : (k made s : ℕ) (r : Machine P M) → I r → Ends ρ k made (run_from ρ next k made s r)
  upheld_ends zero made s r i = at (tested (over ρ r))
    where
      at : Tested (over ρ r) → Ends ρ zero made (run_from ρ next zero made s r)
      at (passed o) = rw (from_over ρ next s r zero made o) (ends_over 0 (omega arith) (ap (λ n. Ok (Ran.Over n)) (omega arith)) o)
      at (failed o) = rw (from_spent ρ next s r made o) (ends_spent (ap (λ n. Ok (Spent n)) (omega arith)) o)
  upheld_ends (suc k) made s r i = at (tested (over ρ r)) (λ q. upheld_ends k (suc made) (next s r).1 q)
    where
      rest : Machine P M → RanOn P M
      rest q = run_from ρ next k (suc made) (next s r).1 q

      one_more : {x : RanOn P M} → Ends ρ k (suc made) x → Ends ρ (suc k) made x
      one_more (ends_over j u e o) = ends_over (suc j) (omega arith) (e ∙ ap (λ n. Ok (Ran.Over n)) (omega arith)) o
      one_more (ends_spent e o) = ends_spent (e ∙ ap (λ n. Ok (Spent n)) (omega arith)) o

      at : Tested (over ρ r) → ((q : Machine P M) → I q → Ends ρ k (suc made) (rest q)) → Ends ρ (suc k) made (run_from ρ next (suc k) made s r)
      at (passed o) go = rw (from_over ρ next s r (suc k) made o) (ends_over 0 (omega arith) (ap (λ n. Ok (Ran.Over n)) (omega arith)) o)
      at (failed o) go =
          let t : Turned I (deliver_on ρ r (next s r).0) = upheld_turn s r i o in
          rw (from_more ρ next s r k made o, go_on_by made (deliver_on ρ r (next s r).0) rest (given t.message) t.gives)
          (one_more (go (deliver_on ρ r (next s r).0).run t.keeps))

  module _ (d : Waits → ℕ → ℕ) where
    -- what running on leaves: the invariants, the same d, and a count by what was made
    module _ (k made s : ℕ) (r : Machine P M) (i : I r) where
      ran : RunMade ρ r made (run_from ρ next k made s r)
      ran = run_from_made ρ next chooses.finds k made s r

      left_holds : I (run_from ρ next k made s r).run
      left_holds = made_keeps I up.sure.kept i ran.made

      left_d : d (run_from ρ next k made s r).run.waits (run_from ρ next k made s r).run.start ≡ d r.waits r.start
      left_d = ap₂ d (made_waits ran.made) (made_start ran.made)

      left_count : made + (run_from ρ next k made s r).run.count ≡ ran_made (run_from ρ next k made s r).answer + r.count
      left_count = omega (arith, ran.all, made_count ran.made)

    -- so many deliveries as are left, or more, bring the run to its end; d is the number that no run reaches before
    pub upheld_runs_out :
        ((r : Machine P M) → I r → over ρ r ≡ false → r.count < d r.waits r.start) →
        (k made s : ℕ) (r : Machine P M) → I r → d r.waits r.start ≤ r.count + k → RanOut ρ (run_from ρ next k made s r)
    upheld_runs_out before k made s r i u = at (upheld_ends k made s r i)
      where
        at : Ends ρ k made (run_from ρ next k made s r) → RanOut ρ (run_from ρ next k made s r)
        at (ends_over j _ e o) = record { made = made + j; says = e; ended = o }
        at (ends_spent e o) =
            absurd (omega (arith, before _ (left_holds k made s r i) o, left_d k made s r i, left_count k made s r i, ap ran_made e))

    -- fewer deliveries than are left are all made, and do not; d is the number that a run has reached at its end
    pub upheld_spent :
        ((r : Machine P M) → I r → over ρ r ≡ true → d r.waits r.start ≤ r.count) →
        (k made s : ℕ) (r : Machine P M) → I r → r.count + k < d r.waits r.start → RanShort ρ (made + k) (run_from ρ next k made s r)
    upheld_spent reached k made s r i u = at (upheld_ends k made s r i)
      where
        at : Ends ρ k made (run_from ρ next k made s r) → RanShort ρ (made + k) (run_from ρ next k made s r)
        at (ends_over j v e o) =
            absurd (omega (arith, reached _ (left_holds k made s r i) o, left_d k made s r i, left_count k made s r i, ap ran_made e))
        at (ends_spent e o) = record { says = e; goes_on = o }
