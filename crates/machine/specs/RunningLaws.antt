-- Running on, turn by turn, over any chooser: what `run_from` gives by the first thing that is met, where k deliveries are to be made in all
-- and so many are.
--   from_over, from_spent, from_more, go_on_by   == by the first thing that is met, where k are still to be made
--   run_from_over, run_from_spent, run_from_refused   == it ends here
--   run_from_next      == one more delivery is made
-- Assumes nothing.
use Prim.Native.Nat.{ℕ, zero, suc, ◌+◌, ◌-◌, ◌≤◌, ◌<◌}
use Rattle.std.specs.Prelude.{true, false, ◌≡◌, Ok, Err}
use Rattle.std.proofs.Math.Path.{ap}
use Rattle.std.proofs.Common.{◌∙◌}
use native.Mathlib.Omega.{arith}
use Rattle.refusals.specs.declared.Refusal.{Refusal}
use Rattle.machine.specs.declared.Ran.{Ran}
use Rattle.machine.specs.declared.Ran.TheVariants.{Spent}
use Rattle.machine.specs.Machine.{Machine, Rules, over}
use Rattle.machine.specs.Calls.{Answer, given, refusal, Picked, Chooser, RanOn, go_on, deliver_on, run_from}

-- a turn by the answer of its delivery
module _ {P M : Type 0} (made : ℕ) (p : Picked P M) (rest : Machine P M → RanOn P M) where
  pub go_on_by : (x : Answer M) → p.answer ≡ x → go_on made p rest ≡ go_on made (record { answer = x; run = p.run }) rest
  go_on_by x e = rw e

module _ {P M : Type 0} (ρ : Rules P M) (next : Chooser P M) (s : ℕ) (r : Machine P M) where
  pub from_over : (j made : ℕ) → over ρ r ≡ true → run_from ρ next j made s r ≡ record { answer = Ok (Ran.Over made); run = r }
  unfolding run_from
  from_over zero made o = rw o
  from_over (suc j) made o = rw (run_from, o)

  pub from_spent : (made : ℕ) → over ρ r ≡ false → run_from ρ next 0 made s r ≡ record { answer = Ok (Spent made); run = r }
  unfolding run_from
  from_spent made o = rw o

  pub from_more : (j made : ℕ) → over ρ r ≡ false
      → run_from ρ next (suc j) made s r ≡ go_on made (deliver_on ρ r (next s r).0) (λ q. run_from ρ next j (suc made) (next s r).1 q)
  unfolding run_from
  from_more j made o = rw (run_from, o)

  module _ (k made : ℕ) where
    pub run_from_over : over ρ r ≡ true → run_from ρ next (k - made) made s r ≡ record { answer = Ok (Ran.Over made); run = r }
    run_from_over o = from_over (k - made) made o

    module _ (o : over ρ r ≡ false) where
      pub run_from_spent : k ≤ made → run_from ρ next (k - made) made s r ≡ record { answer = Ok (Spent made); run = r }
      run_from_spent u = let z : k - made ≡ 0 = omega arith in rw z (from_spent made o)

      module _ (u : made < k) where
        rest : Machine P M → RanOn P M
        rest q = run_from ρ next (k - (made + 1)) (suc made) (next s r).1 q

        turn :
            run_from ρ next (k - made) made s r ≡
            go_on made (deliver_on ρ r (next s r).0) rest
        unfolding rest
        turn =
            let left : k - made ≡ suc (k - (made + 1)) = omega arith in
            ap (λ (j : ℕ). run_from ρ next j made s r) left ∙ from_more (k - (made + 1)) made o

        pub run_from_refused :
            (e : Refusal) → (deliver_on ρ r (next s r).0).answer ≡ refusal e →
            run_from ρ next (k - made) made s r ≡ record { answer = Err (record { refusal = e; made = made }); run = (deliver_on ρ r (next s r).0).run }
        run_from_refused e d = turn ∙ go_on_by made (deliver_on ρ r (next s r).0) rest (refusal e) d

        pub run_from_next :
            (m : M) → (deliver_on ρ r (next s r).0).answer ≡ given m →
            run_from ρ next (k - made) made s r ≡ run_from ρ next (k - (made + 1)) (made + 1) (next s r).1 (deliver_on ρ r (next s r).0).run
        unfolding rest
        run_from_next m d =
            let up : suc made ≡ made + 1 = omega arith in
            turn ∙ go_on_by made (deliver_on ρ r (next s r).0) rest (given m) d ∙
            ap (λ (i : ℕ). run_from ρ next (k - (made + 1)) i (next s r).1 (deliver_on ρ r (next s r).0).run) up
