-- Laws of what a delivery does, in weights.
--   after_moved     == the run after a delivery is so
--   moved_at        == what holds of each process before a delivery, and of the receiver's new record, holds of each after it
--   start_at, start_own   == what holds of the start's first record and of an idle one holds of each process at the start
--   sum_moved, sum_of_moved, total_moved   == how sums over processes and over links change
-- Assumes nothing.
use Prim.Native.Nat.{ℕ, ◌+◌, ◌≤◌}
use Rattle.std.specs.Prelude.{◌&&◌, List, ◌++◌, ◌≡◌, refl, eqb}
use Rattle.std.proofs.Math.Path.{ap}
use Rattle.std.proofs.Common.{subst, ◌∙◌, eq-eqb}
use native.Mathlib.Omega.{arith}
use Rattle.base.specs.Choice.{choose}
use Rattle.base.specs.ChoiceLaws.{same?}
use Rattle.base.specs.Checks.{Same, same, apart}
use Rattle.base.specs.Sums.{sum_to, spot}
use Rattle.base.specs.SumLaws.{sum_to_cong, sum_to_add, sum_to_spot}
use Rattle.tables.specs.Waits.{Waits}
use Rattle.machine.specs.Machine.{Machine, Left, Rules, taken, left_by, after, start_run}
use Rattle.machine.specs.Weights.{weight, spot2, total, sum_of}
use Rattle.machine.specs.WeightLaws.{weight_append, spot2_at, spot2_off_x, spot2_off_y, sum_to_change, sum_spot}
use Rattle.machine.specs.Moved.{Moved}
use Rattle.machine.specs.Among.{Among}
use Rattle.machine.specs.AmongLaws.{among_weight}

-- ---- the run after a delivery

module _ {P M : Type 0} (r : Machine P M) (a b : ℕ) (m : M) (rest : List M) (l : Among m rest (r.link a b)) (μ : M → ℕ) (x y : ℕ) where
  taken_weight : weight μ (taken r a b rest x y) + spot2 a b (μ m) x y ≡ weight μ (r.link x y)
  unfolding taken weight
  taken_weight = at (same? x a) (same? y b)
    where
      whole : weight μ rest + μ m ≡ weight μ (r.link a b)
      whole = omega (arith, among_weight l μ)

      at : Same x a → Same y b → weight μ (choose (eqb x a && eqb y b) rest (r.link x y)) + spot2 a b (μ m) x y ≡ weight μ (r.link x y)
      at (same e f) (same e' f') = rw (f, f', e, e', spot2_at a b (μ m)) whole
      at (same e f) (apart e' f') = let z : spot2 a b (μ m) x y ≡ 0 = spot2_off_y a b (μ m) x y e' in rw (f, f') (omega arith)
      at (apart e f) d = let z : spot2 a b (μ m) x y ≡ 0 = spot2_off_x a b (μ m) x y e in rw f (omega arith)

  -- what a step of b puts on its links, whatever the step is
  put_weight :
      (s : List M) →
      weight μ (choose (eqb x b) (taken r a b rest x y ++ s) (taken r a b rest x y)) + spot2 a b (μ m) x y ≡ weight μ (r.link x y) + spot b (weight μ s) x
  unfolding spot
  put_weight s = at (same? x b)
    where
      at : Same x b
          → weight μ (choose (eqb x b) (taken r a b rest x y ++ s) (taken r a b rest x y)) + spot2 a b (μ m) x y
          ≡ weight μ (r.link x y) + choose (eqb x b) (weight μ s) 0
      at (same e f) = rw f (omega (arith, taken_weight, weight_append μ (taken r a b rest x y) s))
      at (apart e f) = rw f (omega (arith, taken_weight))

module _ {P M : Type 0} (ρ : Rules P M) where
  pub after_moved :
      (r : Machine P M) (a b : ℕ) (m : M) (rest : List M) → Among m rest (r.link a b) →
      Moved r.waits r a b m (left_by ρ r a b m) (after ρ r a b m rest)
  unfolding after weight
  after_moved r a b m rest l =
      record {
        count = refl;
        others = λ p h. other p (same? p b) h;
        receiver = mine (same? b b);
        waited = λ μ. has μ;
        weights = λ μ x y. put_weight r a b m rest l μ x y ((left_by ρ r a b m).sent y);
      }
    where
      other : (p : ℕ) → Same p b → (p ≡ b → ⊥) → choose (eqb p b) (left_by ρ r a b m).process (r.process p) ≡ r.process p
      other p (same e f) h = absurd (h e)
      other p (apart e f) h = rw f

      mine : Same b b → choose (eqb b b) (left_by ρ r a b m).process (r.process b) ≡ (left_by ρ r a b m).process
      mine (same e f) = rw f
      mine (apart e f) = absurd (e refl)

      has : (μ : M → ℕ) → μ m ≤ weight μ (r.link a b)
      has μ = omega (arith, among_weight l μ)

  pub start_at : (w : Waits) (s ed : ℕ) (Q : P → Type 0) → Q (ρ.first w s) → Q ρ.idle → (i : ℕ) → Q ((start_run ρ w s ed).process i)
  unfolding start_run
  start_at w s ed Q own rest i = at (same? i s)
    where
      at : Same i s → Q (choose (eqb i s) (ρ.first w s) ρ.idle)
      at (same _ e) = rw e own
      at (apart _ e) = rw e rest

  pub start_own : (w : Waits) (s ed : ℕ) → (start_run ρ w s ed).process s ≡ ρ.first w s
  unfolding start_run
  start_own w s ed = rw (eq-eqb s s refl)

-- ---- sums

module _ {P M : Type 0} {w : Waits} {r q : Machine P M} {a b : ℕ} {m : M} {t : Left P M} (mv : Moved w r a b m t q) where
  pub moved_at : (Q : ℕ → P → Type 0) → Q b t.process → (i : ℕ) → Q i (r.process i) → Q i (q.process i)
  moved_at Q new i old = at (same? i b)
    where
      at : Same i b → Q i (q.process i)
      at (same e _) = rw (e, mv.receiver) new
      at (apart e _) = rw (mv.others i e) old

module _ {P M : Type 0} {w : Waits} {r q : Machine P M} {a b : ℕ} {m : M} {t : Left P M} (mv : Moved w r a b m t q) (lb : 1 ≤ b) (ub : b ≤ w.n) where
  -- a sum over all processes changes at the receiver alone
  pub sum_moved : (f : ℕ → P → ℕ) → sum_to w.n (λ p. f p (q.process p)) + f b (r.process b) ≡ sum_to w.n (λ p. f p (r.process p)) + f b t.process
  sum_moved f =
      let e : sum_to w.n (λ p. f p (q.process p)) + f b (r.process b) ≡ sum_to w.n (λ p. f p (r.process p)) + f b (q.process b) =
      sum_to_change w.n b (λ p. f p (q.process p)) (λ p. f p (r.process p)) lb ub (λ k h. ap (f k) (mv.others k h)) in
      subst (λ (x : P). sum_to w.n (λ p. f p (q.process p)) + f b (r.process b) ≡ sum_to w.n (λ p. f p (r.process p)) + f b x) mv.receiver e

  pub sum_of_moved : (f : P → ℕ) → sum_of w.n f q + f (r.process b) ≡ sum_of w.n f r + f t.process
  unfolding sum_of
  sum_of_moved f = sum_moved (λ _. f)

  -- a sum over all links loses the message taken and gains what the step put on the receiver's links
  pub total_moved : 1 ≤ a → a ≤ w.n → (μ : M → ℕ) → total w.n μ q + μ m ≡ total w.n μ r + sum_to w.n (λ y. weight μ (t.sent y))
  unfolding total spot2
  total_moved la ua μ =
      let n : ℕ = w.n in
      let on : ℕ → ℕ = λ x. sum_to n (λ y. weight μ (q.link x y)) in
      let was : ℕ → ℕ = λ x. sum_to n (λ y. weight μ (r.link x y)) in
      let sent : ℕ = sum_to n (λ y. weight μ (t.sent y)) in
      let points : sum_to n (λ x. on x + spot a (μ m) x) ≡ sum_to n (λ x. was x + spot b sent x) = sum_to_cong n _ _ (λ x _ _. row x) in
      let left : sum_to n (λ x. on x + spot a (μ m) x) ≡ sum_to n on + sum_to n (spot a (μ m)) = sum_to_add n on (spot a (μ m)) in
      let right : sum_to n (λ x. was x + spot b sent x) ≡ sum_to n was + sum_to n (spot b sent) = sum_to_add n was (spot b sent) in
      let one : sum_to n (spot a (μ m)) ≡ μ m = sum_to_spot n a (μ m) la ua in
      let two : sum_to n (spot b sent) ≡ sent = sum_to_spot n b sent lb ub in
      omega arith
    where
      row : (x : ℕ)
          → sum_to w.n (λ y. weight μ (q.link x y)) + spot a (μ m) x
          ≡ sum_to w.n (λ y. weight μ (r.link x y)) + spot b (sum_to w.n (λ y. weight μ (t.sent y))) x
      row x =
          let n : ℕ = w.n in
          let points : sum_to n (λ y. weight μ (q.link x y) + spot a (spot b (μ m) y) x) ≡ sum_to n
          (λ y. weight μ (r.link x y) + spot b (weight μ (t.sent y)) x) = sum_to_cong n _ _ (λ y _ _. mv.weights μ x y) in
          let left : sum_to n (λ y. weight μ (q.link x y) + spot a (spot b (μ m) y) x) ≡ sum_to n (λ y. weight μ (q.link x y)) + sum_to n
          (λ y. spot a (spot b (μ m) y) x) = sum_to_add n _ _ in
          let right : sum_to n (λ y. weight μ (r.link x y) + spot b (weight μ (t.sent y)) x) ≡ sum_to n (λ y. weight μ (r.link x y)) + sum_to n
          (λ y. spot b (weight μ (t.sent y)) x) = sum_to_add n _ _ in
          let off : sum_to n (λ y. spot a (spot b (μ m) y) x) ≡ spot a (μ m) x =
          sum_spot n a (spot b (μ m)) x ∙ ap (λ (v : ℕ). spot a v x) (sum_to_spot n b (μ m) lb ub) in
          let put : sum_to n (λ y. spot b (weight μ (t.sent y)) x) ≡ spot b (sum_to n (λ y. weight μ (t.sent y))) x =
          sum_spot n b (λ y. weight μ (t.sent y)) x in
          omega arith
