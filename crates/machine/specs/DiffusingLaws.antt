-- Each num counts the probes that are not acknowledged yet (Diffusing): so after the start, and every delivery keeps it so.
--   pending_moved       == how a delivery changes what is pending from i to j, for every pair
--   between_neighbours  == messages wait between neighbours alone
--   diffusing_start, diffusing_kept   == Diffusing holds after the start, and a delivery keeps it
--   work_start, work_moved   == each probe sent is two deliveries' work, from the start on
-- Assumes nothing.
use Prim.Native.Nat.{ℕ, ◌+◌, ◌*◌, ◌≤◌}
use Rattle.std.specs.Prelude.{Bool, [], ◌≡◌, ◌⊎◌, eqb}
use Rattle.std.proofs.Math.Bool.{true, false}
use Rattle.std.proofs.Math.Path.{refl, ap}
use Rattle.std.proofs.Common.{sym, ◌∙◌, inl, inr, eq-zero-or-pos}
use native.Mathlib.Omega.{arith}
use Rattle.base.specs.Choice.{choose}
use Rattle.base.specs.ChoiceLaws.{same?}
use Rattle.base.specs.Checks.{Same, same, apart}
use Rattle.base.specs.Sums.{sum_to, spot}
use Rattle.base.specs.SumLaws.{spot_at, spot_off, sum_to_cong, sum_to_add, sum_to_spot}
use Rattle.tables.specs.Waits.{Waits, neighbours}
use Rattle.tables.specs.Table.{IsProcess}
use Rattle.tables.specs.WaitsLaws.{neighbours_swap}
use Rattle.machine.specs.Machine.{Machine, Left, Rules, start_run}
use Rattle.machine.specs.Weights.{weight, probe_bit, ack_bit, spot2, total, sum_of, heir_of, pending, work}
use Rattle.machine.specs.WeightLaws.{probe_or_ack, heir_none, heir_start, spot2_swap, spot_zero, sum_spot, pending_probes, pending_acks}
use Rattle.machine.specs.Moved.{Moved}
use Rattle.machine.specs.MovedLaws.{sum_of_moved, total_moved, start_at}
use Rattle.machine.specs.Diffusing.{Quota, Near, Begins, Counted, Diffusing}

-- ---- one pair

module _ {P M : Type 0} {ρ : Rules P M} {quota : Quota P} {w : Waits} {s : ℕ} {r q : Machine P M} {a b : ℕ} {m : M} {t : Left P M}
    (mv : Moved w r a b m t q) (ct : Counted ρ quota w s a b m (r.process b) t) where
  -- at the receiver a probe becomes an acknowledgement or an heir
  pending_at : (i : ℕ) → pending ρ s q i b + spot2 b a (ack_bit ρ m) i b ≡ pending ρ s r i b + spot b (weight (probe_bit ρ) (t.sent b)) i
  unfolding pending spot2
  pending_at i =
      let probes = mv.weights (probe_bit ρ) i b in
      let acks = mv.weights (ack_bit ρ) b i in
      let turned : spot2 a b (ack_bit ρ m) b i ≡ spot2 b a (ack_bit ρ m) i b = spot2_swap a b (ack_bit ρ m) i b in
      let off : spot a (spot b (probe_bit ρ m) b) i ≡ spot a (probe_bit ρ m) i = ap (λ (v : ℕ). spot a v i) (spot_at b (probe_bit ρ m)) in
      let put : spot b (weight (ack_bit ρ) (t.sent i)) b ≡ weight (ack_bit ρ) (t.sent i) = spot_at b (weight (ack_bit ρ) (t.sent i)) in
      let heir = ct.heir i in
      rw mv.receiver (omega arith)

  pending_off : (i j : ℕ) → (j ≡ b → ⊥) → pending ρ s q i j + spot2 b a (ack_bit ρ m) i j ≡ pending ρ s r i j + spot b (weight (probe_bit ρ) (t.sent j)) i
  unfolding pending spot2
  pending_off i j h =
      let probes = mv.weights (probe_bit ρ) i j in
      let acks = mv.weights (ack_bit ρ) j i in
      let turned : spot2 a b (ack_bit ρ m) j i ≡ spot2 b a (ack_bit ρ m) i j = spot2_swap a b (ack_bit ρ m) i j in
      let off : spot a (spot b (probe_bit ρ m) j) i ≡ 0 = ap (λ (v : ℕ). spot a v i) (spot_off b (probe_bit ρ m) j h) ∙ spot_zero a i in
      let put : spot b (weight (ack_bit ρ) (t.sent i)) j ≡ 0 = spot_off b (weight (ack_bit ρ) (t.sent i)) j h in
      rw (mv.others j h) (omega arith)

  pending_moved : (i j : ℕ) → pending ρ s q i j + spot2 b a (ack_bit ρ m) i j ≡ pending ρ s r i j + spot b (weight (probe_bit ρ) (t.sent j)) i
  pending_moved i j = at (same? j b)
    where
      at : Same j b → pending ρ s q i j + spot2 b a (ack_bit ρ m) i j ≡ pending ρ s r i j + spot b (weight (probe_bit ρ) (t.sent j)) i
      at (same e _) = rw e (pending_at i)
      at (apart e _) = pending_off i j e

-- ---- neighbours

pub between_neighbours :
    {P M : Type 0} {ρ : Rules P M} {quota : Quota P} {w : Waits} {s : ℕ} {r : Machine P M} → Near quota w → Diffusing ρ quota w s r → {a b : ℕ} →
    IsProcess w.n a → IsProcess w.n b → 1 ≤ weight (probe_bit ρ) (r.link a b) + weight (ack_bit ρ) (r.link a b) → neighbours w a b ≡ true
between_neighbours {ρ = ρ} {w = w} {s = s} {r = r} near df {a} {b} pa pb h = at (eq-zero-or-pos (weight (probe_bit ρ) (r.link a b)))
  where
    at : (weight (probe_bit ρ) (r.link a b) ≡ 0) ⊎ (1 ≤ weight (probe_bit ρ) (r.link a b)) → neighbours w a b ≡ true
    at (inl e) = neighbours_swap w a b ∙ near b a (r.process b) (omega (arith, pending_acks ρ s r b a, df.pair b a pb pa))
    at (inr e) = near a b (r.process a) (omega (arith, pending_probes ρ s r a b, df.pair a b pa pb))

-- ---- a delivery

module _ {P M : Type 0} {ρ : Rules P M} {quota : Quota P} {w : Waits} {s : ℕ} {r q : Machine P M} {a b : ℕ} {m : M} {t : Left P M}
    (pa : IsProcess w.n a) (pb : IsProcess w.n b) (mv : Moved w r a b m t q) (ct : Counted ρ quota w s a b m (r.process b) t) where
  -- each probe sent is two deliveries' work
  pub work_moved : work ρ w.n q ≡ work ρ w.n r + 2 * sum_to w.n (λ y. weight (probe_bit ρ) (t.sent y))
  unfolding work
  work_moved =
      let wait = total_moved mv pb.0 pb.1 pa.0 pa.1 (probe_bit ρ) in
      let nums = sum_of_moved mv pb.0 pb.1 ρ.num in
      omega (arith, probe_or_ack ρ m, mv.count, ct.num)

module _ {P M : Type 0} {ρ : Rules P M} {quota : Quota P} {w : Waits} {s : ℕ} {r q : Machine P M} {a b : ℕ} {m : M} {t : Left P M}
    (near : Near quota w) (df : Diffusing ρ quota w s r) (pa : IsProcess w.n a) (pb : IsProcess w.n b) (mv : Moved w r a b m t q)
    (ct : Counted ρ quota w s a b m (r.process b) t) where
  sent : ℕ
  sent = sum_to w.n (λ y. weight (probe_bit ρ) (t.sent y))

  sum_pending : (i : ℕ) → sum_to w.n (λ j. pending ρ s q i j) + spot b (ack_bit ρ m) i ≡ sum_to w.n (λ j. pending ρ s r i j) + spot b sent i
  unfolding spot2 sent
  sum_pending i =
      let n : ℕ = w.n in
      let put : ℕ → ℕ = λ j. weight (probe_bit ρ) (t.sent j) in
      let points : sum_to n (λ j. pending ρ s q i j + spot b (spot a (ack_bit ρ m) j) i) ≡ sum_to n (λ j. pending ρ s r i j + spot b (put j) i) =
      sum_to_cong n _ _ (λ j _ _. pending_moved mv ct i j) in
      let left : sum_to n (λ j. pending ρ s q i j + spot b (spot a (ack_bit ρ m) j) i) ≡ sum_to n (λ j. pending ρ s q i j) + sum_to n
      (λ j. spot b (spot a (ack_bit ρ m) j) i) = sum_to_add n _ _ in
      let right : sum_to n (λ j. pending ρ s r i j + spot b (put j) i) ≡ sum_to n (λ j. pending ρ s r i j) + sum_to n (λ j. spot b (put j) i) = sum_to_add n _ _ in
      let off : sum_to n (λ j. spot b (spot a (ack_bit ρ m) j) i) ≡ spot b (ack_bit ρ m) i =
      sum_spot n b (spot a (ack_bit ρ m)) i ∙ ap (λ (v : ℕ). spot b v i) (sum_to_spot n a (ack_bit ρ m) pa.0 pa.1) in
      let on : sum_to n (λ j. spot b (put j) i) ≡ spot b (sum_to n put) i = sum_spot n b put i in
      omega arith

  kept_num : (i : ℕ) → IsProcess w.n i → ρ.num (q.process i) ≡ sum_to w.n (λ j. pending ρ s q i j)
  unfolding sent
  kept_num i pi = at (same? i b)
    where
      at : Same i b → ρ.num (q.process i) ≡ sum_to w.n (λ j. pending ρ s q i j)
      at (same e _) = rw (e, mv.receiver) (omega (arith, sum_pending b, spot_at b (ack_bit ρ m), spot_at b sent, ct.num, df.num b pb))
      at (apart e _) = rw (mv.others i e) (omega (arith, sum_pending i, spot_off b (ack_bit ρ m) i e, spot_off b sent i e, df.num i pi))

  kept_pair : (i j : ℕ) → IsProcess w.n i → IsProcess w.n j → pending ρ s q i j ≤ quota w i j (q.process i)
  kept_pair i j pi pj = at (same? i b)
    where
      at : Same i b → pending ρ s q i j ≤ quota w i j (q.process i)
      at (same e _) =
          rw (e, mv.receiver)
          (omega (arith, pending_moved mv ct b j, spot_at b (weight (probe_bit ρ) (t.sent j)), df.pair b j pb pj, ct.pair j))
      at (apart e _) =
          rw (mv.others i e)
          (omega (arith, pending_moved mv ct i j, spot_off b (weight (probe_bit ρ) (t.sent j)) i e, df.pair i j pi pj))

  kept_father_in : (j : ℕ) → IsProcess w.n j → (j ≡ s → ⊥) → 1 ≤ ρ.num (q.process j) → IsProcess w.n (ρ.father (q.process j))
  kept_father_in j pj h u = at (same? j b) ct.father
    where
      at : Same j b
          → (ρ.father t.process ≡ a) ⊎ ((ρ.father t.process ≡ ρ.father (r.process b)) × ((b ≡ s → ⊥) → 1 ≤ ρ.num t.process → 1
          ≤ ρ.num (r.process b)))
          → IsProcess w.n (ρ.father (q.process j))
      at (same e _) (inl f) = rw (e, mv.receiver, f) pa
      at (same e _) (inr f) = rw (e, mv.receiver, f.0) (df.father_in b pb (λ x. h (e ∙ x)) (f.1 (λ x. h (e ∙ x)) (rw (e, mv.receiver) at u)))
      at (apart e _) f = rw (mv.others j e) (df.father_in j pj h (rw (mv.others j e) at u))

  -- the message that is delivered waited between neighbours
  sender_neighbour : neighbours w b a ≡ true
  sender_neighbour =
      neighbours_swap w b a ∙ between_neighbours near df pa pb (omega (arith, probe_or_ack ρ m, mv.waited (probe_bit ρ), mv.waited (ack_bit ρ)))

  kept_fathers : (j : ℕ) → IsProcess w.n j → (ρ.father (q.process j) ≡ 0) ⊎ (neighbours w j (ρ.father (q.process j)) ≡ true)
  kept_fathers j pj = at (same? j b) ct.father
    where
      at : Same j b
          → (ρ.father t.process ≡ a) ⊎ ((ρ.father t.process ≡ ρ.father (r.process b)) × ((b ≡ s → ⊥) → 1 ≤ ρ.num t.process → 1
          ≤ ρ.num (r.process b)))
          → (ρ.father (q.process j) ≡ 0) ⊎ (neighbours w j (ρ.father (q.process j)) ≡ true)
      at (same e _) (inl f) = inr (rw (e, mv.receiver, f) sender_neighbour)
      at (same e _) (inr f) = rw (e, mv.receiver, f.0) (df.fathers b pb)
      at (apart e _) f = rw (mv.others j e) (df.fathers j pj)

  pub diffusing_kept : Diffusing ρ quota w s q
  diffusing_kept = record { num = kept_num; pair = kept_pair; father_in = kept_father_in; fathers = kept_fathers }

-- ---- the start

module _ {P M : Type 0} {ρ : Rules P M} {quota : Quota P} {w : Waits} {s : ℕ} (ed : ℕ) (bg : Begins ρ quota w s) where
  -- how many probes the start sends to j
  first : ℕ → ℕ
  first j = weight (probe_bit ρ) (ρ.first_to w s j)

  start_probes : (i j : ℕ) → weight (probe_bit ρ) ((start_run ρ w s ed).link i j) ≡ spot s (first j) i
  unfolding start_run spot first weight
  start_probes i j = at (eqb i s)
    where
      at : (c : Bool) → weight (probe_bit ρ) (choose c (ρ.first_to w s j) []) ≡ choose c (weight (probe_bit ρ) (ρ.first_to w s j)) 0
      at true = refl
      at false = refl

  start_acks : (i j : ℕ) → weight (ack_bit ρ) ((start_run ρ w s ed).link i j) ≡ 0
  unfolding start_run weight
  start_acks i j = at (eqb i s)
    where
      at : (c : Bool) → weight (ack_bit ρ) (choose c (ρ.first_to w s j) []) ≡ 0
      at true = bg.probes j
      at false = refl

  start_heir : (i j : ℕ) → heir_of ρ (eqb j s) ((start_run ρ w s ed).process j) i ≡ 0
  unfolding start_run
  start_heir i j = at (same? j s)
    where
      at : Same j s → heir_of ρ (eqb j s) (choose (eqb j s) (ρ.first w s) ρ.idle) i ≡ 0
      at (same e f) = rw f (heir_start (ρ.num (ρ.first w s)) (ρ.father (ρ.first w s)) i)
      at (apart e f) = rw f (heir_none (ρ.num ρ.idle) (ρ.father ρ.idle) i bg.idle)

  start_pending : (i j : ℕ) → pending ρ s (start_run ρ w s ed) i j ≡ spot s (first j) i
  unfolding pending
  start_pending i j = omega (arith, start_probes i j, start_acks j i, start_heir i j)

  start_num : (i : ℕ) → ρ.num ((start_run ρ w s ed).process i) ≡ spot s (sum_to w.n first) i
  unfolding start_run spot first
  start_num i = at (same? i s)
    where
      at : Same i s → ρ.num (choose (eqb i s) (ρ.first w s) ρ.idle) ≡ choose (eqb i s) (sum_to w.n (λ j. weight (probe_bit ρ) (ρ.first_to w s j))) 0
      at (same e f) = rw f bg.num
      at (apart e f) = rw f bg.idle

  start_quota : (i j : ℕ) → spot s (first j) i ≤ quota w i j ((start_run ρ w s ed).process i)
  unfolding start_run spot first
  start_quota i j = at (same? i s)
    where
      at : Same i s → choose (eqb i s) (weight (probe_bit ρ) (ρ.first_to w s j)) 0 ≤ quota w i j (choose (eqb i s) (ρ.first w s) ρ.idle)
      at (same e f) = rw (f, e) (bg.pair j)
      at (apart e f) = rw f (omega arith)

  pub diffusing_start : Diffusing ρ quota w s (start_run ρ w s ed)
  diffusing_start =
      record {
        num = λ i _. start_num i ∙ sym (sum_to_cong w.n _ (λ j. spot s (first j) i) (λ j _ _. start_pending i j) ∙ sum_spot w.n s first i);
        pair = λ i j _ _. omega (arith, start_pending i j, start_quota i j);
        father_in = λ j _ h u. absurd (omega (arith, start_num j, spot_off s (sum_to w.n first) j h));
        fathers = λ j _. inl (start_at ρ w s ed (λ x. ρ.father x ≡ 0) bg.father_first bg.father_idle j);
      }

  first_is : ρ.num (ρ.first w s) ≡ sum_to w.n first
  unfolding first
  first_is = bg.num

  pub work_start : IsProcess w.n s → work ρ w.n (start_run ρ w s ed) ≡ 2 * ρ.num (ρ.first w s)
  unfolding start_run work total sum_of
  work_start ps =
      let d : ℕ = sum_to w.n first in
      let whole : sum_to w.n (spot s d) ≡ d = sum_to_spot w.n s d ps.0 ps.1 in
      let row : (i : ℕ) → sum_to w.n (λ j. weight (probe_bit ρ) ((start_run ρ w s ed).link i j)) ≡ spot s d i =
      λ i. sum_to_cong w.n _ (λ j. spot s (first j) i) (λ j _ _. start_probes i j) ∙ sum_spot w.n s first i in
      let wait : total w.n (probe_bit ρ) (start_run ρ w s ed) ≡ sum_to w.n (spot s d) = sum_to_cong w.n _ (spot s d) (λ i _ _. row i) in
      let nums : sum_of w.n ρ.num (start_run ρ w s ed) ≡ sum_to w.n (spot s d) = sum_to_cong w.n _ (spot s d) (λ i _ _. start_num i) in
      omega (arith, first_is)
