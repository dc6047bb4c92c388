-- What a run has in which each num counts the probes that are not acknowledged yet (Diffusing).
--   pending_counts      == what is pending for one pair is at most num
--   ack_awaited         == an acknowledgement reaches only a process that waits for one
--   probe_awaited       == a probe waits only where its sender waits for its acknowledgement
--   link_neighbours     == a message waits between neighbours alone
--   link_most           == a link holds at most the quotas of its two ends
--   something_waits     == while the start waits for acknowledgements, a message waits on some link
--   rest_empty          == where no process waits for acknowledgements, no message waits
--   work_rest, work_busy   == the work done where no process waits for acknowledgements, and where one does
-- Assumes nothing.
use Prim.Native.Nat.{ℕ, ◌+◌, ◌≤◌}
use Rattle.std.specs.Prelude.{Bool, true, false, List, [], ◌∷◌, ◌≡◌, refl, eqb, length}
use Rattle.std.proofs.lemmas.Bool.{false≢true}
use Rattle.std.proofs.Common.{sym, ◌∙◌}
use Rattle.std.proofs.Math.Path.{ap}
use native.Mathlib.Omega.{arith}
use Rattle.base.specs.Choice.{choose}
use Rattle.base.specs.ChoiceLaws.{same?, tested}
use Rattle.base.specs.Checks.{Same, same, apart, Tested, passed, failed}
use Rattle.base.specs.Sums.{sum_to, any_to, spot}
use Rattle.base.specs.SumLaws.{any_to_of, any_to_found, sum_to_cong, sum_to_add, sum_to_le, sum_to_zero, sum_to_parts, sum_to_part, sum_to_spot, sum_to_swap}
use Rattle.base.specs.Sums.{Found}
use Rattle.tables.specs.Waits.{Waits, neighbours}
use Rattle.tables.specs.Table.{IsProcess}
use Rattle.machine.specs.Machine.{Machine, Rules}
use Rattle.machine.specs.Calls.{waiting}
use Rattle.machine.specs.Weights.{weight, probe_bit, ack_bit, total, sum_of, heir, heir_of, pending, work}
use Rattle.machine.specs.WeightLaws.{weight_length, pending_probes, pending_acks}
use Rattle.machine.specs.Lists.{SomeWaits}
use Rattle.machine.specs.Diffusing.{Quota, Near, Diffusing}
use Rattle.machine.specs.DiffusingLaws.{between_neighbours}

length_empty : {M : Type 0} (ms : List M) → length ms ≡ 0 → ms ≡ []
length_empty [] e = refl
length_empty (m ∷ ms) e = absurd (omega arith)

waiting_empty : {M : Type 0} (ms : List M) → waiting ms ≡ false → ms ≡ []
waiting_empty [] e = refl
waiting_empty (m ∷ ms) e = absurd (false≢true (sym e))

waiting_some : {M : Type 0} (ms : List M) → waiting ms ≡ true → 1 ≤ length ms
waiting_some [] e = absurd (false≢true e)
waiting_some (m ∷ ms) e = omega arith

-- ---- the messages on a link

module _ {P M : Type 0} {ρ : Rules P M} {quota : Quota P} {w : Waits} {s : ℕ} {r : Machine P M} (df : Diffusing ρ quota w s r) where
  pub pending_counts : (i j : ℕ) → IsProcess w.n i → IsProcess w.n j → pending ρ s r i j ≤ ρ.num (r.process i)
  pending_counts i j pi pj = rw (df.num i pi) (sum_to_part w.n (λ k. pending ρ s r i k) j pj.0 pj.1)

  pub ack_awaited : {a b : ℕ} → IsProcess w.n a → IsProcess w.n b → weight (ack_bit ρ) (r.link a b) ≤ ρ.num (r.process b)
  ack_awaited {a} {b} pa pb = omega (arith, pending_acks ρ s r b a, pending_counts b a pb pa)

  pub probe_awaited : {a b : ℕ} → IsProcess w.n a → IsProcess w.n b → weight (probe_bit ρ) (r.link a b) ≤ ρ.num (r.process a)
  probe_awaited {a} {b} pa pb = omega (arith, pending_probes ρ s r a b, pending_counts a b pa pb)

  pub link_most : {a b : ℕ} → IsProcess w.n a → IsProcess w.n b → length (r.link a b) ≤ quota w a b (r.process a) + quota w b a (r.process b)
  link_most {a} {b} pa pb =
      omega (arith, weight_length ρ (r.link a b), pending_probes ρ s r a b, df.pair a b pa pb, pending_acks ρ s r b a, df.pair b a pb pa)

  pub link_neighbours : Near quota w → {a b : ℕ} → IsProcess w.n a → IsProcess w.n b → 1 ≤ length (r.link a b)
      → neighbours w a b ≡ true
  link_neighbours near {a} {b} pa pb e = between_neighbours near df pa pb (omega (arith, weight_length ρ (r.link a b)))

  -- ---- at rest

  pub rest_empty : ((i : ℕ) → IsProcess w.n i → ρ.num (r.process i) ≡ 0) → (a b : ℕ) → IsProcess w.n a → IsProcess w.n b → r.link a b ≡ []
  rest_empty z a b pa pb =
      length_empty (r.link a b) (omega
      (arith, weight_length ρ (r.link a b), pending_probes ρ s r a b, gone a b pa pb, pending_acks ρ s r b a, gone b a pb pa))
    where
      gone : (i j : ℕ) → IsProcess w.n i → IsProcess w.n j → pending ρ s r i j ≡ 0
      gone i j pi pj = sum_to_parts w.n (λ k. pending ρ s r i k) (sym (df.num i pi) ∙ z i pi) j pj.0 pj.1

  pub work_rest : ((i : ℕ) → IsProcess w.n i → ρ.num (r.process i) ≡ 0) → work ρ w.n r ≡ r.count
  unfolding work sum_of total weight
  work_rest z =
      let n : ℕ = w.n in
      let nums : sum_of n ρ.num r ≡ 0 = sum_to_zero n (λ j. ρ.num (r.process j)) (λ j l u. z j (l, u)) in
      let row : (a : ℕ) → IsProcess n a → sum_to n (λ b. weight (probe_bit ρ) (r.link a b)) ≡ 0 =
      λ a pa. sum_to_zero n _ (λ b l u. ap (weight (probe_bit ρ)) (rest_empty z a b pa (l, u))) in
      let wait : total n (probe_bit ρ) r ≡ 0 = sum_to_zero n _ (λ a l u. row a (l, u)) in
      omega arith

  -- ---- something waits

  -- 1 if j is busy: not the start, and its num is above 0
  busy : ℕ → ℕ
  busy j = choose (eqb j s) 0 (choose (eqb (ρ.num (r.process j)) 0) 0 1)

  -- a busy process is heir to its father alone
  heir_sum : (j : ℕ) → IsProcess w.n j → sum_to w.n (λ i. heir_of ρ (eqb j s) (r.process j) i) ≡ busy j
  unfolding heir busy
  heir_sum j pj = at (same? j s) (same? (ρ.num (r.process j)) 0)
    where
      father : ℕ
      father = ρ.father (r.process j)

      at : Same j s → Same (ρ.num (r.process j)) 0
          → sum_to w.n (λ i. choose (eqb j s) 0 (choose (eqb (ρ.num (r.process j)) 0) 0 (spot father 1 i)))
          ≡ choose (eqb j s) 0 (choose (eqb (ρ.num (r.process j)) 0) 0 1)
      at (same e f) d = simp f (sum_to_zero w.n (λ i. 0) (λ _ _ _. refl))
      at (apart e f) (same z g) = simp (f, g) (sum_to_zero w.n (λ i. 0) (λ _ _ _. refl))
      at (apart e f) (apart z g) =
          let within : IsProcess w.n father = df.father_in j pj e (omega arith) in
          simp (f, g) (sum_to_spot w.n father 1 within.0 within.1)

  -- a busy process waits for at least one acknowledgement, and the start is not busy
  busy_num : (j : ℕ) → busy j + spot s (ρ.num (r.process s)) j ≤ ρ.num (r.process j)
  unfolding busy spot
  busy_num j = at (same? j s) (same? (ρ.num (r.process j)) 0)
    where
      at : Same j s → Same (ρ.num (r.process j)) 0
          → choose (eqb j s) 0 (choose (eqb (ρ.num (r.process j)) 0) 0 1) + choose (eqb j s) (ρ.num (r.process s)) 0 ≤ ρ.num (r.process j)
      at (same e f) d = rw (f, e) (omega arith)
      at (apart e f) (same z g) = rw (f, g) (omega arith)
      at (apart e f) (apart z g) = rw (f, g) (omega arith)

  -- if nothing waits the busy processes are all that is pending, too few for a start that waits
  quiet : IsProcess w.n s → ((a b : ℕ) → IsProcess w.n a → IsProcess w.n b → r.link a b ≡ []) → ρ.num (r.process s) ≡ 0
  unfolding pending weight
  quiet ps z =
      let n : ℕ = w.n in
      let own : ℕ = ρ.num (r.process s) in
      let heirs : ℕ → ℕ → ℕ = λ i j. heir_of ρ (eqb j s) (r.process j) i in
      let only : (i j : ℕ) → IsProcess n i → IsProcess n j → pending ρ s r i j ≡ heirs i j =
      λ i j pi pj. omega (arith, ap (weight (probe_bit ρ)) (z i j pi pj), ap (weight (ack_bit ρ)) (z j i pj pi)) in
      let nums : sum_to n (λ i. ρ.num (r.process i)) ≡ sum_to n (λ i. sum_to n (λ j. heirs i j)) =
      sum_to_cong n _ _ (λ i l u. df.num i (l, u) ∙ sum_to_cong n _ _ (λ j l' u'. only i j (l, u) (l', u'))) in
      let turned : sum_to n (λ i. sum_to n (λ j. heirs i j)) ≡ sum_to n (λ j. sum_to n (λ i. heirs i j)) = sum_to_swap n n heirs in
      let each : sum_to n (λ j. sum_to n (λ i. heirs i j)) ≡ sum_to n busy = sum_to_cong n _ busy (λ j l u. heir_sum j (l, u)) in
      let more : sum_to n (λ j. busy j + spot s own j) ≤ sum_to n (λ j. ρ.num (r.process j)) = sum_to_le n _ _ (λ j _ _. busy_num j) in
      let split : sum_to n (λ j. busy j + spot s own j) ≡ sum_to n busy + sum_to n (spot s own) = sum_to_add n busy (spot s own) in
      let root : sum_to n (spot s own) ≡ own = sum_to_spot n s own ps.0 ps.1 in
      omega arith

  pub something_waits : IsProcess w.n s → 1 ≤ ρ.num (r.process s) → SomeWaits w r
  something_waits ps h = at (tested (any_to w.n row))
    where
      row : ℕ → Bool
      row a = any_to w.n (λ b. waiting (r.link a b))

      none : any_to w.n row ≡ false → (a b : ℕ) → IsProcess w.n a → IsProcess w.n b → Tested (waiting (r.link a b)) → r.link a b ≡ []
      none e a b pa pb (passed f) =
          absurd (false≢true (sym e ∙ any_to_of w.n row a pa.0 pa.1 (any_to_of w.n (λ b. waiting (r.link a b)) b pb.0 pb.1 f)))
      none e a b pa pb (failed f) = waiting_empty (r.link a b) f

      at : Tested (any_to w.n row) → SomeWaits w r
      at (passed e) =
          let f : Found w.n row = any_to_found w.n row e in
          let g : Found w.n (λ b. waiting (r.link f.at b)) = any_to_found w.n (λ b. waiting (r.link f.at b)) f.passes in
          record {
            sender = f.at;
            receiver = g.at;
            sender_in = (f.low, f.high);
            receiver_in = (g.low, g.high);
            some = waiting_some (r.link f.at g.at) g.passes;
          }
      at (failed e) = absurd (omega (arith, quiet ps (λ a b pa pb. none e a b pa pb (tested (waiting (r.link a b))))))

pub work_busy : {P M : Type 0} (ρ : Rules P M) (n : ℕ) (r : Machine P M) {i : ℕ} → IsProcess n i → r.count + ρ.num (r.process i) ≤ work ρ n r
unfolding work sum_of
work_busy ρ n r {i} pi = omega (arith, sum_to_part n (λ j. ρ.num (r.process j)) i pi.0 pi.1)
