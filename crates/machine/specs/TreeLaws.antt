-- The tree of busy processes: fathers lead from every busy process to the start.
--   heir_counts      == the father of a busy process is busy
--   treed_start      == a started run is so: only the start is busy
--   treed_kept       == a delivery keeps it, where a busy process keeps its father
--   all_rest         == once the start's num is 0, so is every other
-- Assumes nothing.
use Rattle.std.specs.Prelude.{ℕ, ◌≤◌, ◌≡◌, eqb}
use Rattle.std.proofs.Common.{◌∙◌, inl, inr, ne_eqb}
use native.Mathlib.Omega.{arith}
use Rattle.base.specs.Choice.{choose}
use Rattle.base.specs.ChoiceLaws.{same?}
use Rattle.base.specs.Checks.{Same, same, apart}
use Rattle.tables.specs.Waits.{Waits}
use Rattle.tables.specs.Table.{IsProcess}
use Rattle.machine.specs.Machine.{Machine, Left, Rules, start_run}
use Rattle.machine.specs.Weights.{probe_bit, ack_bit, heir_of, pending}
use Rattle.machine.specs.WeightLaws.{probe_or_ack, heir_busy}
use Rattle.machine.specs.Moved.{Moved}
use Rattle.machine.specs.Diffusing.{Quota, Begins, Counted, FatherFrom, FatherKept, Diffusing, Leads, at_the_start, over_busy, Treed}
use Rattle.machine.specs.RestLaws.{pending_counts, probe_awaited, ack_awaited}

module _ {P M : Type 0} {ρ : Rules P M} {quota : Quota P} {w : Waits} {s : ℕ} {r : Machine P M} (d : Diffusing ρ quota w s r) where
  heir_counts :
      (f j : ℕ) → IsProcess w.n f → IsProcess w.n j → (j ≡ s → ⊥) → 1 ≤ ρ.num (r.process j) → ρ.father (r.process j) ≡ f →
      1 ≤ ρ.num (r.process f)
  unfolding pending
  heir_counts f j pf pj off busy e =
      let counts : pending ρ s r f j ≤ ρ.num (r.process f) = pending_counts d f j pf pj in
      let heir : heir_of ρ (eqb j s) (r.process j) f ≡ 1 = rw (ne_eqb j s off, ← e) (heir_busy (ρ.num (r.process j)) (ρ.father (r.process j)) busy) in
      omega arith

-- ---- the start

pub treed_start : {P M : Type 0} {ρ : Rules P M} {quota : Quota P} {w : Waits} {s : ℕ} (ed : ℕ) → Begins ρ quota w s → Treed ρ w s (start_run ρ w s ed)
unfolding start_run
treed_start {ρ = ρ} {w = w} {s = s} ed bg = record { leads = λ j _ off busy. at j (same? j s) off busy }
  where
    at : (j : ℕ) → Same j s → (j ≡ s → ⊥) → 1 ≤ ρ.num (choose (eqb j s) (ρ.first w s) ρ.idle) → Leads ρ w s (start_run ρ w s ed) j
    at j (same e _) off busy = absurd (off e)
    at j (apart _ f) off busy = let none : 1 ≤ 0 = rw (f, bg.idle) at busy in absurd (omega arith)

-- ---- a delivery

module _ {P M : Type 0} {ρ : Rules P M} {quota : Quota P} {w : Waits} {s : ℕ} {r q : Machine P M} {a b : ℕ} {m : M} {t : Left P M}
    (dr : Diffusing ρ quota w s r) (dq : Diffusing ρ quota w s q) (tr : Treed ρ w s r) (pa : IsProcess w.n a) (pb : IsProcess w.n b)
    (mv : Moved w r a b m t q) (ct : Counted ρ quota w s a b m (r.process b) t) (fk : FatherKept ρ (r.process b) t) where
  -- a busy process keeps its father
  same_father : (j : ℕ) → 1 ≤ ρ.num (r.process j) → ρ.father (q.process j) ≡ ρ.father (r.process j)
  same_father j busy = at (same? j b)
    where
      at : Same j b → ρ.father (q.process j) ≡ ρ.father (r.process j)
      at (same e _) = rw (e, mv.receiver) (fk (rw e at busy))
      at (apart e _) = rw (mv.others j e)

  -- fathers that are busy stay so, as long as their child does
  carried : {j : ℕ} → Leads ρ w s r j → IsProcess w.n j → (j ≡ s → ⊥) → 1 ≤ ρ.num (r.process j) → 1 ≤ ρ.num (q.process j) → Leads ρ w s q j
  carried {j} (at_the_start e) pj off was is = at_the_start (same_father j was ∙ e)
  carried {j} (over_busy pf foff fwas up) pj off was is =
      let f : ℕ = ρ.father (r.process j) in
      let e : ρ.father (q.process j) ≡ f = same_father j was in
      let fis : 1 ≤ ρ.num (q.process f) = heir_counts dq f j pf pj off is e in
      let above : Leads ρ w s q f = carried up pf foff fwas fis in
      over_busy {j = j} (rw e pf) (rw e foff) (rw e fis) (rw e above)

  -- the receiver, newly busy: a probe from a busy process, or from the start, made it so, and that process is its father
  fresh : (b ≡ s → ⊥) → ρ.num (r.process b) ≡ 0 → 1 ≤ ρ.num (q.process b) → Leads ρ w s q b
  fresh off was is = at (same? a s)
    where
      named : FatherFrom ρ s a b (r.process b) t → ρ.father t.process ≡ a
      named (inl e) = e
      named (inr e) = let busy : 1 ≤ ρ.num (r.process b) = e.1 off (rw mv.receiver at is) in absurd (omega arith)

      father : ρ.father (q.process b) ≡ a
      father = rw mv.receiver (named ct.father)

      sender : 1 ≤ ρ.num (r.process a)
      sender = omega (arith, probe_awaited dr pa pb, ack_awaited dr pa pb, mv.waited (probe_bit ρ), mv.waited (ack_bit ρ), probe_or_ack ρ m)

      still : 1 ≤ ρ.num (q.process a)
      still = heir_counts dq a b pa pb off is father

      at : Same a s → Leads ρ w s q b
      at (same e _) = at_the_start (father ∙ e)
      at (apart e _) =
          let up : Leads ρ w s q a = carried (tr.leads a pa e sender) pa e sender still in
          over_busy {j = b} (rw father pa) (rw father e) (rw father still) (rw father up)

  pub treed_kept : Treed ρ w s q
  treed_kept = record { leads = λ j pj off is. at j pj off is (same? (ρ.num (r.process j)) 0) (same? j b) }
    where
      at : (j : ℕ) → IsProcess w.n j → (j ≡ s → ⊥) → 1 ≤ ρ.num (q.process j) → Same (ρ.num (r.process j)) 0 → Same j b → Leads ρ w s q j
      at j pj off is (apart was _) _ = let busy : 1 ≤ ρ.num (r.process j) = omega arith in carried (tr.leads j pj off busy) pj off busy is
      at j pj off is (same was _) (same e _) = rw e (fresh (rw e at off) (rw e at was) (rw e at is))
      at j pj off is (same was _) (apart e _) = let none : 1 ≤ ρ.num (r.process j) = rw (mv.others j e) at is in absurd (omega arith)

-- ---- the end

module _ {P M : Type 0} {ρ : Rules P M} {quota : Quota P} {w : Waits} {s : ℕ} {r : Machine P M} (d : Diffusing ρ quota w s r) where
  -- where fathers lead to the start, the last of them is the start's child
  start_busy : {j : ℕ} → Leads ρ w s r j → IsProcess w.n j → (j ≡ s → ⊥) → 1 ≤ ρ.num (r.process j) → 1 ≤ ρ.num (r.process s)
  start_busy {j} (at_the_start e) pj off busy = heir_counts d s j (rw e at (d.father_in j pj off busy)) pj off busy e
  start_busy (over_busy pf foff fbusy up) pj off busy = start_busy up pf foff fbusy

  pub all_rest : Treed ρ w s r → ρ.num (r.process s) ≡ 0 → (j : ℕ) → IsProcess w.n j → ρ.num (r.process j) ≡ 0
  all_rest tr over j pj = at (same? (ρ.num (r.process j)) 0) (same? j s)
    where
      at : Same (ρ.num (r.process j)) 0 → Same j s → ρ.num (r.process j) ≡ 0
      at (same e _) _ = e
      at (apart _ _) (same e _) = rw e over
      at (apart n _) (apart e _) =
          let busy : 1 ≤ ρ.num (r.process j) = omega arith in
          let root : 1 ≤ ρ.num (r.process s) = start_busy (tr.leads j pj e busy) pj e busy in
          absurd (omega arith)
