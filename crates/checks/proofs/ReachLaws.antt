-- The test `reaches` says what the relation `Reaches` says: N growings of the closure suffice.
--   from_in, to_in      == both ends of a wait are processes
--   reaches_forward, reaches_backward   == what passes along every wait (or back along it) passes along a path
--   reaches_trans       == paths join
--   reaches_P           == the test and the relation agree; so with reaches_by_arcs_P, some_by_arcs_P, all_reach_back_P, in_knot_P, outsider_P,
--                          outsiders_P, lowest_outsider_P, waits_for_some_P, all_wait_P, sinks_P, each named after its test
--   waits_for_some_degree, waits_for_some_own   == who waits for somebody has successors, and who waits for nobody adds 1 (02, N3)
--   some_by_arcs_waits    == some process is reachable by one arc or more exactly if the start waits for somebody
--   reaches_in          == whoever is reached from a process is a process
-- Assumes nothing.
use Prim.Native.Nat.{ℕ, zero, suc, ◌+◌, ◌≤◌}
use Rattle.std.specs.Prelude.{Bool, false, not, ◌&&◌, ◌||◌, ◌≡◌, ◌⊎◌, ◌↔◌, eqb}
use Rattle.std.proofs.Math.Bool.{true}
use Rattle.std.proofs.lemmas.Bool.{false≢true}
use Rattle.std.proofs.Math.Path.{refl}
use Rattle.std.proofs.Common.{sym, ap, ◌∙◌}
use Rattle.std.proofs.Math.Logic.{inl, inr, ⊎_elim}
use native.Mathlib.Omega.{arith}
use borrow.Author.Tests.{eqb-true, eq-eqb, not-true}
use Rattle.base.specs.Choice.{bit}
use Rattle.base.specs.ChoiceLaws.{bit_≤1, bit_some, none_test, tested, same?, and_left, and_right, and_both, or_cases, or_left, or_right}
use Rattle.base.specs.Checks.{Tested, passed, failed, Same, same, apart}
use Rattle.base.specs.Sums.{sum_to, count_to, all_to, any_to, spot, HowMany, Lowest}
use Rattle.base.specs.SumLaws.{spot_at, spot_off, sum_to_add, sum_to_le, sum_to_part, sum_to_spot, sum_to_most, all_to_at, all_to_of, any_to_of}
use Rattle.base.specs.Sums.{Found}
use Rattle.base.specs.SumLaws.{any_to_found, sum_to_some, count_to_P, lowest_to_P}
use Rattle.tables.specs.Waits.{Waits, out_degree}
use Rattle.tables.specs.Sound.{Sound}
use Rattle.tables.specs.Table.{IsProcess}
use Rattle.steps.specs.Step.{own_count}
use Rattle.checks.specs.Reach.{Reaches, here, along, within, reaches, ReachesByArcs, onward, reaches_by_arcs, SomeByArcs, some_by_arcs, all_reach_back}
use Rattle.checks.specs.Reach.{edition_allows, in_knot, outsider, outsiders, lowest_outsider, WaitsForSome, waits_for_some, all_wait, sink, sinks}
use Rattle.checks.specs.InWords.{Outside, Sink}

-- both ends of a wait are processes
pub from_in : {w : Waits} → Sound w → (a b : ℕ) → w.waits a b ≡ true → IsProcess w.n a
from_in ok a b e = (ok.from_low a b e, ok.from_high a b e)

pub to_in : {w : Waits} → Sound w → (a b : ℕ) → w.waits a b ≡ true → IsProcess w.n b
to_in ok a b e = (ok.to_low a b e, ok.to_high a b e)

-- ---- paths

-- what passes along every wait passes along a path
pub reaches_forward : {w : Waits} {p q : ℕ} (P : ℕ → Type 0) → ((a b : ℕ) → w.waits a b ≡ true → P a → P b) → Reaches w p q → P p → P q
reaches_forward P h here x = x
reaches_forward P h (along e t) x = reaches_forward P h t (h _ _ e x)

-- what passes back along every wait passes back along a path
pub reaches_backward : {w : Waits} {p q : ℕ} (P : ℕ → Type 0) → ((a b : ℕ) → w.waits a b ≡ true → P b → P a) → Reaches w p q → P q → P p
reaches_backward P h here x = x
reaches_backward P h (along e t) x = h _ _ e (reaches_backward P h t x)

pub reaches_trans : {w : Waits} {p q r : ℕ} → Reaches w p q → Reaches w q r → Reaches w p r
reaches_trans {w} {p} {q} {r} t u = reaches_backward (λ x. Reaches w x r) (λ a b e v. along e v) t u

-- ---- the closure

module _ (w : Waits) (ok : Sound w) (p : ℕ) where
  more : (k q : ℕ) → within w k p q ≡ true → within w (suc k) p q ≡ true
  unfolding within
  more k q e = or_left (within w k p q) (any_to w.n (λ m. within w k p m && w.waits m q)) e

  within_own : (k : ℕ) → within w k p p ≡ true
  unfolding within
  within_own zero = eq-eqb p p refl
  within_own (suc k) = more k p (within_own k)

  step : (k m q : ℕ) → within w k p m ≡ true → w.waits m q ≡ true → within w (suc k) p q ≡ true
  unfolding within
  step k m q e f =
      or_right (within w k p q) (any_to w.n (λ x. within w k p x && w.waits x q))
      (any_to_of w.n (λ x. within w k p x && w.waits x q) m (ok.from_low m q f) (ok.from_high m q f) (and_both (within w k p m) (w.waits m q) e f))

  -- what one growing adds: the last step
  last : (k q : ℕ) → within w (suc k) p q ≡ true → (within w k p q ≡ true) ⊎ Found w.n (λ m. within w k p m && w.waits m q)
  unfolding within
  last k q e =
      ⊎_elim inl (λ f. inr (any_to_found w.n (λ m. within w k p m && w.waits m q) f))
      (or_cases (within w k p q) (any_to w.n (λ m. within w k p m && w.waits m q)) e)

  within_path : (k q : ℕ) → within w k p q ≡ true → Reaches w p q
  unfolding within
  within_path zero q e = rw (eqb-true p q e) here
  within_path (suc k) q e = ⊎_elim (within_path k q) (λ f. by f (within_path k f.at)) (last k q e)
    where
      by : (f : Found w.n (λ m. within w k p m && w.waits m q)) → (within w k p f.at ≡ true → Reaches w p f.at) → Reaches w p q
      by f t =
          reaches_trans (t (and_left (within w k p f.at) (w.waits f.at q) f.passes))
          (along (and_right (within w k p f.at) (w.waits f.at q) f.passes) here)

  -- how many processes k growings hold
  size : ℕ → ℕ
  size k = count_to w.n (within w k p)

  -- the growings hold whatever a wait leads to from them
  Closed : ℕ → Type 0
  Closed k = (m q : ℕ) → within w k p m ≡ true → w.waits m q ≡ true → within w k p q ≡ true

  -- once closed, one growing more adds nothing, and leaves it closed
  closed_more : (k : ℕ) → Closed k → Closed (suc k)
  unfolding Closed
  closed_more k c m q e f = more k q (c m q (⊎_elim (λ d. d) by (last k m e)) f)
    where
      by : Found w.n (λ x. within w k p x && w.waits x m) → within w k p m ≡ true
      by x = c x.at m (and_left (within w k p x.at) (w.waits x.at m) x.passes) (and_right (within w k p x.at) (w.waits x.at m) x.passes)

  -- a process that one growing adds
  fresh : ℕ → ℕ → Bool
  fresh k q = within w (suc k) p q && not (within w k p q)

  size_grows : (k : ℕ) → Found w.n (fresh k) → suc (size k) ≤ size (suc k)
  unfolding size fresh count_to
  size_grows k f =
      let n : ℕ = w.n in
      let split : sum_to n (λ x. bit (within w k p x) + spot f.at 1 x) ≡ sum_to n (λ x. bit (within w k p x)) + sum_to n (spot f.at 1) =
      sum_to_add n (λ x. bit (within w k p x)) (spot f.at 1) in
      let one : sum_to n (spot f.at 1) ≡ 1 = sum_to_spot n f.at 1 f.low f.high in
      let all : sum_to n (λ x. bit (within w k p x) + spot f.at 1 x) ≤ sum_to n (λ x. bit (within w (suc k) p x)) =
      sum_to_le n (λ x. bit (within w k p x) + spot f.at 1 x) (λ x. bit (within w (suc k) p x))
      (λ x _ _. at x (same? x f.at) (tested (within w k p x))) in
      omega arith
    where
      new : within w (suc k) p f.at ≡ true
      new = and_left (within w (suc k) p f.at) (not (within w k p f.at)) f.passes

      old : within w k p f.at ≡ false
      old = not-true (within w k p f.at) (and_right (within w (suc k) p f.at) (not (within w k p f.at)) f.passes)

      at : (x : ℕ) → Same x f.at → Tested (within w k p x) → bit (within w k p x) + spot f.at 1 x ≤ bit (within w (suc k) p x)
      at x (same e _) _ = rw (e, old, new, spot_at f.at 1) (omega arith)
      at x (apart e _) (passed y) = rw (y, more k x y, spot_off f.at 1 x e) (omega arith)
      at x (apart e _) (failed y) = rw (y, spot_off f.at 1 x e) (omega arith)

  -- a growing that adds no process leaves it closed
  closed_stuck : (k : ℕ) → any_to w.n (fresh k) ≡ false → Closed k
  unfolding Closed fresh
  closed_stuck k none m q e f = at (tested (within w k p q))
    where
      at : Tested (within w k p q) → within w k p q ≡ true
      at (passed y) = y
      at (failed y) = absurd (false≢true (sym none ∙ any_to_of w.n (fresh k) q (ok.to_low m q f) (ok.to_high m q f) (rw (y, step k m q e f) refl)))

  module _ (pIn : IsProcess w.n p) where
    size_first : 1 ≤ size 0
    unfolding size count_to
    size_first =
        let own : bit (within w 0 p p) ≤ sum_to w.n (λ q. bit (within w 0 p q)) = sum_to_part w.n (λ q. bit (within w 0 p q)) p pIn.0 pIn.1 in
        rw (within_own 0) at own

    -- closed after k growings, or more than k processes are held
    grown : (k : ℕ) → Closed k ⊎ (suc k ≤ size k)
    grown zero = inr size_first
    grown (suc k) = ⊎_elim (λ c. inl (closed_more k c)) (λ l. by l (tested (any_to w.n (fresh k)))) (grown k)
      where
        by : suc k ≤ size k → Tested (any_to w.n (fresh k)) → Closed (suc k) ⊎ (suc (suc k) ≤ size (suc k))
        by l (passed y) = inr (omega (arith, size_grows k (any_to_found w.n (fresh k) y)))
        by l (failed y) = inl (closed_more k (closed_stuck k y))

    -- there are but N processes, so N growings suffice
    within_closed : Closed w.n
    unfolding size count_to
    within_closed =
        ⊎_elim (λ c. c) (λ l. absurd (omega (arith, sum_to_most w.n 1 (λ q. bit (within w w.n p q)) (λ q _ _. bit_≤1 (within w w.n p q)))))
        (grown w.n)

-- ---- the test and the relation

pub reaches_P : (w : Waits) → Sound w → (p q : ℕ) → IsProcess w.n p → (reaches w p q ≡ true) ↔ Reaches w p q
unfolding reaches Closed
reaches_P w ok p q pIn = (
  within_path w ok p w.n q,
  λ t. reaches_forward (λ x. within w w.n p x ≡ true) (λ a b e i. within_closed w ok p pIn a b i e) t
      (within_own w ok p w.n),
)

pub reaches_by_arcs_P : (w : Waits) → Sound w → (p r : ℕ) → (reaches_by_arcs w p r ≡ true) ↔ ReachesByArcs w p r
unfolding reaches_by_arcs
reaches_by_arcs_P w ok p r = (
  λ e. by (any_to_found w.n (λ q. w.waits p q && reaches w q r) e),
  test,
)
  where
    by : Found w.n (λ q. w.waits p q && reaches w q r) → ReachesByArcs w p r
    by f =
        onward (and_left (w.waits p f.at) (reaches w f.at r) f.passes)
        ((reaches_P w ok f.at r (f.low, f.high)).0 (and_right (w.waits p f.at) (reaches w f.at r) f.passes))

    test : ReachesByArcs w p r → any_to w.n (λ q. w.waits p q && reaches w q r) ≡ true
    test (onward {q} e t) =
        let i = to_in ok p q e in
        any_to_of w.n (λ q. w.waits p q && reaches w q r) q i.0 i.1
        (and_both (w.waits p q) (reaches w q r) e ((reaches_P w ok q r i).1 t))

-- to wait for somebody
pub waits_for_some_P : (w : Waits) → Sound w → (p : ℕ) → (waits_for_some w p ≡ true) ↔ WaitsForSome w p
unfolding waits_for_some
waits_for_some_P w ok p = (
  λ e. let f = any_to_found w.n (λ q. w.waits p q) e in record { process = f.at; waits = f.passes },
  λ h. let i = to_in ok p h.process h.waits in any_to_of w.n (λ q. w.waits p q) h.process i.0 i.1 h.waits,
)

pub waits_for_some_degree : (w : Waits) (p : ℕ) → (waits_for_some w p ≡ true) ↔ (1 ≤ out_degree w p)
unfolding waits_for_some out_degree count_to
waits_for_some_degree w p = (
  λ e. let f = any_to_found w.n (λ q. w.waits p q) e in
      omega (arith, sum_to_part w.n (λ q. bit (w.waits p q)) f.at f.low f.high, ap bit f.passes),
  λ h. let x = sum_to_some w.n (λ q. bit (w.waits p q)) h in
      any_to_of w.n (λ q. w.waits p q) x.at x.low x.high (bit_some (w.waits p x.at) x.some),
)

-- 02, N3: who waits for nobody adds 1
pub waits_for_some_own : (w : Waits) (p : ℕ) → own_count (out_degree w p) ≡ bit (not (waits_for_some w p))
unfolding own_count
waits_for_some_own w p = ap bit (none_test (out_degree w p) (waits_for_some w p) (waits_for_some_degree w p))

module _ (w : Waits) (ok : Sound w) (s : ℕ) (sIn : IsProcess w.n s) where
  -- whoever is reached from a process is a process
  pub reaches_in : {p : ℕ} → Reaches w s p → IsProcess w.n p
  reaches_in t = reaches_forward (λ x. IsProcess w.n x) (λ a b e _. to_in ok a b e) t sIn

  -- a test f, and what it tells, of the processes reachable from s
  module _ (f : ℕ → Bool) (F : ℕ → Type 0) (f-P : (p : ℕ) → IsProcess w.n p → (f p ≡ true) ↔ F p) where
    -- all of them have it
    reached_all : (all_to w.n (λ p. not (reaches w s p) || f p) ≡ true) ↔ ((p : ℕ) → Reaches w s p → F p)
    reached_all = (
      λ e p t. let i = reaches_in t in back p i (all_to_at w.n (λ q. not (reaches w s q) || f q) e p i.0 i.1) t,
      λ h. all_to_of w.n (λ q. not (reaches w s q) || f q) (λ p l u. test p (l, u) h (tested (reaches w s p))),
    )
      where
        back : (p : ℕ) → IsProcess w.n p → (not (reaches w s p) || f p) ≡ true → Reaches w s p → F p
        back p i e t = (f-P p i).0 (rw ((reaches_P w ok s p sIn).1 t) at e)

        test : (p : ℕ) → IsProcess w.n p → ((q : ℕ) → Reaches w s q → F q) → Tested (reaches w s p) → (not (reaches w s p) || f p) ≡ true
        test p i h (passed e) = rw e ((f-P p i).1 (h p ((reaches_P w ok s p sIn).0 e)))
        test p i h (failed e) = rw e

    -- one of them has it not
    reached_not : (p : ℕ) → IsProcess w.n p → ((reaches w s p && not (f p)) ≡ true) ↔ (Reaches w s p × (F p → ⊥))
    reached_not p i = (
      λ e. (
        (reaches_P w ok s p sIn).0 (and_left (reaches w s p) (not (f p)) e),
        λ t. false≢true (sym (not-true (f p) (and_right (reaches w s p) (not (f p)) e)) ∙ (f-P p i).1 t),
      ),
      λ h. test h (tested (f p)),
    )
      where
        test : Reaches w s p × (F p → ⊥) → Tested (f p) → (reaches w s p && not (f p)) ≡ true
        test h (passed e) = absurd (h.1 ((f-P p i).0 e))
        test h (failed e) = rw (e, (reaches_P w ok s p sIn).1 h.0)

  pub all_reach_back_P : (all_reach_back w s ≡ true) ↔ ((p : ℕ) → Reaches w s p → Reaches w p s)
  unfolding all_reach_back
  all_reach_back_P = reached_all (λ p. reaches w p s) (λ p. Reaches w p s) (λ p i. reaches_P w ok p s i)

  pub some_by_arcs_P : (some_by_arcs w s ≡ true) ↔ SomeByArcs w s
  unfolding some_by_arcs
  some_by_arcs_P = (
    λ e. let f = any_to_found w.n (λ q. reaches_by_arcs w s q) e in
        record { process = f.at; reached = (reaches_by_arcs_P w ok s f.at).0 f.passes },
    λ h. by h.process h.reached,
  )
    where
      by : (r : ℕ) → ReachesByArcs w s r → any_to w.n (λ q. reaches_by_arcs w s q) ≡ true
      by r (onward e t) =
          let i = reaches_in (along e t) in
          any_to_of w.n (λ q. reaches_by_arcs w s q) r i.0 i.1 ((reaches_by_arcs_P w ok s r).1 (onward e t))

  -- 02, N4: the second edition asks in addition that the start waits for somebody
  pub some_by_arcs_waits : (some_by_arcs w s ≡ true) ↔ (1 ≤ out_degree w s)
  some_by_arcs_waits = (
    λ e. (waits_for_some_degree w s).0 ((waits_for_some_P w ok s).1 (some (some_by_arcs_P.0 e).reached)),
    λ h. by ((waits_for_some_P w ok s).0 ((waits_for_some_degree w s).1 h)),
  )
    where
      some : {r : ℕ} → ReachesByArcs w s r → WaitsForSome w s
      some (onward {q} e t) = record { process = q; waits = e }

      by : WaitsForSome w s → some_by_arcs w s ≡ true
      by x = some_by_arcs_P.1 (record { process = x.process; reached = onward x.waits here })

  -- by edition (02, N4)
  pub in_knot_P : (ed : ℕ) → (in_knot w s ed ≡ true) ↔ (((p : ℕ) → Reaches w s p → Reaches w p s) × (ed ≡ 2 → SomeByArcs w s))
  unfolding in_knot edition_allows
  in_knot_P ed = (
    λ e. (
      all_reach_back_P.0 (and_left (all_reach_back w s) (not (eqb ed 2) || some_by_arcs w s) e),
      λ two. some_by_arcs_P.0 (rw (eq-eqb ed 2 two) at (and_right (all_reach_back w s) (not (eqb ed 2) || some_by_arcs w s) e)),
    ),
    λ h. and_both (all_reach_back w s) (not (eqb ed 2) || some_by_arcs w s) (all_reach_back_P.1 h.0) (test h.1 (same? ed 2)),
  )
    where
      test : (ed ≡ 2 → SomeByArcs w s) → Same ed 2 → (not (eqb ed 2) || some_by_arcs w s) ≡ true
      test h (same e f) = rw f (some_by_arcs_P.1 (h e))
      test h (apart e f) = rw f

  pub outsider_P : (p : ℕ) → IsProcess w.n p → (outsider w s p ≡ true) ↔ Outside w s p
  unfolding outsider
  outsider_P p i = reached_not (λ p. reaches w p s) (λ p. Reaches w p s) (λ p i. reaches_P w ok p s i) p i

  pub outsiders_P : HowMany (Outside w s) w.n (outsiders w s)
  unfolding outsiders
  outsiders_P = count_to_P w.n (outsider w s) (Outside w s) (λ p l u. outsider_P p (l, u))

  pub lowest_outsider_P : Lowest (Outside w s) w.n (lowest_outsider w s)
  unfolding lowest_outsider
  lowest_outsider_P = lowest_to_P w.n (outsider w s) (Outside w s) (λ p l u. outsider_P p (l, u))

  -- 02, N3: "every process reachable from the start, itself included, waits for somebody"
  pub all_wait_P : (all_wait w s ≡ true) ↔ ((p : ℕ) → Reaches w s p → WaitsForSome w p)
  unfolding all_wait
  all_wait_P = reached_all (waits_for_some w) (WaitsForSome w) (λ p _. waits_for_some_P w ok p)

  pub sinks_P : HowMany (Sink w s) w.n (sinks w s)
  unfolding sinks sink
  sinks_P = count_to_P w.n (sink w s) (Sink w s) (λ p l u. reached_not (waits_for_some w) (WaitsForSome w) (λ p _. waits_for_some_P w ok p) p (l, u))
