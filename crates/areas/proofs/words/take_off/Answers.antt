-- `areas::words::take_off` meets its contract. The loop's invariant: the words from i up to k are those that stood one further on, the others
-- are as they were; where one of them is 0, so are those behind it. The measure is what is left up to the last.
use Rattle.std.proofs.Common.{ℕ, ◌+◌, ◌-◌, ◌≤◌, ◌<◌, List, ◌≡◌, sym, ◌∙◌, ◌⊎◌, inl, inr, arith, ℤ, pos, length, get_or, set, length-set, ext_get_or, get_or-set_same, get_or-set_other, w32, to_z, of_z}
use Rattle.base.specs.ChoiceLaws.{same?, below?}
use Rattle.base.specs.Checks.{Same, same, apart, Below, below, beyond}
use Rattle.steps.proofs.Counts.{signed_back}
use Rattle.areas.proofs.Signs.{word_is}
use Rattle.areas.specs.Writes.{moved_word, moved_down, Packed}
use Rattle.areas.specs.WriteLaws.{moved_word_next, moved_word_last, moved_word_below, moved_word_past, moved_down_length, moved_down_at}
use Rattle.areas.proofs.words.take_off.Invariants.{Moved}
use Rattle.areas.proofs.words.take_off.Goals as goal

-- one word more
moved_more : (w v : List ℤ) (i k : ℕ) → i ≤ k → k < length w → Moved w v i k → Moved w (set v k (get_or v (k + 1) (pos 0))) i (k + 1)
moved_more w v i k l u m =
    record { long = length-set v k next ∙ m.long; moved = λ j p q. new j p q (same? j k); kept = old }
  where
    next : ℤ
    next = get_or v (k + 1) (pos 0)

    new : (j : ℕ) → i ≤ j → j < k + 1 → Same j k → get_or (set v k next) j (pos 0) ≡ get_or w (j + 1) (pos 0)
    new j p q (same e _) = rw e (get_or-set_same v k next (pos 0) (omega (arith, m.long)) ∙ m.kept (k + 1) (inr (omega arith)))
    new j p q (apart e _) = get_or-set_other v k j next (pos 0) e ∙ m.moved j p (omega arith)

    old : (j : ℕ) → (j < i) ⊎ (k + 1 ≤ j) → get_or (set v k next) j (pos 0) ≡ get_or w j (pos 0)
    old j (inl p) = get_or-set_other v k j next (pos 0) (λ e. absurd (omega arith)) ∙ m.kept j (inl p)
    old j (inr p) = get_or-set_other v k j next (pos 0) (λ e. absurd (omega arith)) ∙ m.kept j (inr (omega arith))

-- and 0 in the last place
moved_all : (w v : List ℤ) (i e : ℕ) → i < e → e ≤ length w → Moved w v i (e - 1) → set v (e - 1) (pos 0) ≡ moved_down w i e
moved_all w v i e l u m =
    ext_get_or (pos 0) (set v (e - 1) (pos 0)) (moved_down w i e) (length-set v (e - 1) (pos 0) ∙ m.long ∙ sym (moved_down_length w i e))
    (λ j p. at j (below? j i) (below? j (e - 1)) (same? j (e - 1)) ∙ sym (moved_down_at w i e u j))
  where
    other : (j : ℕ) → (j ≡ e - 1 → ⊥) → get_or (set v (e - 1) (pos 0)) j (pos 0) ≡ get_or v j (pos 0)
    other j d = get_or-set_other v (e - 1) j (pos 0) (pos 0) d

    at : (j : ℕ) → Below j i → Below j (e - 1) → Same j (e - 1) → get_or (set v (e - 1) (pos 0)) j (pos 0) ≡ moved_word w i e j
    at j (below p _) _ _ = other j (λ d. absurd (omega arith)) ∙ m.kept j (inl p) ∙ sym (moved_word_below w i e j p)
    at j (beyond p _) (below q _) _ = other j (λ d. absurd (omega arith)) ∙ m.moved j p q ∙ sym (moved_word_next w i e j p (omega arith))
    at j (beyond p _) (beyond q _) (same f _) =
        rw f (get_or-set_same v (e - 1) (pos 0) (pos 0) (omega (arith, m.long)))
        ∙ sym (moved_word_last w i e j p (omega arith) (omega arith))
    at j (beyond p _) (beyond q _) (apart f _) = other j f ∙ m.kept j (inr q) ∙ sym (moved_word_past w i e j (omega arith))

-- where the word that comes next is 0, all behind it are
moved_short : (w v : List ℤ) (i k e : ℕ) → i ≤ k → k < e → e ≤ length w → Packed w i e → Moved w v i k → get_or w k (pos 0) ≡ pos 0 → v ≡ moved_down w i e
moved_short w v i k e l u f p m z =
    ext_get_or (pos 0) v (moved_down w i e) (m.long ∙ sym (moved_down_length w i e))
    (λ j h. at j (below? j i) (below? j k) (below? j e) (below? (j + 1) e) ∙ sym (moved_down_at w i e f j))
  where
    at : (j : ℕ) → Below j i → Below j k → Below j e → Below (j + 1) e → get_or v j (pos 0) ≡ moved_word w i e j
    at j (below q _) _ _ _ = m.kept j (inl q) ∙ sym (moved_word_below w i e j q)
    at j (beyond q _) (below r _) _ _ = m.moved j q r ∙ sym (moved_word_next w i e j q (omega arith))
    at j (beyond q _) (beyond r _) (beyond s _) _ = m.kept j (inr r) ∙ sym (moved_word_past w i e j s)
    at j (beyond q _) (beyond r _) (below s _) (below n _) =
        m.kept j (inr r) ∙ p k j l r s z ∙ sym (moved_word_next w i e j q n ∙ p k (j + 1) l (omega arith) n z)
    at j (beyond q _) (beyond r _) (below s _) (beyond n _) =
        m.kept j (inr r) ∙ p k j l r s z ∙ sym (moved_word_last w i e j q s n)

pub returns-then-next-eq0 : goal.returns-then-next-eq0
returns-then-next-eq0 c =
    let step : let l = c.loop-k in Moved c.args.area.now (set l.area l.k (to_z w32 (of_z w32 (get_or l.area (l.k + 1) (pos 0))))) c.args.i (l.k + 1) = let l = c.loop-k in
    let a = c.args in
    rw (signed_back (get_or l.area (l.k + 1) (pos 0)) (omega arith))
    (moved_more a.area.now l.area a.i l.k l.invariant.0 (omega arith) l.invariant.2) in
    let next_is : let l = c.loop-k in get_or l.area (l.k + 1) (pos 0) ≡ get_or c.args.area.now (l.k + 1) (pos 0) = let l = c.loop-k in l.invariant.2.kept (l.k + 1) (inr (omega arith)) in
    let l = c.loop-k in
    let z : get_or l.area (l.k + 1) (pos 0) ≡ pos 0 = word_is (get_or l.area (l.k + 1) (pos 0)) 0 (omega arith) (omega arith) c.if-next-eq0.true in
    moved_short c.args.area.now _ c.args.i (l.k + 1) c.args.end (omega arith) (omega arith) c.requires.end_in_bounds c.requires.packed step
    (sym next_is ∙ z)

pub returns : goal.returns
returns c =
    let a = c.args in
    let loop = c.loop-k in
    let e : loop.k ≡ a.end - 1 = omega arith in
    let m : Moved a.area.now loop.area a.i (a.end - 1) = rw e at loop.invariant.2 in
    moved_all a.area.now loop.area a.i a.end c.requires.i_lt_end c.requires.end_in_bounds m
