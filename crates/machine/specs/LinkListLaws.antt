-- Laws of lists of links: places in them, and rows of lists.
--   no_pair                        == a link is not nobody
--   link_at_end, link_at_within      == past the end of a list is nobody, before it a link
--   link_at_front, link_at_behind    == a place in the first of two lists, and in the second
--   in_row_length, in_row_more       == the lengths of the lists in a row add up; a longer row is no shorter
--   in_row_within, in_row_at         == a place in one list of a row
--   Named c n k, in_row_named       == in which list of a row, and at which place of it, the link at place k stands
--   named_order                    == the lower of two places is in a list before, or at a lower place of the same list
-- Assumes nothing.
use Prim.Native.Nat.{ℕ, zero, suc, ◌+◌, ◌-◌, ◌≤◌, ◌<◌}
use Rattle.std.specs.Prelude.{List, [], ◌∷◌, ◌++◌, ◌≡◌, ◌⊎◌}
use Rattle.std.proofs.Math.Path.{refl, ap, ap₂}
use Rattle.std.proofs.Common.{sym, ◌∙◌}
use Rattle.std.proofs.Math.Logic.{inl, inr}
use native.Mathlib.Omega.{arith}
use Rattle.std.proofs.Math.ListN.{length, length-append}
use Rattle.base.specs.ChoiceLaws.{same?, below?}
use Rattle.base.specs.Checks.{Same, same, apart, Below, below, beyond}
use Rattle.base.specs.Sums.{sum_to}
use Rattle.base.specs.SumLaws.{sum_to_more}
use Rattle.tables.specs.Table.{IsProcess}
use Rattle.machine.specs.Calls.{nobody, pair, in_row, link_at}

abbrev Links : Type 0
Links = List (ℕ × ℕ)

-- ---- places

pub link_at_end : (k : ℕ) (l : Links) → length l ≤ k → link_at k l ≡ nobody
unfolding link_at
link_at_end k [] u = refl
link_at_end zero (x ∷ l) u = absurd (omega arith)
link_at_end (suc k) (x ∷ l) u = link_at_end k l (omega arith)

pub no_pair : {a b : ℕ} → pair a b ≡ nobody → ⊥
no_pair e = let z : ◌≡◌ {A = ℕ} 0 1 = cc in absurd (omega arith)

pub link_at_within : (k : ℕ) (l : Links) → k < length l → link_at k l ≡ nobody → ⊥
unfolding link_at
link_at_within k [] u e = absurd (omega arith)
link_at_within zero (x ∷ l) u e = no_pair e
link_at_within (suc k) (x ∷ l) u e = link_at_within k l (omega arith) e

pub link_at_front : (k : ℕ) (l m : Links) → k < length l → link_at k (l ++ m) ≡ link_at k l
unfolding link_at
link_at_front k [] m u = absurd (omega arith)
link_at_front zero (x ∷ l) m u = refl
link_at_front (suc k) (x ∷ l) m u = link_at_front k l m (omega arith)

pub link_at_behind : (k : ℕ) (l m : Links) → length l ≤ k → link_at k (l ++ m) ≡ link_at (k - length l) m
unfolding link_at
link_at_behind k [] m u = ap (λ (i : ℕ). link_at i m) (omega arith)
link_at_behind zero (x ∷ l) m u = absurd (omega arith)
link_at_behind (suc k) (x ∷ l) m u = link_at_behind k l m (omega arith) ∙ ap (λ (i : ℕ). link_at i m) (omega arith)

-- ---- rows

module _ {A : Type 0} where
  pub in_row_length : (n : ℕ) (c : ℕ → List A) → length (in_row n c) ≡ sum_to n (λ x. length (c x))
  unfolding in_row sum_to
  in_row_length zero c = refl
  in_row_length (suc n) c = length-append (in_row n c) (c (suc n)) ∙ ap (λ (i : ℕ). i + length (c (suc n))) (in_row_length n c)

  pub in_row_more : (c : ℕ → List A) (m n : ℕ) → m ≤ n → length (in_row m c) ≤ length (in_row n c)
  in_row_more c m n u = omega (arith, in_row_length m c, in_row_length n c, sum_to_more m n (λ x. length (c x)) u)

module _ (c : ℕ → Links) where
  -- a place before its last list is a place in the shorter row
  in_row_keeps : (k m n : ℕ) → m ≤ n → k < length (in_row m c) → link_at k (in_row n c) ≡ link_at k (in_row m c)
  unfolding in_row
  in_row_keeps k m zero u v = let e : m ≡ 0 = omega arith in rw e
  in_row_keeps k m (suc n) u v = at (same? m (suc n)) (λ w. in_row_keeps k m n w v)
    where
      at : Same m (suc n) → (m ≤ n → link_at k (in_row n c) ≡ link_at k (in_row m c)) → link_at k (in_row (suc n) c) ≡ link_at k (in_row m c)
      at (same e _) rest = rw e
      at (apart e _) rest = link_at_front k (in_row n c) (c (suc n)) (omega (arith, in_row_more c m n (omega arith))) ∙ rest (omega arith)

  -- a list behind the shorter row
  in_row_whole : (x : ℕ) → 1 ≤ x → length (in_row (x - 1) c) + length (c x) ≡ length (in_row x c)
  unfolding in_row
  in_row_whole zero l = absurd (omega arith)
  in_row_whole (suc x) l =
      let last : suc x - 1 ≡ x = omega arith in
      omega (arith, ap (λ (y : ℕ). length (in_row y c)) last, length-append (in_row x c) (c (suc x)))

  module _ (x n k : ℕ) (i : IsProcess n x) (u : k < length (c x)) where
    pub in_row_within : length (in_row (x - 1) c) + k < length (in_row n c)
    in_row_within = omega (arith, in_row_whole x i.0, in_row_more c x n i.1)

    pub in_row_at : link_at (length (in_row (x - 1) c) + k) (in_row n c) ≡ link_at k (c x)
    unfolding in_row
    in_row_at =
        let up : suc (x - 1) ≡ x = omega (arith, i) in
        let short : ℕ = length (in_row (x - 1) c) in
        in_row_keeps (short + k) x n i.1 (omega (arith, in_row_whole x i.0))
        ∙ ap (λ (y : ℕ). link_at (short + k) (in_row y c)) (sym up)
        ∙ link_at_behind (short + k) (in_row (x - 1) c) (c (suc (x - 1))) (omega arith)
        ∙ ap₂ (λ (j y : ℕ). link_at j (c y)) rest up
      where
        rest : length (in_row (x - 1) c) + k - length (in_row (x - 1) c) ≡ k
        rest = omega arith

  -- the place k of a row of n lists is the place j of the list x
  pub record Named (n k : ℕ) : Type 0 where
    pub x : ℕ
    pub x_in : IsProcess n x
    pub j : ℕ
    pub within : j < length (c x)
    pub place : k ≡ length (in_row (x - 1) c) + j
    pub is : link_at k (in_row n c) ≡ link_at j (c x)

  pub in_row_named : (n k : ℕ) → k < length (in_row n c) → Named n k
  unfolding in_row
  in_row_named zero k u = absurd (omega arith)
  in_row_named (suc n) k u = at (below? k (length (in_row n c))) (λ v. in_row_named n k v)
    where
      at : Below k (length (in_row n c)) → (k < length (in_row n c) → Named n k) → Named (suc n) k
      at (below v _) rest =
          let h = rest v in
          record {
            x = h.x;
            x_in = (h.x_in.0, omega (arith, h.x_in));
            j = h.j;
            within = h.within;
            place = h.place;
            is = link_at_front k (in_row n c) (c (suc n)) v ∙ h.is;
          }
      at (beyond v _) rest =
          let last : suc n - 1 ≡ n = omega arith in
          record {
            x = suc n;
            x_in = (omega arith, omega arith);
            j = k - length (in_row n c);
            within = omega (arith, u, length-append (in_row n c) (c (suc n)));
            place = omega (arith, ap (λ (i : ℕ). length (in_row i c)) last);
            is = link_at_behind k (in_row n c) (c (suc n)) v;
          }

  -- of two places in a row the lower one is in a list before, or at a lower place of the same list
  pub named_order : {n k m : ℕ} (h : Named n k) (i : Named n m) → k < m → (h.x < i.x) ⊎ ((h.x ≡ i.x) × (h.j < i.j))
  unfolding in_row
  named_order {n} {k} {m} h i u = at (below? h.x i.x) (same? h.x i.x)
    where
      at : Below h.x i.x → Same h.x i.x → (h.x < i.x) ⊎ ((h.x ≡ i.x) × (h.j < i.j))
      at (below v _) _ = inl v
      at (beyond v _) (same e _) =
          inr (e, omega (arith, h.place, i.place, ap (λ (y : ℕ). length (in_row (y - 1) c)) e))
      at (beyond v _) (apart e _) =
          absurd (omega (arith, h.place, i.place, i.within, in_row_whole i.x i.x_in.0, in_row_more c i.x (h.x - 1) (omega arith)))
