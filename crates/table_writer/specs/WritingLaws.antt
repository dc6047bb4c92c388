-- What is written is accepted and says the same waits.
--   written_right     == the bytes of a table that was written are right: accepted, with N, M and each pair as given
--   written_example   == 01's own example
-- Assumes nothing.
use Rattle.std.specs.Prelude.{ℕ, ◌+◌, ◌-◌, ◌*◌, ◌≤◌, ◌<◌, List, [], ◌∷◌, ◌≡◌, ltb, length, get_or, take, replicate}
use Rattle.std.proofs.Math.Path.{refl}
use Rattle.std.proofs.Common.{sym, ap, ◌∙◌, take_at, ltb-true, ltb-false, arith}
use Rattle.base.specs.ChoiceLaws.{same?, tested}
use Rattle.base.specs.Checks.{Same, same, apart, Tested, passed, failed}
use Rattle.base.specs.Sums.{all_to, any_to}
use Rattle.base.specs.SumLaws.{any_to_cong}
use Rattle.tables.specs.declared.Chain.{Chain}
use Rattle.tables.specs.declared.Chain.TheVariants.{Out, In}
use Rattle.tables.specs.Table.{Fields, field_of, n_of, m_of, field_total, table_length, IsProcess, is_process, first, arc_at, near, next}
use Rattle.tables.specs.Layout.{IsArc, Ends, Alike, Right}
use Rattle.tables.specs.Waits.{waits_of}
use Rattle.table_writer.specs.Writing.{Fit, given_waits, WrittenRight, pairs, end, front, given, unlike, ends_fit, process_field, arc_field}
use Rattle.table_writer.specs.Writing.{written_field, bytes_of, table_over, write_number, output_for, written}
use Rattle.table_writer.specs.FrontLaws.{front_le, written_field_process, written_field_arc}
use Rattle.table_writer.specs.BytesLaws.{bytes_of_length, bytes_of_field}
use Rattle.table_writer.specs.NumberLaws.{write_number_P}
use Rattle.table_writer.specs.FrontChainLaws.{carries_chain}
use Rattle.table_writer.specs.Putting.{Carries}

-- ---- the fields that are written carry the list

carries : (n : ℕ) (list : List ℕ) (t : Fields) → ((j : ℕ) → j < field_total n (pairs list) → t j ≡ written_field n list j) → Carries n list t
unfolding first near next arc_at process_field arc_field
carries n list t agree = record { n_is = n_is; m_is = agree 1 (omega arith) ∙ m_written; first_is = first_is; near_is = near_is; next_is = next_is }
  where
    n_written : written_field n list 0 ≡ n
    n_written = unfold written_field in refl

    m_written : written_field n list 1 ≡ pairs list
    m_written = unfold written_field in refl

    n_is : n_of t ≡ n
    n_is = agree 0 (omega arith) ∙ n_written

    process : (p i j : ℕ) → IsProcess n p → i < 2 → j ≡ 2 * p + i → t j ≡ process_field list p i
    process p i j r s e = agree j (omega arith) ∙ written_field_process n list p i j r s e

    arc : (k i j : ℕ) → 1 ≤ k → k ≤ pairs list → i < 4 → j ≡ 2 * t 0 + 4 * k - 2 + i → t j ≡ arc_field list k i
    arc k i j l u s e =
        let same-n : t 0 ≡ n = n_is in
        agree j (omega arith) ∙ written_field_arc n list k i j l s (omega arith)

    first_is : (c : Chain) (p : ℕ) → IsProcess n p → first c t p ≡ front c list p (pairs list)
    first_is Out p r = process p 0 (2 * p) r (omega arith) (omega arith)
    first_is In p r = process p 1 (2 * p + 1) r (omega arith) (omega arith)

    near_is : (c : Chain) (k : ℕ) → 1 ≤ k → k ≤ pairs list → near c (arc_at t k) ≡ end c list k
    near_is Out k l u = arc k 0 _ l u (omega arith) (omega arith)
    near_is In k l u = arc k 1 _ l u (omega arith) (omega arith)

    next_is : (c : Chain) (k : ℕ) → 1 ≤ k → k ≤ pairs list → next c (arc_at t k) ≡ front c list (end c list k) (k - 1)
    next_is Out k l u = arc k 2 _ l u (omega arith) (omega arith)
    next_is In k l u = arc k 3 _ l u (omega arith) (omega arith)

-- ---- a table that carries a list of fitting pairs meets the layout

module _ (n : ℕ) (list : List ℕ) (space : ℕ) (t : Fields) (f : Fit n list space) (h : Carries n list t) where
  from_is : (k : ℕ) → IsArc t k → (arc_at t k).from ≡ end Out list k
  unfolding near
  from_is k a = h.near_is Out k a.0 (omega (arith, h.m_is))

  to_is : (k : ℕ) → IsArc t k → (arc_at t k).to ≡ end In list k
  unfolding near
  to_is k a = h.near_is In k a.0 (omega (arith, h.m_is))

  ends_right_is : (k : ℕ) → IsArc t k → Ends t k
  ends_right_is k a =
      let m_is : m_of t ≡ pairs list = h.m_is in
      let n_is : n_of t ≡ n = h.n_is in
      let from : (arc_at t k).from ≡ end Out list k = from_is k a in
      let to : (arc_at t k).to ≡ end In list k = to_is k a in
      let up : k ≤ pairs list = omega arith in
      let from-process : IsProcess n (end Out list k) = f.ends Out k a.0 up in
      let to-process : IsProcess n (end In list k) = f.ends In k a.0 up in
      ((omega arith, omega arith), (omega arith, omega arith))

  firsts_right_is : (c : Chain) (p : ℕ) → IsProcess (n_of t) p → first c t p ≤ m_of t
  firsts_right_is c p q =
      omega (arith, h.m_is, h.first_is c p (q.0, omega (arith, h.n_is)), front_le c list p (pairs list))

  nexts_right_is : (c : Chain) (k : ℕ) → IsArc t k → next c (arc_at t k) ≤ m_of t
  nexts_right_is c k a =
      omega (arith, h.m_is, h.next_is c k a.0 (omega (arith, h.m_is)), front_le c list (end c list k) (k - 1))

  unlike_right : (j k : ℕ) → IsArc t j → IsArc t k → Alike t j k → j ≡ k
  unlike_right j k a b e = at (same? j k) (tested (ltb j k))
    where
      from_same : end Out list j ≡ end Out list k
      from_same = sym (from_is j a) ∙ e.0 ∙ from_is k b

      to_same : end In list j ≡ end In list k
      to_same = sym (to_is j a) ∙ e.1 ∙ to_is k b

      at : Same j k → Tested (ltb j k) → j ≡ k
      at (same q _) _ = q
      at (apart q _) (passed u) = absurd (f.differ j k a.0 (ltb-true j k u) (omega (arith, h.m_is)) from_same to_same)
      at (apart q _) (failed u) =
          absurd (f.differ k j b.0 (omega (arith, ltb-false j k u)) (omega (arith, h.m_is)) (sym from_same) (sym to_same))

  carries_right : Right t
  carries_right =
      record {
        sizes = (omega (arith, f.sizes.0, h.n_is), omega (arith, f.sizes.1, h.n_is), omega (arith, f.sizes.2, h.m_is));
        ends = ends_right_is;
        firsts = firsts_right_is;
        nexts = nexts_right_is;
        chains = λ c p q. carries_chain n list t h c p (q.0, omega (arith, h.n_is));
        unlike = unlike_right;
      }

-- ---- the bytes that are written

module _ (n : ℕ) (list : List ℕ) (t : Fields) (h : Carries n list t) where
  same_waits : (a b : ℕ) → (waits_of t).waits a b ≡ (given_waits n list).waits a b
  unfolding waits_of given_waits given near
  same_waits a b =
      rw h.m_is
      (any_to_cong (pairs list) _ _ (λ k l u. rw (h.near_is Out k l u, h.near_is In k l u)))

  carries_waits : waits_of t ≡ given_waits n list
  unfolding waits_of given_waits
  carries_waits = λ i. record { n = h.n_is i; waits = λ a b. same_waits a b i }

bytes_right : (n : ℕ) (list : List ℕ) (space : ℕ) → Fit n list space → WrittenRight n list (bytes_of (written_field n list) (field_total n (pairs list)))
unfolding near end
bytes_right n list space f =
    let w : Fields = written_field n list in
    let bs : List ℕ = bytes_of w (field_total n (pairs list)) in
    let h : Carries n list (field_of bs) = carries n list (field_of bs) (bytes_of_field w (field_total n (pairs list))) in
    let long : length bs ≡ 2 * field_total n (pairs list) = bytes_of_length w (field_total n (pairs list)) in
    let n_is : n_of (field_of bs) ≡ n = h.n_is in
    let m_is : m_of (field_of bs) ≡ pairs list = h.m_is in
    record {
      accepted = record { long = omega arith; right = carries_right n list space (field_of bs) f h };
      n_is = h.n_is;
      m_is = h.m_is;
      from_is = λ k l u. h.near_is Out k l u ∙ ap (λ (i : ℕ). get_or list i 0) (omega arith);
      to_is = λ k l u. h.near_is In k l u ∙ ap (λ (i : ℕ). get_or list i 0) (omega arith);
      waits_are = carries_waits n list (field_of bs) h;
    }

written_bytes : (n : ℕ) (list out : List ℕ) → write_number n list (length out) ≡ 0
    → take (table_length n (pairs list)) (written n list out) ≡ bytes_of (written_field n list) (field_total n (pairs list))
unfolding written output_for table_over
written_bytes n list out e =
    rw e (take_at (bytes_of (written_field n list) (field_total n (pairs list))) _ (table_length n (pairs list))
    (bytes_of_length (written_field n list) (field_total n (pairs list)) ∙ omega arith))

pub written_right : (n : ℕ) (list out : List ℕ) → write_number n list (length out) ≡ 0
    → WrittenRight n list (take (table_length n (pairs list)) (written n list out))
written_right n list out e = rw (written_bytes n list out e) (bytes_right n list (length out) ((write_number_P n list (length out)).0 e))

-- 01's example of a table: two processes, 1 waits for 2. Two bytes past the table keep their values
pub written_example : written 2 (1 ∷ 2 ∷ []) (replicate 22 7) ≡ 2 ∷ 0 ∷ 1 ∷ 0 ∷ 1 ∷ 0 ∷ 0 ∷ 0 ∷ 0 ∷ 0 ∷ 1 ∷ 0 ∷ 1 ∷ 0 ∷ 2 ∷ 0 ∷ 0 ∷ 0 ∷ 0 ∷ 0 ∷ 7 ∷ 7 ∷ []
unfolding written output_for write_number ends_fit is_process unlike given all_to any_to table_over bytes_of written_field process_field arc_field front end
written_example = refl
