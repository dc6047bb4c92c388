-- Well-formed areas.
--   area_right_P         == what `area_right w` says, part by part
--   area_right_table     == the table of a well-formed area
--   area_right_stored    == an area with a right table and a well-formed run of it is well formed
--   stored_same         == a well-formed area is the area with its own table and run in it
-- Assumes nothing.
use Rattle.std.specs.Prelude.{ℕ, ◌+◌, ◌-◌, ◌*◌, ◌/◌, ◌%◌, ◌≤◌, ◌<◌, true, List, ◌≡◌, refl, ◌⊎◌, length, ℤ, pos}
use Rattle.std.proofs.Common.{sym, inl, inr, arith}
use Rattle.base.specs.ChoiceLaws.{same?, below?}
use Rattle.base.specs.Checks.{Same, same, apart, Below, below, beyond}
use Rattle.tables.specs.declared.Chain.TheVariants.{Out, In}
use Rattle.tables.specs.Table.{Fields, n_of, m_of, most_processes, most_arcs, first, arc_at, next}
use Rattle.tables.specs.Reading.{fields_number}
use Rattle.tables.specs.Layout.{Right}
use Rattle.tables.specs.LayoutLaws.{sizes_right_P, fields_number_P}
use Rattle.checks.specs.Run.{Run, well_formed}
use Rattle.areas.specs.Places.{field_place}
use Rattle.areas.specs.Area.{field_total_of, area_of, word_of, stored, fields_in, run_in, area_right}
use Rattle.areas.specs.Contained.{Contained}
use Rattle.areas.specs.AreaFacts.{AreaRight, RightTable}
use Rattle.areas.specs.Tells.{Tells}
use Rattle.areas.specs.TellsLaws.{tells_map, tells_le, tells_eq, tells_id, tells_both}
use Rattle.areas.specs.StoredLaws.{stored_length, stored_word, stored_of}
use Rattle.areas.specs.ReadLaws.{fields_in_stored, run_in_stored}
use Rattle.areas.specs.WordTestLaws.{holds_words_P}
use Rattle.areas.specs.RunInLaws.{fields_in_shut}

-- ---- the fields of a right table

-- one of two neighbouring numbers
one_of : (x y : ℕ) → y ≤ x → x ≤ y + 1 → (x ≡ y) ⊎ (x ≡ y + 1)
one_of x y l u = at (same? x y)
  where
    at : Same x y → (x ≡ y) ⊎ (x ≡ y + 1)
    at (same e _) = inl e
    at (apart e _) = inr (omega arith)

-- which field of a table stands at a number
data FieldAt (t : Fields) (j : ℕ) : Type 0 where
  a_size : (j ≡ 0) ⊎ (j ≡ 0 + 1) → FieldAt t j
  a_first : (p : ℕ) → 1 ≤ p → p ≤ n_of t → (j ≡ 2 * p) ⊎ (j ≡ 2 * p + 1) → FieldAt t j
  an_end : (k : ℕ) → 1 ≤ k → k ≤ m_of t → (j ≡ 2 * n_of t + 4 * k - 2) ⊎ (j ≡ 2 * n_of t + 4 * k - 2 + 1) → FieldAt t j
  a_next : (k : ℕ) → 1 ≤ k → k ≤ m_of t → (j ≡ 2 * n_of t + 4 * k) ⊎ (j ≡ 2 * n_of t + 4 * k + 1) → FieldAt t j

field_at? : (t : Fields) (j : ℕ) → j < field_total_of t → FieldAt t j
field_at? t j h = at (below? j 2) (below? j (2 + 2 * n_of t)) (below? ((j - (2 + 2 * n_of t)) % 4) 2)
  where
    at : Below j 2 → Below j (2 + 2 * n_of t) → Below ((j - (2 + 2 * n_of t)) % 4) 2 → FieldAt t j
    at (below u _) _ _ = a_size (one_of j 0 (omega arith) (omega arith))
    at (beyond u _) (below v _) _ = a_first (j / 2) (omega arith) (omega arith) (one_of j (2 * (j / 2)) (omega arith) (omega arith))
    at (beyond u _) (beyond v _) (below x _) =
        let k : ℕ = (j - (2 + 2 * n_of t)) / 4 + 1 in
        an_end k (omega arith) (omega arith) (one_of j (2 * n_of t + 4 * k - 2) (omega arith) (omega arith))
    at (beyond u _) (beyond v _) (beyond x _) =
        let k : ℕ = (j - (2 + 2 * n_of t)) / 4 + 1 in
        a_next k (omega arith) (omega arith) (one_of j (2 * n_of t + 4 * k) (omega arith) (omega arith))

-- no field of a right table is over the largest M: sizes and ends are at most the largest N and M, first and next fields at most M
right_fields : (t : Fields) → Right t → (j : ℕ) → j < field_total_of t → t j ≤ most_arcs
unfolding first arc_at next
right_fields t r j h = at (field_at? t j h)
  where
    n : n_of t ≤ most_processes
    n = r.sizes.1

    m : m_of t ≤ most_arcs
    m = r.sizes.2

    at : FieldAt t j → t j ≤ most_arcs
    at (a_size (inl e)) = rw e (omega (arith, n))
    at (a_size (inr e)) = rw e m
    at (a_first p l u (inl e)) = rw e (omega (arith, m, r.firsts Out p (l, u)))
    at (a_first p l u (inr e)) = rw e (omega (arith, m, r.firsts In p (l, u)))
    at (an_end k l u (inl e)) = rw e (omega (arith, n, r.ends k (l, u)))
    at (an_end k l u (inr e)) =
        let s : 2 * n_of t + 4 * k - 2 + 1 ≡ 2 * n_of t + 4 * k - 1 = omega arith in
        rw (e, s) (omega (arith, n, r.ends k (l, u)))
    at (a_next k l u (inl e)) = rw e (omega (arith, m, r.nexts Out k (l, u)))
    at (a_next k l u (inr e)) = rw e (omega (arith, m, r.nexts In k (l, u)))

-- ---- an area part by part

pub area_right_P : (w : List ℤ) → Tells (area_right w) (AreaRight w)
unfolding area_right
area_right_P w =
    tells_map
    (λ s. record {
      right = (fields_number_P t s.0.0.0.0.1).0 s.0.0.1;
      long = s.0.0.0.1;
      fields = λ j u. omega (arith, right_fields t ((fields_number_P t s.0.0.0.0.1).0 s.0.0.1) j u);
      run = s.0.1;
      words = s.1;
    })
    (λ s. (((((enough s, s.right.sizes), s.long), (fields_number_P t s.right.sizes).1 s.right), s.run), s.words))
    (tells_both
    (tells_both
    (tells_both (tells_both (tells_both (tells_le (field_place 2) (length w)) (sizes_right_P t)) (tells_le (area_of t) (length w)))
    (tells_eq (fields_number t) 0))
    (tells_id (well_formed (run_in w))))
    (holds_words_P w (word_of t (run_in w)) (area_of t)))
  where
    t : Fields
    t = fields_in w

    enough : AreaRight w → field_place 2 ≤ length w
    enough s = omega (arith, s.long)

-- ---- an area and what it holds

-- a well-formed area is the area with its own table and run in it
pub stored_same : (w : List ℤ) → area_right w ≡ true → stored (fields_in w) (run_in w) w ≡ w
stored_same w e =
    let r = (area_right_P w).0 e in
    sym (stored_of (fields_in w) (run_in w) w w (pos 0) r.long refl r.words (λ k u. refl))

-- the table of a well-formed area
pub area_right_table : (w : List ℤ) → area_right w ≡ true → RightTable (fields_in w)
area_right_table w e = record { right = ((area_right_P w).0 e).right; shut = fields_in_shut w }

-- an area with a right table and a well-formed run of it is well formed
pub area_right_stored : (t : Fields) (r : Run) (w : List ℤ) → RightTable t → Contained t r → well_formed r ≡ true → area_of t ≤ length w
    → area_right (stored t r w) ≡ true
area_right_stored t r w g h e l =
    let a : fields_in (stored t r w) ≡ t = fields_in_stored t r w g.shut in
    let b : run_in (stored t r w) ≡ r = run_in_stored t r w g.right g.shut h e in
    (area_right_P (stored t r w)).1
    (record {
      right = rw a g.right;
      long = rw (a, stored_length t r w l) l;
      fields = rw a (λ j u. omega (arith, right_fields t g.right j u));
      run = rw b e;
      words = λ k. rw (a, b) (stored_word t r w k (pos 0));
    })
