-- Laws of the check program's input.
--   field_of_after     == a field of the table is a field of the input, two behind it: the start process and the edition come before the table
--   first_number, first_met, first_P   == the number of an input is r exactly if r is the first row that it meets
--   none_rest, some_rest   == nothing is left after the last whole pick, or 1 to 3 bytes
--   end_least         == the table ends no sooner than its N and M
--   parts_sizes       == N and M of an input that is not refused are in range
--   parts_fill        == it is its start process, its edition, its table and its picks, with nothing left
--   table_field       == the table's bytes hold its own N and M
--   table_length_is      == its table has exactly the length that its own N and M ask
--   table_read        == so reading the table checks 4 to 7 only
--   then_4_to_8_30    == "then 4 to 8", then 30: what start says of that table, in words enough for any table
--   split_said, begun_said   == the number of splitting is that of its answer, and so is that of beginning
--   begun_started     == a begun input is not refused, its start is accepted, and the area is the one that its start leaves
--   begun_kept        == a refused input changes no word
--   example_split, example_pick   == 01's own input
-- Assumes nothing.
use Rattle.std.specs.Prelude.{ℕ, suc, ◌+◌, ◌-◌, ◌*◌, ◌/◌, ◌%◌, ◌≤◌, ◌<◌, Bool, true, false, not, ◌&&◌, List, [], ◌∷◌, ◌↔◌, ◌⊎◌, ◌≡◌, refl, Ok, eqb, leb, ltb, ℤ, get_or, take, drop}
use Rattle.std.proofs.Common.{inl, inr, ⊎_elim, ap, ◌∙◌, get_or-drop, get_or-take}
use native.Mathlib.Omega.{arith}
use borrow.Author.Tests.{lt-ltb, le-ltb, eq-eqb, ne_eqb}
use Rattle.std.proofs.Math.ListN.{length, length-drop}
use Rattle.std.proofs.Math.Seq.{length-take-le}
use Rattle.base.specs.Choice.{choose}
use Rattle.base.specs.ChoiceLaws.{same?}
use Rattle.base.specs.Checks.{Same, same, apart}
use Rattle.base.specs.Checks.{Check, holds, fails}
use Rattle.base.specs.CheckLaws.{check_map, check_le, check_both}
use Rattle.base.specs.Sums.{all_to}
use Rattle.tables.specs.declared.Chain.TheVariants.{Out, In}
use Rattle.tables.specs.Table.{Fields, field_of, n_of, m_of, most_processes, most_arcs, table_length, is_process}
use Rattle.tables.specs.Layout.{Sizes}
use Rattle.refusals.specs.Numbers.{answered, number_of}
use Rattle.refusals.specs.NumberLaws.{number_of_low}
use Rattle.tables.specs.Reading.{chains_right, sizes_right, ends_right, firsts_right, nexts_right, unlike_before, fields_number, read_number}
use Rattle.tables.specs.ReadingLaws.{read_number_low}
use Rattle.checks.specs.Run.{is_edition}
use Rattle.areas.specs.Places.{area_length}
use Rattle.starting.specs.StartCall.{start_number, start_area}
use Rattle.inputs.specs.declared.Begun.{Begun}
use Rattle.inputs.specs.Input.{start_in, edition_in, before_table, table_fields, table_end, table_in, picks_in, input_number, FirstMet, row_13, row_1}
use Rattle.inputs.specs.Input.{row_2, row_3, row_12, no_row, split_of, pick_from, pick_to, pick_in, begun_number, begun_of, begun_area, ZeroOr, ThenMet}

-- ---- fields

pub field_of_after : (bs : List ℕ) (j : ℕ) → field_of (drop before_table bs) j ≡ field_of bs (j + 2)
unfolding field_of
field_of_after bs j =
    let low : get_or (drop before_table bs) (2 * j) 0 ≡ get_or bs (2 * (j + 2)) 0 =
    get_or-drop before_table bs (2 * j) 0 ∙ ap (λ (i : ℕ). get_or bs i 0) (omega arith) in
    let high : get_or (drop before_table bs) (2 * j + 1) 0 ≡ get_or bs (2 * (j + 2) + 1) 0 =
    get_or-drop before_table bs (2 * j + 1) 0 ∙ ap (λ (i : ℕ). get_or bs i 0) (omega arith) in
    omega arith

field_of_take : (bs : List ℕ) (k j : ℕ) → 2 * j + 2 ≤ k → field_of (take k bs) j ≡ field_of bs j
unfolding field_of
field_of_take bs k j h =
    let low : get_or (take k bs) (2 * j) 0 ≡ get_or bs (2 * j) 0 = get_or-take k bs (2 * j) 0 (omega arith) in
    let high : get_or (take k bs) (2 * j + 1) 0 ≡ get_or bs (2 * j + 1) 0 = get_or-take k bs (2 * j + 1) 0 (omega arith) in
    omega arith

-- ---- the first row that an input meets

check_sizes : (t : Fields) → Check (sizes_right t) (Sizes t) (Sizes t → ⊥)
unfolding sizes_right
check_sizes t =
    check_map (λ p. (p.0.0, p.0.1, p.1)) (λ r s. ⊎_elim (λ q. ⊎_elim (λ h. omega arith) (λ h. omega arith) q) (λ h. omega arith) r)
    (check_both (check_both (check_le 1 (n_of t)) (check_le (n_of t) most_processes)) (check_le (m_of t) most_arcs))

sizes_right_is : (t : Fields) → Sizes t → sizes_right t ≡ true
sizes_right_is t s = at (check_sizes t)
  where
    at : Check (sizes_right t) (Sizes t) (Sizes t → ⊥) → sizes_right t ≡ true
    at (holds e p) = e
    at (fails e r) = absurd (r s)

sizes_wrong : (t : Fields) → (Sizes t → ⊥) → sizes_right t ≡ false
sizes_wrong t d = at (check_sizes t)
  where
    at : Check (sizes_right t) (Sizes t) (Sizes t → ⊥) → sizes_right t ≡ false
    at (holds e p) = absurd (d p)
    at (fails e r) = e

-- what is left after the last whole pick
module _ (len end : ℕ) (h : end ≤ len) where
  rest_none : end + 4 * ((len - end) / 4) ≡ len → (len - end) % 4 ≡ 0
  rest_none e = omega arith

  rest_some : end + 4 * ((len - end) / 4) + 1 ≤ len → (len - end) % 4 ≡ 0 → ⊥
  rest_some l e = omega arith

  pub none_rest : (len - end) % 4 ≡ 0 → end + 4 * ((len - end) / 4) ≡ len
  none_rest e = omega arith

  pub some_rest : ((len - end) % 4 ≡ 0 → ⊥) → (end + 4 * ((len - end) / 4) + 1 ≤ len) × (len ≤ end + 4 * ((len - end) / 4) + 3)
  some_rest d = omega arith

module _ (bs : List ℕ) where
  pub end_least : before_table + 4 ≤ table_end bs
  unfolding table_end
  end_least = omega arith

  -- the first row met is the number
  pub first_number : (r : ℕ) → FirstMet bs r → input_number bs ≡ r
  unfolding input_number picks_in
  first_number r (row_13 h) = rw (lt-ltb 20480 (length bs) h)
  first_number r (row_1 l h) = rw (le-ltb 20480 (length bs) l, lt-ltb (length bs) 8 h)
  first_number r (row_2 l u d) = rw (le-ltb 20480 (length bs) l, le-ltb (length bs) 8 u, sizes_wrong (table_fields bs) d)
  first_number r (row_3 l u s h) = rw (le-ltb 20480 (length bs) l, le-ltb (length bs) 8 u, sizes_right_is (table_fields bs) s, lt-ltb (length bs) (table_end bs) h)
  first_number r (row_12 l s h k) =
      let u : before_table + 4 ≤ length bs = omega (arith, end_least) in
      let i : table_end bs ≤ length bs = omega arith in
      rw (
        le-ltb 20480 (length bs) l,
        le-ltb (length bs) 8 u,
        sizes_right_is (table_fields bs) s,
        le-ltb (length bs) (table_end bs) i,
        ne_eqb ((length bs - table_end bs) % 4) 0 (rest_some (length bs) (table_end bs) i h),
      )
  first_number r (no_row l s e) =
      let u : before_table + 4 ≤ length bs = omega (arith, end_least) in
      let i : table_end bs ≤ length bs = omega arith in
      rw (
        le-ltb 20480 (length bs) l,
        le-ltb (length bs) 8 u,
        sizes_right_is (table_fields bs) s,
        le-ltb (length bs) (table_end bs) i,
        eq-eqb ((length bs - table_end bs) % 4) 0 (rest_none (length bs) (table_end bs) i e),
      )

  first_met : FirstMet bs (input_number bs)
  unfolding picks_in
  first_met = over (check_le (suc 20480) (length bs))
    where
      said : (r : ℕ) → FirstMet bs r → FirstMet bs (input_number bs)
      said r m = rw (first_number r m) m

      left : length bs ≤ 20480 → Sizes (table_fields bs) → table_end bs ≤ length bs → Same ((length bs - table_end bs) % 4) 0 → FirstMet bs (input_number bs)
      left l s i (same e _) = said 0 (no_row l s (none_rest (length bs) (table_end bs) i e))
      left l s i (apart d _) = let b = some_rest (length bs) (table_end bs) i d in said 12 (row_12 l s b.0 b.1)

      few : length bs ≤ 20480 → before_table + 4 ≤ length bs → Sizes (table_fields bs) → Check (leb (table_end bs) (length bs)) (table_end bs ≤ length bs)
          (length bs < table_end bs) → FirstMet bs (input_number bs)
      few l u s (holds _ i) = left l s i (same? ((length bs - table_end bs) % 4) 0)
      few l u s (fails _ h) = said 3 (row_3 l u s h)

      sizes : length bs ≤ 20480 → before_table + 4 ≤ length bs
          → Check (sizes_right (table_fields bs)) (Sizes (table_fields bs)) (Sizes (table_fields bs) → ⊥) → FirstMet bs (input_number bs)
      sizes l u (holds _ s) = few l u s (check_le (table_end bs) (length bs))
      sizes l u (fails _ d) = said 2 (row_2 l u d)

      short : length bs ≤ 20480 → Check (leb 8 (length bs)) (8 ≤ length bs) (length bs < 8) → FirstMet bs (input_number bs)
      short l (holds _ u) = sizes l u (check_sizes (table_fields bs))
      short l (fails _ h) = said 1 (row_1 l h)

      over : Check (leb (suc 20480) (length bs)) (20480 < length bs) (length bs < suc 20480) → FirstMet bs (input_number bs)
      over (holds _ h) = said 13 (row_13 h)
      over (fails _ l) = short (omega arith) (check_le 8 (length bs))

  pub first_P : (r : ℕ) → (input_number bs ≡ r) ↔ FirstMet bs r
  first_P r = (λ e. rw e at first_met, first_number r)

  -- ---- an input that is not refused

  parts_sizes : input_number bs ≡ 0 → Sizes (table_fields bs)
  parts_sizes e = given ((first_P 0).0 e)
    where
      given : FirstMet bs 0 → Sizes (table_fields bs)
      given (no_row l s f) = s

  pub parts_fill : input_number bs ≡ 0 → table_end bs + 4 * picks_in bs ≡ length bs
  parts_fill e = given ((first_P 0).0 e)
    where
      given : FirstMet bs 0 → table_end bs + 4 * picks_in bs ≡ length bs
      given (no_row l s f) = f

  -- the table's bytes hold its own fields, as far as N and M
  pub table_field : (j : ℕ) → j < 2 → field_of (table_in bs) j ≡ table_fields bs j
  unfolding table_in table_fields
  table_field j h = field_of_take (drop before_table bs) (table_end bs - before_table) j (omega (arith, end_least))

  table_sizes : input_number bs ≡ 0 → Sizes (field_of (table_in bs))
  table_sizes e =
      let n : field_of (table_in bs) 0 ≡ table_fields bs 0 = table_field 0 (omega arith) in
      let m : field_of (table_in bs) 1 ≡ table_fields bs 1 = table_field 1 (omega arith) in
      let s = parts_sizes e in
      (omega arith, omega arith, omega arith)

  table_bytes : table_end bs ≤ length bs → length (table_in bs) ≡ table_end bs - before_table
  unfolding table_in
  table_bytes h = length-take-le (table_end bs - before_table) (drop before_table bs) (simp length-drop (omega arith))

  table_length_is : input_number bs ≡ 0 → length (table_in bs) ≡ table_length (n_of (field_of (table_in bs))) (m_of (field_of (table_in bs)))
  unfolding table_end
  table_length_is e =
      let n : field_of (table_in bs) 0 ≡ table_fields bs 0 = table_field 0 (omega arith) in
      let m : field_of (table_in bs) 1 ≡ table_fields bs 1 = table_field 1 (omega arith) in
      let f = parts_fill e in
      let b = table_bytes (omega arith) in
      omega arith

  -- "then 4 to 8": the checks 1 to 3 of reading a table find nothing
  table_read : input_number bs ≡ 0 → read_number (table_in bs) ≡ fields_number (field_of (table_in bs))
  unfolding read_number
  table_read e =
      let t : Fields = field_of (table_in bs) in
      let l = table_length_is e in
      rw (le-ltb (length (table_in bs)) 4 (omega arith), sizes_right_is t (table_sizes e), eq-eqb (length (table_in bs)) (table_length (n_of t) (m_of t)) l)

-- ---- what start says of its table

choose_range : (a h : ℕ) (b : Bool) (m n : ℕ) → ZeroOr a h m → ZeroOr a h n → ZeroOr a h (choose b m n)
choose_range a h true m n p q = p
choose_range a h false m n p q = q

row_range : (a h : ℕ) (b : Bool) (r n : ℕ) → a ≤ r → r ≤ h → ZeroOr a h n → ZeroOr a h (choose b r n)
row_range a h b r n l u q = choose_range a h b r n (inr (l, u)) q

-- a number of 4 to 8, or what comes after it
met_first : (b : Bool) (m n : ℕ) → ZeroOr 4 8 m → ThenMet n → ThenMet (choose b m n)
met_first true m n p q = inl p
met_first false m n p q = q

wider : (a g h n : ℕ) → g ≤ h → ZeroOr a g n → ZeroOr a h n
wider a g h n l (inl e) = inl e
wider a g h n l (inr r) = inr (r.0, omega (arith, r.1))

fields_range : (t : Fields) → ZeroOr 4 7 (fields_number t)
unfolding fields_number
fields_range t =
    row_range 4 7 (not (all_to (m_of t) (ends_right t))) 4 _ (omega arith) (omega arith)
    (row_range 4 7 (not (all_to (n_of t) (firsts_right t) && all_to (m_of t) (nexts_right t))) 5 _ (omega arith) (omega arith)
    (row_range 4 7 (not (chains_right Out t && chains_right In t)) 6 _ (omega arith) (omega arith)
    (row_range 4 7 (not (all_to (m_of t) (unlike_before t))) 7 0 (omega arith) (omega arith) (inl refl))))

-- 30 or 9 or nothing, where the words are enough
edition_range : (b c : Bool) → b ≡ false → ThenMet (choose c 30 (choose b 9 0))
edition_range b true e = inr refl
edition_range b false e = rw e (inl (inl refl))

module _ (bs : List ℕ) (e : input_number bs ≡ 0) (s ed : ℕ) (w : List ℤ) where
  read_range : ZeroOr 4 8 (read_number (table_in bs))
  read_range = wider 4 7 8 (read_number (table_in bs)) (omega arith) (rw (table_read bs e) (fields_range (field_of (table_in bs))))

  -- the words of the largest area are enough for any table
  pub then_4_to_8_30 : area_length most_processes most_arcs ≤ length w → ThenMet (start_number (table_in bs) s ed w)
  unfolding start_number
  then_4_to_8_30 h =
      let t : Fields = field_of (table_in bs) in
      let z = table_sizes bs e in
      let long : area_length (n_of t) (m_of t) ≤ length w = omega arith in
      met_first (not (eqb (read_number (table_in bs)) 0)) (read_number (table_in bs)) _ read_range
      (met_first (not (is_process (n_of t) s)) 8 _ (inr (omega arith, omega arith))
      (edition_range (ltb (length w) (area_length (n_of t) (m_of t))) (not (is_edition ed)) (le-ltb (length w) (area_length (n_of t) (m_of t)) long)))

-- ---- beginning

-- the numbers of the rows that beginning checks
abbrev Low : ℕ → Type 0
Low k = (k ≤ 13) ⊎ (k ≡ 30)

choose_low : (b : Bool) (m n : ℕ) → Low m → Low n → Low (choose b m n)
choose_low true m n p q = p
choose_low false m n p q = q

input_low : (bs : List ℕ) → Low (input_number bs)
unfolding input_number
input_low bs =
    choose_low (ltb 20480 (length bs)) _ _ (inl (omega arith))
    (choose_low (ltb (length bs) (before_table + 4)) _ _ (inl (omega arith))
    (choose_low (not (sizes_right (table_fields bs))) _ _ (inl (omega arith))
    (choose_low (ltb (length bs) (table_end bs)) _ _ (inl (omega arith))
    (choose_low (not (eqb ((length bs - table_end bs) % 4) 0)) _ _ (inl (omega arith)) (inl (omega arith))))))

start_low : (bs : List ℕ) (s ed : ℕ) (w : List ℤ) → Low (start_number bs s ed w)
unfolding start_number
start_low bs s ed w =
    choose_low (not (eqb (read_number bs) 0)) _ _ (inl (omega (arith, read_number_low bs)))
    (choose_low (not (is_process (n_of (field_of bs)) s)) _ _ (inl (omega arith))
    (choose_low (not (is_edition ed)) _ _ (inr refl)
    (choose_low (ltb (length w) (area_length (n_of (field_of bs)) (m_of (field_of bs)))) _ _ (inl (omega arith)) (inl (omega arith)))))

-- the number of an answer that was made of such a number
low_said : {A : Type 0} (k : ℕ) (x : A) → Low k → number_of (answered k x) ≡ k
low_said k x (inl h) = number_of_low k x h
low_said k x (inr e) = rw e

pub split_said : (bs : List ℕ) → number_of (split_of bs) ≡ input_number bs
unfolding split_of
split_said bs = low_said _ _ (input_low bs)

pub begun_said : (bs : List ℕ) (w : List ℤ) → number_of (begun_of bs w) ≡ begun_number bs w
unfolding begun_of begun_number
begun_said bs w = low_said _ _ (choose_low (eqb (input_number bs) 0) _ _ (start_low (table_in bs) (start_in bs) (edition_in bs) w) (input_low bs))

module _ (bs : List ℕ) (w : List ℤ) where
  pub begun_started : begun_number bs w ≡ 0
      → (input_number bs ≡ 0) × (start_number (table_in bs) (start_in bs) (edition_in bs) w ≡ 0)
      × (begun_area bs w ≡ start_area (table_in bs) (start_in bs) (edition_in bs) w)
  unfolding begun_number begun_area
  begun_started z = at (same? (input_number bs) 0)
    where
      at : Same (input_number bs) 0
          → (input_number bs ≡ 0) × (start_number (table_in bs) (start_in bs) (edition_in bs) w ≡ 0)
          × (begun_area bs w ≡ start_area (table_in bs) (start_in bs) (edition_in bs) w)
      at (same e q) = (e, rw q at z, rw q)
      at (apart d q) = absurd (d (rw q at z))

  pub begun_kept : (begun_number bs w ≡ 0 → ⊥) → begun_area bs w ≡ w
  unfolding begun_number begun_area start_area
  begun_kept d = at (same? (input_number bs) 0)
    where
      at : Same (input_number bs) 0 → begun_area bs w ≡ w
      at (same e q) = rw q (rw (ne_eqb (start_number (table_in bs) (start_in bs) (edition_in bs) w) 0 (λ z. d (rw q z))))
      at (apart f q) = rw q

-- ---- 01's own input, with `01 00` after the start process (02, N4): start 1, edition 1, the table of one wait, 1 for 2, and one pick, 1 to 2

bytes : List ℕ
bytes = 1 ∷ 0 ∷ 1 ∷ 0 ∷ 2 ∷ 0 ∷ 1 ∷ 0 ∷ 1 ∷ 0 ∷ 0 ∷ 0 ∷ 0 ∷ 0 ∷ 1 ∷ 0 ∷ 1 ∷ 0 ∷ 2 ∷ 0 ∷ 0 ∷ 0 ∷ 0 ∷ 0 ∷ 1 ∷ 0 ∷ 2 ∷ 0 ∷ []

example_split : split_of bytes ≡ Ok (record { start = 1; edition = 1; end = 24; picks = 1 })
unfolding bytes split_of input_number start_in edition_in table_fields table_end picks_in field_of sizes_right
example_split = refl

example_pick : pick_in bytes 0 ≡ record { from = 1; to = 2 }
unfolding bytes pick_in pick_from pick_to table_fields table_end field_of
example_pick = refl
