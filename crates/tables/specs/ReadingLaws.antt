-- What the number and the answer of reading a table tell.
--   read_number_1 to read_number_4   == the number, by the first check that fails; from check 4 on it is that of the fields
--   fields_number_low, read_number_low   == the number is one of 0 to 7
--   reading_number     == it is that of the answer
--   accepted_told      == the answer Ok sizes tells Accepts bs sizes.n sizes.m
--   refused_told       == the answer Err e tells Refuses bs (number e)
-- Assumes nothing.
use Rattle.std.specs.Prelude.{ℕ, ◌≤◌, ◌<◌, Bool, true, false, not, ◌&&◌, List, Ok, Err, ◌≡◌, eqb, ltb, length}
use Rattle.std.proofs.Common.{sym, ap, ◌∙◌, ltb-true, ltb-false, lt-ltb, le-ltb, eq-eqb, ne_eqb, arith}
use Rattle.base.specs.ChoiceLaws.{tested, same?}
use Rattle.base.specs.Checks.{Tested, passed, failed, Same, same, apart}
use Rattle.base.specs.Choice.{choose}
use Rattle.base.specs.Sums.{all_to}
use Rattle.refusals.specs.declared.Refusal.{Refusal}
use Rattle.refusals.specs.Numbers.{number, answered, number_of}
use Rattle.refusals.specs.NumberLaws.{number_of_low, answered_ok, answered_err}
use Rattle.tables.specs.declared.Chain.TheVariants.{Out, In}
use Rattle.tables.specs.declared.Sizes.{Sizes}
use Rattle.tables.specs.Table.{Fields, field_of, n_of, m_of, sizes_of, table_length}
use Rattle.tables.specs.Reading.{sizes_right, ends_right, firsts_right, nexts_right, chains_right, unlike_before, fields_number, read_number, reading_of}
use Rattle.tables.specs.ReadingFacts.{Refuses, Accepts}
use Rattle.tables.specs.LayoutLaws.{sizes_right_P}

pub read_number_1 : (bs : List ℕ) → length bs < 4 → read_number bs ≡ 1
unfolding read_number
read_number_1 bs h = rw (lt-ltb (length bs) 4 h)

pub read_number_2 : (bs : List ℕ) → 4 ≤ length bs → sizes_right (field_of bs) ≡ false → read_number bs ≡ 2
unfolding read_number
read_number_2 bs long h = rw (le-ltb (length bs) 4 long, h)

pub read_number_3 : (bs : List ℕ) → 4 ≤ length bs → sizes_right (field_of bs) ≡ true → (length bs ≡ table_length (n_of (field_of bs)) (m_of (field_of bs)) → ⊥)
    → read_number bs ≡ 3
unfolding read_number
read_number_3 bs long h d = rw (le-ltb (length bs) 4 long, h, ne_eqb (length bs) (table_length (n_of (field_of bs)) (m_of (field_of bs))) d)

pub read_number_4 : (bs : List ℕ) → 4 ≤ length bs → sizes_right (field_of bs) ≡ true → length bs ≡ table_length (n_of (field_of bs)) (m_of (field_of bs))
    → read_number bs ≡ fields_number (field_of bs)
unfolding read_number
read_number_4 bs long h e = rw (le-ltb (length bs) 4 long, h, eq-eqb (length bs) (table_length (n_of (field_of bs)) (m_of (field_of bs))) e)

-- the first three checks passed
record Passed (bs : List ℕ) : Type 0 where
  sizes : sizes_right (field_of bs) ≡ true
  exact : length bs ≡ table_length (n_of (field_of bs)) (m_of (field_of bs))
  fields : fields_number (field_of bs) ≡ 0

passes : (bs : List ℕ) → read_number bs ≡ 0 → Passed bs
passes bs z = short (tested (ltb (length bs) 4))
  where
    wrong : (r : ℕ) → 1 ≤ r → read_number bs ≡ r → ⊥
    wrong r l e = omega arith

    exact : 4 ≤ length bs → sizes_right (field_of bs) ≡ true → Same (length bs) (table_length (n_of (field_of bs)) (m_of (field_of bs))) → Passed bs
    exact u s (same e _) = record { sizes = s; exact = e; fields = sym (read_number_4 bs u s e) ∙ z }
    exact u s (apart d _) = absurd (wrong 3 (omega arith) (read_number_3 bs u s d))

    sizes : 4 ≤ length bs → Tested (sizes_right (field_of bs)) → Passed bs
    sizes u (passed s) = exact u s (same? (length bs) (table_length (n_of (field_of bs)) (m_of (field_of bs))))
    sizes u (failed s) = absurd (wrong 2 (omega arith) (read_number_2 bs u s))

    short : Tested (ltb (length bs) 4) → Passed bs
    short (passed e) = absurd (wrong 1 (omega arith) (read_number_1 bs (ltb-true (length bs) 4 e)))
    short (failed e) = sizes (ltb-false (length bs) 4 e) (tested (sizes_right (field_of bs)))

-- ---- the answer

-- a number that a failed check gives, or that of the checks after it
choose_low : {l : ℕ} (b : Bool) {x y : ℕ} → x ≤ l → y ≤ l → choose b x y ≤ l
choose_low true h g = h
choose_low false h g = g

pub fields_number_low : (t : Fields) → fields_number t ≤ 7
unfolding fields_number
fields_number_low t =
    choose_low (not (all_to (m_of t) (ends_right t))) (omega arith)
    (choose_low (not (all_to (n_of t) (firsts_right t) && all_to (m_of t) (nexts_right t))) (omega arith)
    (choose_low (not (chains_right Out t && chains_right In t)) (omega arith)
    (choose_low (not (all_to (m_of t) (unlike_before t))) (omega arith) (omega arith))))

pub read_number_low : (bs : List ℕ) → read_number bs ≤ 7
unfolding read_number
read_number_low bs =
    choose_low (ltb (length bs) 4) (omega arith)
    (choose_low (not (sizes_right (field_of bs))) (omega arith)
    (choose_low (not (eqb (length bs) (table_length (n_of (field_of bs)) (m_of (field_of bs))))) (omega arith)
    (fields_number_low (field_of bs))))

pub reading_number : (bs : List ℕ) → number_of (reading_of bs) ≡ read_number bs
unfolding reading_of
reading_number bs = number_of_low (read_number bs) (sizes_of (field_of bs)) (omega (arith, read_number_low bs))

answer_refused : (q : ℕ) (x : Sizes) (e : Refusal) → q ≤ 13 → answered q x ≡ Err e → (q ≡ number e) × (number e ≡ 0 → ⊥)
answer_refused q x e h f =
    let here : q ≡ number e = sym (number_of_low q x h) ∙ ap (λ a. number_of a) f in
    (here, λ z. answered_err q x f (here ∙ z))

answer_accepted : (q : ℕ) (x y : Sizes) → answered q x ≡ Ok y → (q ≡ 0) × (y.n ≡ x.n) × (y.m ≡ x.m)
answer_accepted q x y e =
    let told = answered_ok q x e in
    (told.0, ap (λ (z : Sizes). z.n) told.1, ap (λ (z : Sizes). z.m) told.1)

pub refused_told : (bs : List ℕ) (e : Refusal) → reading_of bs ≡ Err e → Refuses bs (number e)
unfolding reading_of
refused_told bs e f =
    let told = answer_refused (read_number bs) (sizes_of (field_of bs)) e (omega (arith, read_number_low bs)) f in
    record { number = told.0; some = told.1 }

pub accepted_told : (bs : List ℕ) (sizes : Sizes) → reading_of bs ≡ Ok sizes → Accepts bs sizes.n sizes.m
unfolding reading_of
accepted_told bs sizes e =
    let told = answer_accepted (read_number bs) (sizes_of (field_of bs)) sizes e in
    let right = passes bs told.0 in
    let fit = (sizes_right_P (field_of bs)).0 right.sizes in
    let n-of : sizes.n ≡ n_of (field_of bs) = told.1 in
    let m-of : sizes.m ≡ m_of (field_of bs) = told.2 in
    record {
      number = told.0;
      processes = n-of;
      arcs = m-of;
      some = omega (arith, fit.0);
      few = omega (arith, fit.1);
      arcs_few = omega (arith, fit.2);
      long = omega (arith, right.exact);
      fields = right.fields;
    }
