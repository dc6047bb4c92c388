-- The fields of an area's table, copied into bytes one after the other.
--   copied_none      == bytes that are all 0 hold no field yet
--   copied_more      == one field more, low byte first
--   copied_fields    == bytes that hold all the fields are those of the area's table
--   field_test_word, field_test_small   == the test of a field is that of its word; a field that passes has 16 bits
-- Assumes nothing.
use Prim.Native.Nat.{ℕ, ◌+◌, ◌*◌, ◌/◌, ◌%◌, ◌≤◌}
use mathlib.Core.Bool.{true}
use mathlib.Core.List.{List}
use mathlib.Core.Path.{◌≡◌, refl, ◌∙◌, fun_ext}
use native.Mathlib.Omega.{arith}
use borrow.Author.Tests.{lt-ltb, le-ltb, ltb-true, ltb-false}
use lib.Dec.{ltb}
use lib.IntN.{ℤ, pos}
use lib.ListN.{length, get_or, set, length-set}
use lib.Seq.{get_or-set_same, get_or-set_other}
use Rattle.base.specs.Choice.{choose}
use Rattle.base.specs.ChoiceLaws.{tested, same?}
use Rattle.base.specs.Checks.{Tested, passed, failed, Same, same, apart}
use Rattle.tables.specs.Table.{field_of, field_total}
use Rattle.areas.specs.Places.{field_place}
use Rattle.areas.specs.Contained.{cut}
use Rattle.areas.specs.Area.{field_total_of, number_at, fields_in}
use Rattle.areas.specs.RunInLaws.{fields_in_n, fields_in_m}
use Rattle.area_tests.specs.AreaTests.{field_word, field_test}
use Rattle.area_tests.specs.AreaTestsLaws.{field_test_P}
use Rattle.area_tests.specs.Testing.{CopiedTo}

-- ---- the bytes

pub copied_none : (w : List ℤ) (bs : List ℕ) → ((k : ℕ) → get_or bs k 0 ≡ 0) → CopiedTo w 0 bs
unfolding field_of
copied_none w bs h = record { fields = λ j. rw (h (2 * j), h (2 * j + 1), le-ltb j 0 (omega arith)) }

-- whether field i is among the first j + 1, for another field than j
ltb_more : (i j : ℕ) → (i ≡ j → ⊥) → ltb i (j + 1) ≡ ltb i j
ltb_more i j d = at (tested (ltb i j))
  where
    at : Tested (ltb i j) → ltb i (j + 1) ≡ ltb i j
    at (passed e) = rw e (lt-ltb i (j + 1) (omega (arith, ltb-true i j e)))
    at (failed e) = rw e (le-ltb i (j + 1) (omega (arith, ltb-false i j e)))

module _ (bs : List ℕ) (j x : ℕ) (long : 2 * j + 2 ≤ length bs) where
  -- the bytes with x in the place of field j
  abbrev put : List ℕ
  put = set (set bs (2 * j) (x % 256)) (2 * j + 1) (x / 256 % 256)

  put_here : x ≤ 65535 → field_of put j ≡ x
  unfolding field_of
  put_here h =
      let low : get_or put (2 * j) 0 ≡ x % 256 = get_or-set_other (set bs (2 * j) (x % 256)) (2 * j + 1) (2 * j) (x / 256 % 256) 0 (λ e. omega arith)
      ∙ get_or-set_same bs (2 * j) (x % 256) 0 (omega arith) in
      let high : get_or put (2 * j + 1) 0 ≡ x / 256 % 256 = get_or-set_same (set bs (2 * j) (x % 256)) (2 * j + 1) (x / 256 % 256) 0
      (simp length-set (omega arith)) in
      rw (low, high) (omega arith)

  put_other : (i : ℕ) → (i ≡ j → ⊥) → field_of put i ≡ field_of bs i
  unfolding field_of
  put_other i d = rw (byte (2 * i) (λ e. d (omega arith)) (λ e. omega arith), byte (2 * i + 1) (λ e. omega arith) (λ e. d (omega arith)))
    where
      byte : (k : ℕ) → (k ≡ 2 * j → ⊥) → (k ≡ 2 * j + 1 → ⊥) → get_or put k 0 ≡ get_or bs k 0
      byte k p q = get_or-set_other (set bs (2 * j) (x % 256)) (2 * j + 1) k (x / 256 % 256) 0 q ∙ get_or-set_other bs (2 * j) k (x % 256) 0 p

  pub copied_more : (w : List ℤ) → x ≡ number_at w (field_place j) → x ≤ 65535 → CopiedTo w j bs → CopiedTo w (j + 1) put
  copied_more w e h l = record { fields = λ i. at i (same? i j) }
    where
      at : (i : ℕ) → Same i j → field_of put i ≡ choose (ltb i (j + 1)) (number_at w (field_place i)) 0
      at i (same q _) = rw (q, lt-ltb j (j + 1) (omega arith)) (put_here h ∙ e)
      at i (apart q _) = rw (ltb_more i j q) (put_other i q ∙ l.fields i)

pub copied_fields : (w : List ℤ) (bs : List ℕ) (c : ℕ) → c ≡ field_total_of (fields_in w) → CopiedTo w c bs → field_of bs ≡ fields_in w
unfolding fields_in cut
copied_fields w bs c e l =
    let q : c ≡ field_total (number_at w (field_place 0)) (number_at w (field_place 1)) = omega (arith, e, fields_in_n w, fields_in_m w) in
    let m : CopiedTo w (field_total (number_at w (field_place 0)) (number_at w (field_place 1))) bs = rw q at l in
    fun_ext m.fields

-- ---- the test of a field

pub field_test_word : (w : List ℤ) (j : ℕ) → field_word (get_or w (field_place j) (pos 0)) ≡ field_test w j
unfolding field_test
field_test_word w j = refl

pub field_test_small : (w : List ℤ) (j x : ℕ) → x ≡ number_at w (field_place j) → field_test w j ≡ true → x ≤ 65535
field_test_small w j x e h = omega (arith, e, ((field_test_P w j).0 h).1)
