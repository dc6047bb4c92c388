-- `area_tests::testing::fields_to_bytes` meets its contract. The loop's invariant: `right` says whether the fields passed are numbers of 16 bits, and
-- if they are, the bytes hold them. The measure is what is left.
use Rattle.std.proofs.Common.{ℕ, ◌+◌, ◌-◌, ◌^◌, ◌<◌, Bool, ◌&&◌, List, ◌≡◌, sym, ◌∙◌, arith, ℤ, pos, nat_abs, get_or, length-set, w32, to_z, of_z}
use lib.Signed.{mag}
use Rattle.base.specs.ChoiceLaws.{and_left, and_right}
use Rattle.base.specs.Sums.{all_to}
use Rattle.base.specs.PrefixLaws.{all_to_none, all_to_also}
use Rattle.areas.specs.Places.{field_place}
use Rattle.areas.specs.Area.{number_at}
use Rattle.area_tests.specs.AreaTests.{field_word, field_test}
use Rattle.areas.proofs.Signs.{word_read}
use Rattle.area_tests.proofs.Loading.{copied_none, copied_more, field_test_word, field_test_small}
use Rattle.area_tests.proofs.testing.fields_to_bytes.Invariants.{field}
use Rattle.area_tests.proofs.testing.fields_to_bytes.Goals as goal

-- what was read of field j
module _ {r : ℕ} (w : List ℤ) (j : ℕ) (e : r ≡ field_place j) (h : mag (get_or w r (pos 0)) < 2 ^ 31) where
  tests : {b : Bool} → b ≡ field_word (to_z w32 (of_z w32 (get_or w r (pos 0)))) → b ≡ field_test w j
  tests q = (rw e at (word_read field_word (get_or w r (pos 0)) h q)) ∙ field_test_word w j

  size : {x : ℕ} → x ≡ nat_abs (to_z w32 (of_z w32 (get_or w r (pos 0)))) → x ≡ number_at w (field_place j)
  size q = rw e at (word_read nat_abs (get_or w r (pos 0)) h q)

-- one field more
more : (w : List ℤ) (j : ℕ) {b r : Bool} → b ≡ all_to j (field w) → r ≡ field_test w j → (b && r) ≡ all_to (j + 1) (field w)
more w j e h =
    let q : j + 1 - 1 ≡ j = omega arith in
    rw (all_to_also j (field w), q, e, h)

pub loop-j-init : goal.loop-j-init
loop-j-init c = (
  omega arith,
  c.requires.long,
  sym (all_to_none (field c.args.area.now)),
  λ e. copied_none c.args.area.now c.args.table.now c.requires.zeros,
)

pub loop-j-preserved : goal.loop-j-preserved
loop-j-preserved c =
    let w = c.args.area.now in
    let loop = c.loop-j in
    let j = loop.j in
    let is = c.field_place.ensures in
    let test = tests w j is (omega arith) c.is_field-right.ensures in
    let number = size w j is (omega arith) c.unsigned_abs-x.ensures.value in (
      omega arith,
      simp length-set loop.invariant.1,
      more w j loop.invariant.2 test,
      λ e. copied_more loop.table j c.unsigned_abs-x.result (omega arith) w number
          (field_test_small w j c.unsigned_abs-x.result number (sym test ∙ and_right loop.right c.is_field-right.result e))
          (loop.invariant.3 (and_left loop.right c.is_field-right.result e)),
    )
