-- `area_tests::testing::sizes_of` meets its contract: each way out says that a part of the test fails, or that all hold.
use Rattle.std.proofs.Common.{ℕ, ◌^◌, ◌<◌, ◌≡◌, sym, ◌∙◌, arith, List, ℤ, pos, nat_abs, get_or, w32, to_z, of_z, Err}
use lib.Signed.{mag}
use Rattle.refusals.specs.Numbers.{numbered}
use Rattle.tables.specs.Table.{n_of, m_of}
use Rattle.tables.specs.TableLaws.{sizes_fit_P}
use Rattle.areas.specs.Places.{field_place}
use Rattle.areas.specs.Area.{number_at, fields_in}
use Rattle.areas.specs.RunInLaws.{fields_in_n, fields_in_m}
use Rattle.region_tests.specs.RegionTests.{sizes_test}
use Rattle.region_tests.specs.RegionFacts.{SizesFacts}
use Rattle.region_tests.specs.RegionLaws.{sizes_test_P}
use Rattle.areas.proofs.Signs.{word_read}
use Rattle.region_tests.proofs.Ways.{tells_no, failing}
use Rattle.area_tests.specs.Testing.{sizes_of}
use Rattle.area_tests.proofs.testing.sizes_of.Goals as goal
use Rattle.area_tests.proofs.testing.sizes_of.Goals.{then-not-fit-via-then-not-fit, then-not-fit-via-else-not-fit+then-area-area_length}

-- what was read of the two sizes
read : (w : List ℤ) (k : ℕ) {x : ℕ} → mag (get_or w (field_place k) (pos 0)) < 2 ^ 31
    → x ≡ nat_abs (to_z w32 (of_z w32 (get_or w (field_place k) (pos 0)))) → x ≡ number_at w (field_place k)
read w k h e = word_read nat_abs (get_or w (field_place k) (pos 0)) h e

refused : (w : List ℤ) → (SizesFacts w → ⊥) → Err (numbered 21) ≡ sizes_of (sizes_test w) w
refused w never = rw (tells_no (sizes_test_P w) never)

pub returns-then-area-lt-SIZES_END : goal.returns-then-area-lt-SIZES_END
returns-then-area-lt-SIZES_END c = refused c.args.area.now (λ s. omega (arith, s.long))

pub returns-then-not-fit : goal.returns-then-not-fit
returns-then-not-fit c =
    let w = c.args.area.now in
    let n : c.unsigned_abs.result ≡ number_at w (field_place 0) = read w 0 (omega arith) c.unsigned_abs.ensures.value in
    let m : c.unsigned_abs-2.result ≡ number_at w (field_place 1) = read w 1 (omega arith) c.unsigned_abs-2.ensures.value in
    refused w (λ s. elim c.then-not-fit.branch [
      | then-not-fit-via-then-not-fit o ↦ failing c.fit.ensures o.if-not-fit.true
          ((sizes_fit_P c.unsigned_abs.result c.unsigned_abs-2.result).1 (omega (arith, s.sizes, fields_in_n w, fields_in_m w)))
      | then-not-fit-via-else-not-fit+then-area-area_length o ↦
          omega (arith, s.enough, o.if-area-area_length.true, o.area_length.ensures, fields_in_n w, fields_in_m w)
    ])

pub returns : goal.returns
returns c =
    let w = c.args.area.now in
    let p : c.unsigned_abs.result ≡ number_at w (field_place 0) = read w 0 (omega arith) c.unsigned_abs.ensures.value in
    let q : c.unsigned_abs-2.result ≡ number_at w (field_place 1) = read w 1 (omega arith) c.unsigned_abs-2.ensures.value in
    let n : n_of (fields_in w) ≡ number_at w (field_place 0) = fields_in_n w in
    let m : m_of (fields_in w) ≡ number_at w (field_place 1) = fields_in_m w in
    let l = c.area_length.ensures in
    let i = (sizes_fit_P c.unsigned_abs.result c.unsigned_abs-2.result).0 (sym c.fit.ensures ∙ c.if-not-fit.false) in
    rw ((sizes_test_P w).1 (record { long = omega arith; sizes = (omega arith, omega arith, omega arith); enough = omega arith }), p, q)
