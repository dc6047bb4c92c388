-- `region_tests::Region::is_record` meets its contract: each way out fails a part of the test, and the last passes all but the zeros.
use Rattle.std.proofs.Common.{ℕ, ◌+◌, ◌≤◌, Bool, true, List, ℤ, ◌≡◌, refl, sym, ◌∙◌, arith, length}
use mathlib.Core.Bool.{false≢true}
use Rattle.tables.specs.Table.{n_of, m_of}
use Rattle.tables.specs.Waits.{waits_of}
use Rattle.steps.specs.declared.Process.{Process}
use Rattle.checks.specs.Run.{father_right}
use Rattle.areas.specs.Places.{record_size, record_start}
use Rattle.areas.specs.Area.{record_place, fields_in, record_at}
use Rattle.areas.specs.Tells.{Tells}
use Rattle.region_tests.specs.RegionTests.{sizes_test, numbers_test, record_test}
use Rattle.region_tests.specs.RegionLaws.{sizes_test_P}
use Rattle.region_tests.proofs.Ways.{tells_no, tells_last, failing, father_right_none, father_right_over, father_right_joined, RecordParts, record_test_parts}
use Rattle.region_tests.proofs.Ways.{NumberParts, numbers_test_parts, numbers_counted}
use Rattle.region_tests.proofs.Ways.{sizes_are, right_is, sizes_fit}
use Rattle.region_tests.proofs.Region.is_record.Goals as goal
use Rattle.region_tests.proofs.Region.is_record.Goals.{then-father-ne0+else-father-self+else-not-joined, else-father-ne0}

-- the record of p begins at word k
module _ (w : List ℤ) {n m : ℕ} (p : ℕ) {k : ℕ} (e : (n ≡ n_of (fields_in w)) × (m ≡ m_of (fields_in w))) (f : k ≡ record_start n m p) where
  within : sizes_test w ≡ true → (1 ≤ p) × (p ≤ n) → k + record_size ≤ length w
  within s r = omega (arith, f, ((sizes_test_P w).0 s).enough)

  parts : {x : Process} → x ≡ record_at w k → Tells (record_test w p) (RecordParts w p k x)
  unfolding record_place
  parts {x} g = record_test_parts w p k x (rw (f, e.0, e.1)) g

-- the words that has_numbers passed
numbers : {w : List ℤ} {k : ℕ} {b : Bool} → b ≡ numbers_test w k → b ≡ true → NumberParts w k
numbers {w} {k} e h = (numbers_test_parts w k).0 (sym e ∙ h)

pub record_start-k-requires-clause-sizes_right : goal.record_start-k-requires-clause-sizes_right
record_start-k-requires-clause-sizes_right c = sizes_fit c.args.self.loaded

pub has_numbers-requires : goal.has_numbers-requires
has_numbers-requires c = omega (arith, within _ _ (sizes_are c.args.self.loaded) c.record_start-k.ensures c.args.self.loaded.sized c.requires)

pub returns-then-not-has_numbers : goal.returns-then-not-has_numbers
returns-then-not-has_numbers c =
    sym
    (tells_no (parts _ _ (sizes_are c.args.self.loaded) c.record_start-k.ensures refl)
    (λ s. failing c.has_numbers.ensures c.if-not-has_numbers.true
    ((numbers_test_parts _ _).1 (record { flags = s.flags; bits = s.bits; num_word = s.num_word; father_word = s.father_word }))))

pub record_at-x-requires-clause-record_used_in_bounds : goal.record_at-x-requires-clause-record_used_in_bounds
record_at-x-requires-clause-record_used_in_bounds c = omega (arith, within _ _ (sizes_are c.args.self.loaded) c.record_start-k.ensures c.args.self.loaded.sized c.requires)

pub record_at-x-requires-clause-counted : goal.record_at-x-requires-clause-counted
record_at-x-requires-clause-counted c = numbers_counted _ _ (numbers c.has_numbers.ensures c.if-not-has_numbers.false)

pub returns-then-not-is_in_range : goal.returns-then-not-is_in_range
returns-then-not-is_in_range c =
    sym (tells_no (parts _ _ (sizes_are c.args.self.loaded) c.record_start-k.ensures c.record_at-x.ensures)
    (λ s. failing c.is_in_range.ensures c.if-not-is_in_range.true s.values))

pub returns-then-father-self : goal.returns-then-father-self
returns-then-father-self c =
    let over = father_right_over _ _ (right_is c.args.self.loaded) c.args.self.loaded.waiting c.args.p c.record_at-x.result (omega (arith, c.if-father-self.true, (sizes_are c.args.self.loaded).0)) in
    sym (tells_no (parts _ _ (sizes_are c.args.self.loaded) c.record_start-k.ensures c.record_at-x.ensures)
    (λ s. false≢true (sym over ∙ s.father)))

pub returns-then-not-joined : goal.returns-then-not-joined
returns-then-not-joined c =
    let n = (right_is c.args.self.loaded).sizes.1 in
    let by_sets = father_right_joined _ _ (right_is c.args.self.loaded) c.args.self.loaded.waiting c.args.p c.record_at-x.result c.if-father-ne0.true
    (omega (arith, c.requires)) (omega (arith, c.if-father-ne0.true, c.if-father-self.false)) c.joined.ensures in
    sym (tells_no (parts _ _ (sizes_are c.args.self.loaded) c.record_start-k.ensures c.record_at-x.ensures)
    (λ s. failing by_sets c.if-not-joined.true s.father))

pub is_free-requires : goal.is_free-requires
is_free-requires c = omega (arith, within _ _ (sizes_are c.args.self.loaded) c.record_start-k.ensures c.args.self.loaded.sized c.requires)

pub returns : goal.returns
returns c =
    let n = (right_is c.args.self.loaded).sizes.1 in
    let father : father_right (waits_of (fields_in c.args.self.words.now)) c.args.p c.record_at-x.result ≡ true = elim c.if-father-ne0.branch [
      | then-father-ne0+else-father-self+else-not-joined w ↦ sym (father_right_joined _ _ (right_is c.args.self.loaded) c.args.self.loaded.waiting c.args.p c.record_at-x.result
          w.if-father-ne0.true (omega (arith, c.requires)) (omega (arith, w.if-father-ne0.true, w.if-father-self.false, (sizes_are c.args.self.loaded).0, n)) w.joined.ensures)
          ∙ w.if-not-joined.false
      | else-father-ne0 w ↦ father_right_none _ _ (right_is c.args.self.loaded) c.args.self.loaded.waiting c.args.p c.record_at-x.result w.if-father-ne0.false
    ] in
    let h = numbers c.has_numbers.ensures c.if-not-has_numbers.false in
    tells_last (parts _ _ (sizes_are c.args.self.loaded) c.record_start-k.ensures c.record_at-x.ensures)
    (λ e. record {
      values = sym c.is_in_range.ensures ∙ c.if-not-is_in_range.false;
      father = father;
      flags = h.flags;
      bits = h.bits;
      num_word = h.num_word;
      father_word = h.father_word;
      free = sym c.is_free.ensures ∙ e;
    }) (λ s. c.is_free.ensures ∙ s.free)
