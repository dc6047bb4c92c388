-- `area_tests::testing::test` meets its contract: each way out fails a part of the test, and the last passes all. From the loading on the bytes hold the
-- area's table, from the filling on the sets hold who waits for whom.
use Rattle.std.proofs.Common.{ℕ, sym, ap, ◌∙◌, subst, arith}
use Rattle.std.proofs.lemmas.Result.{err_from_is_err_and}
use Rattle.base.specs.CountLaws.{replicate_zero}
use Rattle.base.specs.Sums.{all_to}
use Rattle.tables.specs.Layout.{Right}
use Rattle.sets.specs.Sets.{sets_size}
use Rattle.area_tests.specs.AreaTests.{most_bytes}
use Rattle.region_tests.specs.RegionTests.{record_test, arc_test}
use Rattle.region_tests.specs.RegionLaws.{sizes_test_P}
use Rattle.region_tests.proofs.Ways.{failing}
use Rattle.area_tests.proofs.Whole.{sized_of, sized_not, bounds, accepted, wrong, unanswered, answered_zero}
use Rattle.area_tests.proofs.Copied.{all_fields, copied, holds_copied, number_copied, right_copied, loaded}
use Rattle.area_tests.proofs.testing.test.Goals as goal
use Rattle.area_tests.proofs.testing.test.Goals.{then-not-are_records-via-then-not-are_records, then-not-are_records-via-else-not-are_records+then-not-are_arcs}

pub returns-in_err-sizes : goal.returns-in_err-sizes
returns-in_err-sizes c =
    let p = err_from_is_err_and c.from_residual.result c.from_residual.ensures.1 in
    rw (p.1, p.2) (sized_not c.args.area.now c.sizes_of.ensures c.in_err-sizes.was)

-- ---- the fields
pub field_total-requires : goal.field_total-requires
field_total-requires c =
    let s = sized_of c.args.area.now c.in_ok-sizes.sizes c.sizes_of.ensures c.in_ok-sizes.was in
    let b = bounds _ _ s in (b.processes, b.arcs)

pub fields_to_bytes-requires-clause-inside : goal.fields_to_bytes-requires-clause-inside
fields_to_bytes-requires-clause-inside c =
    let s = sized_of c.args.area.now c.in_ok-sizes.sizes c.sizes_of.ensures c.in_ok-sizes.was in
    let b = bounds _ _ s in
    let f = c.field_total.ensures in omega arith

pub fields_to_bytes-requires-clause-few : goal.fields_to_bytes-requires-clause-few
fields_to_bytes-requires-clause-few c =
    let s = sized_of c.args.area.now c.in_ok-sizes.sizes c.sizes_of.ensures c.in_ok-sizes.was in
    let b = bounds _ _ s in
    let f = c.field_total.ensures in omega arith

pub fields_to_bytes-requires-clause-zeros : goal.fields_to_bytes-requires-clause-zeros
fields_to_bytes-requires-clause-zeros c = λ k. replicate_zero most_bytes k

pub returns-then-not-fields_to_bytes : goal.returns-then-not-fields_to_bytes
returns-then-not-fields_to_bytes c =
    let s = sized_of c.args.area.now c.in_ok-sizes.sizes c.sizes_of.ensures c.in_ok-sizes.was in
    wrong c.args.area.now (λ a. failing (all_fields s c.field_total.ensures c.fields_to_bytes.ensures.tested) c.if-not-fields_to_bytes.true a.fields)

-- ---- the table
pub check_fields-requires : goal.check_fields-requires
check_fields-requires c =
    let s = sized_of c.args.area.now c.in_ok-sizes.sizes c.sizes_of.ensures c.in_ok-sizes.was in
    holds_copied s c.field_total.ensures (c.fields_to_bytes.ensures.copied c.if-not-fields_to_bytes.false) c.fields_to_bytes.ensures.kept_length

pub returns-then-is_err : goal.returns-then-is_err
returns-then-is_err c =
    let s = sized_of c.args.area.now c.in_ok-sizes.sizes c.sizes_of.ensures c.in_ok-sizes.was in
    let bytes = c.fields_to_bytes.ensures.copied c.if-not-fields_to_bytes.false in
    wrong c.args.area.now
    (λ a. unanswered c.check_fields.ensures (sym c.is_err.ensures.value ∙ c.if-is_err.true) (number_copied s c.field_total.ensures bytes ∙ a.table))

-- ---- the head
pub is_head-requires-clause-long : goal.is_head-requires-clause-long
is_head-requires-clause-long c =
    let s = sized_of c.args.area.now c.in_ok-sizes.sizes c.sizes_of.ensures c.in_ok-sizes.was in
    ((sizes_test_P _).0 s.test).long

pub returns-then-not-is_head : goal.returns-then-not-is_head
returns-then-not-is_head c = wrong c.args.area.now (λ a. failing c.is_head.ensures c.if-not-is_head.true a.head)

-- ---- the sets
pub fill-requires-clause-holds : goal.fill-requires-clause-holds
fill-requires-clause-holds c =
    let s = sized_of c.args.area.now c.in_ok-sizes.sizes c.sizes_of.ensures c.in_ok-sizes.was in
    holds_copied s c.field_total.ensures (c.fields_to_bytes.ensures.copied c.if-not-fields_to_bytes.false) c.fields_to_bytes.ensures.kept_length

pub fill-requires-clause-right : goal.fill-requires-clause-right
fill-requires-clause-right c =
    let s = sized_of c.args.area.now c.in_ok-sizes.sizes c.sizes_of.ensures c.in_ok-sizes.was in
    let bytes = c.fields_to_bytes.ensures.copied c.if-not-fields_to_bytes.false in
    subst Right (sym (copied s c.field_total.ensures bytes))
    (right_copied s c.field_total.ensures bytes (answered_zero c.check_fields.ensures (sym c.is_err.ensures.value ∙ c.if-is_err.false)))

pub fill-requires-clause-zeros : goal.fill-requires-clause-zeros
fill-requires-clause-zeros c = λ k. replicate_zero sets_size k

-- ---- the records and the links
pub invariant_of-region : goal.invariant_of-region
invariant_of-region c =
    let s = sized_of c.args.area.now c.in_ok-sizes.sizes c.sizes_of.ensures c.in_ok-sizes.was in
    record {
      loaded =
          loaded s c.field_total.ensures (c.fields_to_bytes.ensures.copied c.if-not-fields_to_bytes.false) c.fields_to_bytes.ensures.kept_length
          (answered_zero c.check_fields.ensures (sym c.is_err.ensures.value ∙ c.if-is_err.false)) c.fill.ensures;
    }

pub returns-then-not-are_records : goal.returns-then-not-are_records
returns-then-not-are_records c =
    let s = sized_of c.args.area.now c.in_ok-sizes.sizes c.sizes_of.ensures c.in_ok-sizes.was in
    let records = c.are_records.ensures ∙ ap (λ (k : ℕ). all_to k (record_test c.args.area.now)) s.processes in
    wrong c.args.area.now (λ a. elim c.then-not-are_records.branch [
      | then-not-are_records-via-then-not-are_records o ↦ failing records o.if-not-are_records.true a.records
      | then-not-are_records-via-else-not-are_records+then-not-are_arcs o ↦
          failing (o.are_arcs.ensures ∙ ap (λ (k : ℕ). all_to k (arc_test c.args.area.now)) s.arcs) o.if-not-are_arcs.true a.arcs
    ])

pub returns : goal.returns
returns c =
    let s = sized_of c.args.area.now c.in_ok-sizes.sizes c.sizes_of.ensures c.in_ok-sizes.was in
    let bytes = c.fields_to_bytes.ensures.copied c.if-not-fields_to_bytes.false in
    let records = c.are_records.ensures ∙ ap (λ (k : ℕ). all_to k (record_test c.args.area.now)) s.processes in
    let arcs = c.are_arcs.ensures ∙ ap (λ (k : ℕ). all_to k (arc_test c.args.area.now)) s.arcs in
    accepted _ _ s (record {
      sizes = s.test;
      fields = sym (all_fields s c.field_total.ensures c.fields_to_bytes.ensures.tested) ∙ c.if-not-fields_to_bytes.false;
      table =
          sym (number_copied s c.field_total.ensures bytes) ∙
          answered_zero c.check_fields.ensures (sym c.is_err.ensures.value ∙ c.if-is_err.false);
      head = sym c.is_head.ensures ∙ c.if-not-is_head.false;
      records = sym records ∙ c.if-not-are_records.false;
      arcs = sym arcs ∙ c.if-not-are_arcs.false;
    })
