-- The table of an area once its fields are copied into bytes: what is found of the bytes, said of the area.
--   all_fields           == the test of as many fields as the code counts is that of all
--   copied               == the bytes hold the area's table
--   holds_copied         == the bytes hold a table of these sizes
--   number_copied, right_copied     == checks 4 to 7 of the bytes are those of the table; passed, they say that it meets the layout
--   loaded               == .. and the sets of the bytes are lent with them: what the tests of records and links are lent
-- Assumes nothing.
use Rattle.std.proofs.Common.{ℕ, ◌-◌, Bool, List, ℤ, ◌≡◌, sym, ap, ◌∙◌, subst, arith, length}
use Rattle.base.specs.Sums.{all_to}
use Rattle.tables.specs.Table.{Fields, field_of, n_of, m_of, field_total}
use Rattle.tables.specs.declared.Sizes.{Sizes}
use Rattle.tables.specs.Reading.{fields_number}
use Rattle.tables.specs.Layout.{Right}
use Rattle.tables.specs.LayoutLaws.{fields_number_P}
use Rattle.table_reader.specs.Inner.{HoldsTable}
use Rattle.areas.specs.Area.{field_total_of, fields_in}
use Rattle.region_tests.specs.RegionLaws.{sizes_test_P}
use Rattle.region_tests.specs.Waiting.{Waiting}
use Rattle.region_tests.specs.Loaded.{Loaded}
use Rattle.area_tests.specs.AreaTests.{most_bytes, field_test}
use Rattle.area_tests.specs.Testing.{CopiedTo}
use Rattle.area_tests.proofs.Loading.{copied_fields}
use Rattle.area_tests.proofs.Whole.{Sized, bounds, counted}

module _ {w : List ℤ} {s : Sizes} (sized : Sized w s) {k : ℕ} (e : k ≡ field_total s.n s.m) where
  total : k ≡ field_total_of (fields_in w)
  total = e ∙ counted _ _ sized

  pub all_fields : {r : Bool} → r ≡ all_to k (λ j. field_test w (j - 1)) → r ≡ all_to (field_total_of (fields_in w)) (λ j. field_test w (j - 1))
  all_fields f = f ∙ ap (λ (i : ℕ). all_to i (λ j. field_test w (j - 1))) total

  module _ {bs : List ℕ} (c : CopiedTo w k bs) where
    pub copied : field_of bs ≡ fields_in w
    copied = copied_fields _ _ _ total c

    pub holds_copied : length bs ≡ most_bytes → HoldsTable bs s
    holds_copied long =
        let b = bounds _ _ sized in
        record {
          processes = sized.processes ∙ sym (ap (λ (t : Fields). n_of t) copied);
          arcs = sized.arcs ∙ sym (ap (λ (t : Fields). m_of t) copied);
          few = b.processes;
          long = omega (arith, b.arcs);
        }

    pub number_copied : fields_number (field_of bs) ≡ fields_number (fields_in w)
    number_copied = ap fields_number copied

    pub right_copied : fields_number (field_of bs) ≡ 0 → Right (fields_in w)
    right_copied z = (fields_number_P _ ((sizes_test_P _).0 sized.test).sizes).0 (sym number_copied ∙ z)

    pub loaded : {l : List ℕ} → length bs ≡ most_bytes → fields_number (field_of bs) ≡ 0 → Waiting (field_of bs) l → Loaded w bs l s
    loaded {l} long meets h =
        record {
          sized = sized.test;
          holds = holds_copied long;
          table = copied;
          meets = sym number_copied ∙ meets;
          waiting = subst (λ (t : Fields). Waiting t l) copied h;
        }
