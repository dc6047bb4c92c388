-- The test of an area region by region is the readable definition of a well-formed area.
--   field_test_P       == a field is a number of 16 bits
--   area_tests_P       == the tests region by region say what `area_right` says, so they are the same
-- Assumes nothing.
use Rattle.std.specs.Prelude.{ℕ, ◌≤◌, ◌<◌, true, List, [], ◌≡◌, refl, get_or, ℤ, pos}
use Rattle.std.proofs.Common.{sym, ap, ◌∙◌, arith}
use Rattle.machine.specs.Machine as Machines
use Rattle.base.specs.ChoiceLaws.{tested}
use Rattle.base.specs.Checks.{Tested, passed, failed}
use Rattle.tables.specs.Table.{Fields, n_of, m_of, IsProcess, arc_at}
use Rattle.tables.specs.Layout.{IsArc, Right}
use Rattle.tables.specs.LayoutLaws.{fields_number_P}
use Rattle.tables.specs.Reading.{fields_number}
use Rattle.tables.specs.Waits.{waits_of, neighbours}
use Rattle.machine.specs.Formed.{Formed}
use Rattle.machine.specs.FormedLaws.{well_formed_P, link_right_P}
use Rattle.checks.specs.Run.{knot, link_right}
use Rattle.areas.specs.Places.{field_place}
use Rattle.areas.specs.Area.{field_total_of, number_at, fields_in, run_in, area_right}
use Rattle.areas.specs.Arcs.{LinkAt, forth, back}
use Rattle.areas.specs.AreaFacts.{AreaRight}
use Rattle.areas.specs.Tells.{Tells}
use Rattle.areas.specs.TellsLaws.{tells_map, tells_le, tells_eq, tells_id, tells_both, tells_all, tells_below, tells_same}
use Rattle.areas.specs.ArcLaws.{link_of_at}
use Rattle.areas.specs.WordTestLaws.{counts_as}
use Rattle.areas.specs.ContainedLaws.{contained_joined}
use Rattle.areas.specs.RunInLaws.{fields_in_at, run_in_n, run_in_contained}
use Rattle.areas.specs.AreaLaws.{area_right_P}
use Rattle.area_tests.specs.AreaTests.{field_test, area_tests}
use Rattle.region_tests.specs.RegionTests.{record_test, arc_test}
use Rattle.region_tests.specs.RegionFacts.{SizesFacts, HeadRight, RecordRight, ArcRight, Placed}
use Rattle.region_tests.specs.RegionLaws.{sizes_test_P, head_test_P, record_test_P, arc_test_P, placed_P}
use Rattle.word_tests.specs.LinkTestLaws.{tells_counts}

pub field_test_P : (w : List ℤ) (j : ℕ)
    → Tells (field_test w j) ((get_or w (field_place j) (pos 0) ≡ pos (number_at w (field_place j))) × (number_at w (field_place j) ≤ 65535))
unfolding field_test
field_test_P w j = tells_both (tells_counts w (field_place j)) (tells_le (number_at w (field_place j)) 65535)

link_right_empty : link_right [] ≡ true
unfolding Machines.link_right Machines.all_right
link_right_empty = refl

-- every link between processes holds right messages if those of the arcs do
links_right : (w : List ℤ) → ((k : ℕ) → IsArc (fields_in w) k → ArcRight w k) → (a b : ℕ) → link_right ((run_in w).link a b) ≡ true
links_right w arcs a b = at (tested (neighbours (waits_of (fields_in w)) a b))
  where
    joined : LinkAt (fields_in w) a b → link_right ((run_in w).link a b) ≡ true
    joined (forth k j e) = rw (j.1, j.2) at (arcs k j.0).forth
    joined (back k j h e) = rw (j.1, j.2) at ((arcs k j.0).back h)

    at : Tested (neighbours (waits_of (fields_in w)) a b) → link_right ((run_in w).link a b) ≡ true
    at (passed h) = joined (link_of_at (fields_in w) a b h)
    at (failed h) = rw ((run_in_contained w).links a b h) link_right_empty

area_tests_right : (w : List ℤ) → Tells (area_tests w) (AreaRight w)
unfolding area_tests
area_tests_right w =
    tells_map to from
    (tells_both
    (tells_both
    (tells_both (tells_both (tells_both (sizes_test_P w) (tells_below (field_total_of t) (field_test w) FieldFacts (field_test_P w))) (tells_eq (fields_number t) 0))
    (head_test_P w))
    (tells_all (n_of t) (record_test w) (RecordRight w) (λ p l u. record_test_P w p (l, u))))
    (tells_all (m_of t) (arc_test w) (λ k. arc_test w k ≡ true) (λ k l u. tells_id (arc_test w k))))
  where
    t : Fields
    t = fields_in w

    FieldFacts : ℕ → Type 0
    FieldFacts j = (get_or w (field_place j) (pos 0) ≡ pos (number_at w (field_place j))) × (number_at w (field_place j) ≤ 65535)

    Said : Type 0
    Said =
        ((((SizesFacts w × ((j : ℕ) → j < field_total_of t → FieldFacts j)) × (fields_number t ≡ 0)) × HeadRight w) × ((p : ℕ) → IsProcess (n_of t) p
        → RecordRight w p)) × ((k : ℕ) → IsArc t k → arc_test w k ≡ true)

    rightly : Said → Right t
    rightly s = (fields_number_P t s.0.0.0.0.0.sizes).0 s.0.0.0.1

    arcs : Said → (k : ℕ) → IsArc t k → ArcRight w k
    arcs s k r = (arc_test_P w (rightly s) k r).0 (s.1 k r)

    to : Said → AreaRight w
    to s =
        record {
          long = s.0.0.0.0.0.enough;
          fields = λ j u. omega (arith, fields_in_at w j u, (s.0.0.0.0.1 j u).1);
          right = rightly s;
          run =
              (well_formed_P knot (run_in w)).1
              (record {
                room = refl;
                start_is_in = rw (run_in_n w) s.0.0.1.start_is_in;
                edition = s.0.0.1.edition;
                count = s.0.0.1.few;
                records = λ p i. (s.0.1 p (i.0, omega (arith, run_in_n w))).values;
                short = λ a b _ _. ((link_right_P knot ((run_in w).link a b)).0 (links_right w (arcs s) a b)).0;
                joined = λ a b _ _. contained_joined (fields_in w) (run_in w) (run_in_contained w) a b;
                messages = λ a b _ _. ((link_right_P knot ((run_in w).link a b)).0 (links_right w (arcs s) a b)).1;
              });
          words =
              (placed_P w t (run_in w)).1
              (record {
                head = s.0.0.1.words;
                fields = λ j u. (s.0.0.0.0.1 j u).0 ∙ ap pos (sym (fields_in_at w j u));
                records = λ p r. (s.0.1 p r).words;
                links = λ k r. (arcs s k r).words;
              });
        }

    run : AreaRight w → Formed knot (run_in w)
    run f = (well_formed_P knot (run_in w)).0 f.run

    placed : AreaRight w → Placed w t (run_in w)
    placed f = (placed_P w t (run_in w)).0 f.words

    link :
        AreaRight w → (a b : ℕ) → IsProcess (run_in w).waits.n a → IsProcess (run_in w).waits.n b → link_right ((run_in w).link a b) ≡ true
    link f a b pa pb = (link_right_P knot ((run_in w).link a b)).1 ((run f).short a b pa pb, (run f).messages a b pa pb)

    arc : AreaRight w → (k : ℕ) → IsArc t k → ArcRight w k
    arc f k r =
        let ends = f.right.ends k r in
        let n : (run_in w).waits.n ≡ n_of (fields_in w) = run_in_n w in
        record {
          forth = link f (arc_at t k).from (arc_at t k).to (omega arith) (omega arith);
          back = λ h. link f (arc_at t k).to (arc_at t k).from (omega arith) (omega arith);
          words = (placed f).links k r;
        }

    sized : AreaRight w → SizesFacts w
    sized f = record { long = omega (arith, f.long); sizes = f.right.sizes; enough = f.long }

    field : AreaRight w → (j : ℕ) → j < field_total_of t → FieldFacts j
    field f j u = (counts_as w (field_place j) (t j) ((placed f).fields j u), omega (arith, fields_in_at w j u, f.fields j u))

    head : AreaRight w → HeadRight w
    head f = record { start_is_in = rw (run_in_n w) at (run f).start_is_in; few = (run f).count; edition = (run f).edition; words = (placed f).head }

    one : AreaRight w → (p : ℕ) → IsProcess (n_of t) p → RecordRight w p
    one f p r = record { values = (run f).records p (r.0, omega (arith, run_in_n w)); words = (placed f).records p r }

    from : AreaRight w → Said
    from f =
        (((((sized f, field f), (fields_number_P t f.right.sizes).1 f.right), head f), one f), λ k r. (arc_test_P w f.right k r).1 (arc f k r))

-- the tests in the code's order are the readable definition
pub area_tests_P : (w : List ℤ) → area_tests w ≡ area_right w
area_tests_P w = tells_same (area_tests w) (area_right w) (area_tests_right w) (area_right_P w)
