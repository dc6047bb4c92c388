-- The whole test of an area, by the ways that the code goes.
--   AreaParts, area_tests_parts   == the parts of the test that the code makes
--   unanswered, answered_zero   == an answer made of a number is a refusal exactly if the number is not 0
--   Sized w s                 == the sizes passed, and s are N and M of the area
--   sized_of, sized_not       == what the answer of the sizes says
--   bounds                    == how large they are, and that there are words enough
--   counted                   == as many fields as the code counts
--   wrong                     == a way out that fails a part of the test
--   accepted                  == the way out that passes all parts
-- Assumes nothing.
use Prim.Native.Nat.{ℕ, zero, suc, ◌-◌, ◌≤◌}
use Rattle.std.specs.Prelude.{Result, Ok, Err}
use mathlib.Core.Bool.{Bool, true, false, false≢true}
use mathlib.Core.List.{List}
use mathlib.Core.Path.{◌≡◌, refl, sym, ap, ◌∙◌}
use native.Mathlib.Omega.{arith}
use lib.IntN.{ℤ}
use lib.ListN.{length}
use Rattle.tables.specs.Table.{n_of, m_of, most_processes, most_arcs, field_total}
use Rattle.refusals.specs.declared.Refusal.{Refusal}
use Rattle.refusals.specs.Numbers.{numbered, answered}
use Rattle.std.specs.Result.{is_err}
use Rattle.tables.specs.declared.Sizes.{Sizes}
use Rattle.areas.specs.Places.{field_place, area_length}
use Rattle.areas.specs.Area.{field_total_of, number_at, fields_in, area_right}
use Rattle.areas.specs.RunInLaws.{fields_in_n, fields_in_m}
use Rattle.area_tests.specs.AreaTests.{field_test, area_tests}
use Rattle.region_tests.specs.RegionTests.{sizes_test, head_test, record_test, arc_test}
use Rattle.area_tests.specs.Testing.{sizes_of}
use Rattle.area_tests.specs.AreaTestsLaws.{area_tests_P}
use Rattle.region_tests.specs.RegionLaws.{sizes_test_P}
use Rattle.region_tests.proofs.Ways.{tells_no}
use Rattle.base.specs.Sums.{all_to}
use Rattle.tables.specs.Reading.{fields_number}
use Rattle.areas.specs.Tells.{Tells}
use Rattle.areas.specs.TellsLaws.{tells_map, tells_eq, tells_id, tells_both}

-- ---- the parts

pub record AreaParts (w : List ℤ) : Type 0 where
  pub sizes : sizes_test w ≡ true
  pub fields : all_to (field_total_of (fields_in w)) (λ j. field_test w (j - 1)) ≡ true
  pub table : fields_number (fields_in w) ≡ 0
  pub head : head_test w ≡ true
  pub records : all_to (n_of (fields_in w)) (record_test w) ≡ true
  pub arcs : all_to (m_of (fields_in w)) (arc_test w) ≡ true

pub area_tests_parts : (w : List ℤ) → Tells (area_tests w) (AreaParts w)
unfolding area_tests
area_tests_parts w =
    tells_map (λ s. record { sizes = s.0.0.0.0.0; fields = s.0.0.0.0.1; table = s.0.0.0.1; head = s.0.0.1; records = s.0.1; arcs = s.1 })
    (λ s. (((((s.sizes, s.fields), s.table), s.head), s.records), s.arcs))
    (tells_both
    (tells_both
    (tells_both
    (tells_both (tells_both (tells_id (sizes_test w)) (tells_id (all_to (field_total_of (fields_in w)) (λ j. field_test w (j - 1)))))
    (tells_eq (fields_number (fields_in w)) 0))
    (tells_id (head_test w)))
    (tells_id (all_to (n_of (fields_in w)) (record_test w))))
    (tells_id (all_to (m_of (fields_in w)) (arc_test w))))

-- ---- the answer of a check

-- an answer made of a number is a refusal exactly if the number is not 0
pub unanswered : {k : ℕ} {r : Result (Unit {0}) Refusal} → r ≡ answered k tt → is_err r ≡ true → k ≡ 0 → ⊥
unanswered e h z = false≢true (rw (e, z) at h)

pub answered_zero : {k : ℕ} {r : Result (Unit {0}) Refusal} → r ≡ answered k tt → is_err r ≡ false → k ≡ 0
answered_zero {k = zero} e h = refl
answered_zero {k = suc k} e h = absurd (false≢true (sym h ∙ rw e refl))

-- ---- the ways

pub record Sized (w : List ℤ) (s : Sizes) : Type 0 where
  pub test : sizes_test w ≡ true
  pub processes : s.n ≡ n_of (fields_in w)
  pub arcs : s.m ≡ m_of (fields_in w)

pub wrong : (w : List ℤ) → (AreaParts w → ⊥) → Err (numbered 21) ≡ sizes_of (area_right w) w
wrong w never = rw (sym (area_tests_P w) ∙ tells_no (area_tests_parts w) never)

pub sized_of : (w : List ℤ) (s : Sizes) {r : Result Sizes Refusal} → r ≡ sizes_of (sizes_test w) w → r ≡ Ok s → Sized w s
sized_of w s e q = at (sizes_test w) refl (sym e ∙ q)
  where
    at : (b : Bool) → sizes_test w ≡ b → sizes_of b w ≡ Ok s → Sized w s
    at true t h =
        let is : record { n = number_at w (field_place 0); m = number_at w (field_place 1) } ≡ s = cc in
        record {
          test = t;
          processes = sym (ap (λ (t : Sizes). t.n) is) ∙ sym (fields_in_n w);
          arcs = sym (ap (λ (t : Sizes). t.m) is) ∙ sym (fields_in_m w);
        }
    at false t h = let never : ◌≡◌ {A = ℕ} 0 1 = cc in absurd (omega arith)

-- the refusal that the sizes gave is that of the whole test
pub sized_not : (w : List ℤ) {r : Result Sizes Refusal} {e : Refusal} → r ≡ sizes_of (sizes_test w) w → r ≡ Err e → Err e ≡ sizes_of (area_right w) w
sized_not w {e = e} f q = at (sizes_test w) refl (sym f ∙ q)
  where
    at : (b : Bool) → sizes_test w ≡ b → sizes_of b w ≡ Err e → Err e ≡ sizes_of (area_right w) w
    at true t h = let never : ◌≡◌ {A = ℕ} 0 1 = cc in absurd (omega arith)
    at false t h = sym h ∙ wrong w (λ p. false≢true (sym t ∙ p.sizes))

module _ (w : List ℤ) (s : Sizes) (sized : Sized w s) where
  -- N and M are in range, and there are words enough
  pub record Bounds : Type 0 where
    pub processes : s.n ≤ most_processes
    pub arcs : s.m ≤ most_arcs
    pub words : area_length s.n s.m ≤ length w

  pub bounds : Bounds
  bounds =
      let f = (sizes_test_P w).0 sized.test in
      record {
        processes = omega (arith, f.sizes.1, sized.processes);
        arcs = omega (arith, f.sizes.2, sized.arcs);
        words = omega (arith, f.enough, sized.processes, sized.arcs);
      }

  pub counted : field_total s.n s.m ≡ field_total_of (fields_in w)
  counted = omega (arith, sized.processes, sized.arcs)

  pub accepted : AreaParts w → Ok s ≡ sizes_of (area_right w) w
  accepted p = rw (sym (area_tests_P w) ∙ (area_tests_parts w).1 p, sized.processes ∙ fields_in_n w, sized.arcs ∙ fields_in_m w)
