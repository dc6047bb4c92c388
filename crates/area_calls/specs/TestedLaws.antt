-- What the test of an area says to a call.
--   fresh_long, fresh_empty   == a fresh array has all its numbers, each 0
--   wrong_area, wrong_named   == the test refuses: the area is not well formed, and that is what the refusal says
--   right_area, right_ready   == the test gives N and M: the area is well formed, and ready
--   ready_process             == whether a number is a process of the run
--   none_from, none_to        == who is no process has no link
-- Assumes nothing.
use Rattle.std.specs.Prelude.{ℕ, Bool, true, false, List, ◌≡◌, refl, length, get_or, replicate, ℤ, Result, Ok, Err}
use Rattle.std.proofs.lemmas.Bool.{false≢true}
use Rattle.std.proofs.Common.{sym, ap, ◌∙◌, arith}
use Rattle.std.proofs.lemmas.List.{length-replicate}
use Rattle.tables.specs.TableLaws.{is_process_P}
use Rattle.tables.specs.Table.{is_process}
use Rattle.areas.specs.Places.{field_place}
use Rattle.refusals.specs.declared.Refusal.{Refusal}
use Rattle.refusals.specs.declared.Refusal.TheVariants.{NotWellFormed}
use Rattle.tables.specs.declared.Sizes.{Sizes}
use Rattle.areas.specs.Area.{number_at, run_in, area_right}
use Rattle.areas.specs.RunInLaws.{fields_in_n, fields_in_m}
use Rattle.area_tests.specs.Testing.{sizes_of}
use Rattle.base.specs.CountLaws.{replicate_zero}
use Rattle.lenses.specs.Ready.{Ready}
use Rattle.lenses.specs.ReadyLaws.{right_storable, ready_n}
use Rattle.tables.specs.WaitsLaws.{neighbours_swap, neighbours_ends}
use Rattle.tables.specs.Waits.{neighbours}

pub fresh_long : (n : ℕ) (l : List ℕ) → l ≡ replicate n 0 → length l ≡ n
fresh_long n l e = ap length e ∙ length-replicate n 0

pub fresh_empty : (n : ℕ) (l : List ℕ) → l ≡ replicate n 0 → (k : ℕ) → get_or l k 0 ≡ 0
fresh_empty n l e k = rw e (replicate_zero n k)

-- an area that is not well formed is refused by the test, and one that is gives its N and M
module _ (w : List ℤ) (x : Result Sizes Refusal) (e : x ≡ sizes_of (area_right w) w) where
  module _ {r : Refusal} (f : x ≡ Err r) where
    wrong : (b : Bool) → Err r ≡ sizes_of b w → (b ≡ false) × (r ≡ NotWellFormed)
    wrong false h = (refl, cc)
    wrong true h = let z : ◌≡◌ {A = ℕ} 0 1 = cc in absurd (omega arith)

    pub wrong_area : area_right w ≡ false
    wrong_area = (wrong (area_right w) (sym f ∙ e)).0

    pub wrong_named : r ≡ NotWellFormed
    wrong_named = (wrong (area_right w) (sym f ∙ e)).1

  pub right_ready : (s : Sizes) → x ≡ Ok s → Ready w s
  right_ready s f = at (area_right w) refl (sym f ∙ e)
    where
      at : (b : Bool) → area_right w ≡ b → Ok s ≡ sizes_of b w → Ready w s
      at false g h = let z : ◌≡◌ {A = ℕ} 0 1 = cc in absurd (omega arith)
      at true g h =
          let is : s ≡ record { n = number_at w (field_place 0); m = number_at w (field_place 1) } = cc in
          record {
            right = g;
            n_is = ap (λ (t : Sizes). t.n) is ∙ sym (fields_in_n w);
            m_is = ap (λ (t : Sizes). t.m) is ∙ sym (fields_in_m w);
          }

  pub right_area : (s : Sizes) → x ≡ Ok s → area_right w ≡ true
  right_area s f = (right_ready s f).right

pub ready_process : {w : List ℤ} {s : Sizes} → Ready w s → (p : ℕ) {b : Bool} → b ≡ is_process s.n p → b ≡ is_process (run_in w).waits.n p
ready_process y p e = rw (ready_n y) e

-- who is no process has no link
pub none_from : {w : List ℤ} {s : Sizes} → Ready w s → (a b : ℕ) → is_process s.n a ≡ false → neighbours (run_in w).waits a b ≡ false
none_from {w} {s} y a b h = at (neighbours (run_in w).waits a b) refl
  where
    at : (x : Bool) → neighbours (run_in w).waits a b ≡ x → neighbours (run_in w).waits a b ≡ false
    at false e = e
    at true e =
        let i = neighbours_ends (run_in w).waits (right_storable w y.right).sound a b e in
        absurd (false≢true (sym h ∙ (is_process_P s.n a).1 (i.0, omega (arith, i.1, ready_n y))))

pub none_to : {w : List ℤ} {s : Sizes} → Ready w s → (a b : ℕ) → is_process s.n b ≡ false → neighbours (run_in w).waits a b ≡ false
none_to {w} y a b h = neighbours_swap (run_in w).waits a b ∙ none_from y b a h
