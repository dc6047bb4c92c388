-- What the answers of splitting and of beginning tell, for whoever calls them.
--   Parted bs p          == the parts of an input that is not refused
--   split_parted, split_refused   == an answer with parts tells them, a refusal the number
--   BegunAt bs w b       == an input that is begun: where its picks begin, and how many there are
--   begun_at, begun_refused   == an answer with these tells them, a refusal the number
-- Assumes nothing.
use Rattle.std.proofs.Common.{ℕ, List, ◌≡◌, sym, ap, ◌∙◌, ℤ, Result, Ok, Err}
use Rattle.refusals.specs.declared.Refusal.{Refusal}
use Rattle.refusals.specs.Numbers.{number, number_of}
use Rattle.refusals.specs.NumberLaws.{answered_ok, answered_err}
use Rattle.inputs.specs.declared.Parts.{Parts}
use Rattle.inputs.specs.declared.Begun.{Begun}
use Rattle.inputs.specs.Input.{table_end, picks_in, input_number, parts_of, split_of, begun_number, begun_of}
use Rattle.inputs.specs.InputLaws.{split_said, begun_said}

pub record Parted (bs : List ℕ) (p : Parts) : Type 0 where
  pub number : input_number bs ≡ 0
  pub is : p ≡ parts_of bs

pub split_parted : (bs : List ℕ) {p : Parts} → split_of bs ≡ Ok p → Parted bs p
unfolding split_of
split_parted bs q = let told = answered_ok (input_number bs) _ q in record { number = told.0; is = told.1 }

pub split_refused : (bs : List ℕ) {e : Refusal} → split_of bs ≡ Err e → (input_number bs ≡ number e) × (number e ≡ 0 → ⊥)
unfolding split_of
split_refused bs {e} q =
    let is : input_number bs ≡ number e = sym (split_said bs) ∙ ap (λ (a : Result Parts Refusal). number_of a) q in
    let some = answered_err (input_number bs) _ q in
    (is, λ z. some (is ∙ z))

pub record BegunAt (bs : List ℕ) (w : List ℤ) (b : Begun) : Type 0 where
  pub begun : begun_number bs w ≡ 0
  pub end_is : b.end ≡ table_end bs
  pub picks_is : b.picks ≡ picks_in bs

module _ (bs : List ℕ) (w : List ℤ) {x : Result Begun Refusal} (ex : x ≡ begun_of bs w) where
  pub begun_at : {b : Begun} → x ≡ Ok b → BegunAt bs w b
  unfolding begun_of
  begun_at q =
      let told = answered_ok (begun_number bs w) _ (sym ex ∙ q) in
      record { begun = told.0; end_is = ap (λ (b : Begun). b.end) told.1; picks_is = ap (λ (b : Begun). b.picks) told.1 }

  pub begun_refused : {e : Refusal} → x ≡ Err e → (begun_number bs w ≡ number e) × (number e ≡ 0 → ⊥)
  unfolding begun_of
  begun_refused {e} q =
      let is : begun_number bs w ≡ number e = sym (begun_said bs w) ∙ ap (λ (a : Result Begun Refusal). number_of a) (sym ex ∙ q) in
      let some = answered_err (begun_number bs w) _ (sym ex ∙ q) in
      (is, λ z. some (is ∙ z))
