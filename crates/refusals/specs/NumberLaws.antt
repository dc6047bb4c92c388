-- Numbers name refusals.
--   number_back      == the refusal with the number of a refusal is that refusal
--   Listed k         == k is the number of a refusal
--   listed_back      == the number of the refusal with a listed number is that number
--   number_of_answered   == the number of an answer is the number that it was made of
--   number_of_low    == so it is where that number is one of 0 to 13, by which what was given is refused
--   answered_number  == a refusal that answers has the number that it was made of
--   answered_ok, answered_err   == an answer that is a value was made of 0 and of that value; one that is a refusal, of another number
--   passed_on        == that refusal is the answer for the same number, whatever the value would be: so a `?` hands it on
-- Assumes nothing.
use Rattle.std.specs.Prelude.{ℕ, zero, suc, ◌≤◌, Ok, Err, ◌≡◌}
use Rattle.std.proofs.Common.{arith}
use Rattle.std.proofs.Math.Path.{refl, ap, sym, ◌∙◌}
use Rattle.refusals.specs.declared.Refusal.{Refusal}
use Rattle.refusals.specs.declared.Refusal.TheVariants.{TableShort, Sizes, TableLength, Ends, ChainField, Chain, ArcTwice, Process, AreaShort, ListOdd, OutputShort, BytesLeft, InputLong}
use Rattle.refusals.specs.declared.Refusal.TheVariants.{NotWellFormed, OutOfRange, Over, NoMessage, NoLink, NotOver, Edition, Place, Seed}
use Rattle.refusals.specs.Numbers.{number, numbered, answered, number_of}

pub number_back : (e : Refusal) → numbered (number e) ≡ e
number_back TableShort = refl
number_back Sizes = refl
number_back TableLength = refl
number_back Ends = refl
number_back ChainField = refl
number_back Chain = refl
number_back ArcTwice = refl
number_back Process = refl
number_back AreaShort = refl
number_back ListOdd = refl
number_back OutputShort = refl
number_back BytesLeft = refl
number_back InputLong = refl
number_back NotWellFormed = refl
number_back OutOfRange = refl
number_back Over = refl
number_back NoMessage = refl
number_back NoLink = refl
number_back NotOver = refl
number_back Edition = refl
number_back Place = refl
number_back Seed = refl

pub record Listed (k : ℕ) : Type 0 where
  pub refusal : Refusal
  pub is : k ≡ number refusal

pub listed_back : {k : ℕ} → Listed k → number (numbered k) ≡ k
listed_back l = rw l.is (ap number (number_back l.refusal))

module _ {A : Type 0} where
  pub number_of_answered : (k : ℕ) (x : A) → Listed k → number_of (answered k x) ≡ k
  number_of_answered zero x l = refl
  number_of_answered (suc k) x l = listed_back l

  pub answered_number : (k : ℕ) (x : A) {e : Refusal} → Listed k → answered k x ≡ Err e → k ≡ number e
  answered_number k x l e = sym (number_of_answered k x l) ∙ ap number_of e

  pub number_of_low : (k : ℕ) (x : A) → k ≤ 13 → number_of (answered k x) ≡ k
  number_of_low zero x h = refl
  number_of_low (suc zero) x h = refl
  number_of_low (suc (suc zero)) x h = refl
  number_of_low (suc (suc (suc zero))) x h = refl
  number_of_low (suc (suc (suc (suc zero)))) x h = refl
  number_of_low (suc (suc (suc (suc (suc zero))))) x h = refl
  number_of_low (suc (suc (suc (suc (suc (suc zero)))))) x h = refl
  number_of_low (suc (suc (suc (suc (suc (suc (suc zero))))))) x h = refl
  number_of_low (suc (suc (suc (suc (suc (suc (suc (suc zero)))))))) x h = refl
  number_of_low (suc (suc (suc (suc (suc (suc (suc (suc (suc zero))))))))) x h = refl
  number_of_low (suc (suc (suc (suc (suc (suc (suc (suc (suc (suc zero)))))))))) x h = refl
  number_of_low (suc (suc (suc (suc (suc (suc (suc (suc (suc (suc (suc zero))))))))))) x h = refl
  number_of_low (suc (suc (suc (suc (suc (suc (suc (suc (suc (suc (suc (suc zero)))))))))))) x h = refl
  number_of_low (suc (suc (suc (suc (suc (suc (suc (suc (suc (suc (suc (suc (suc zero))))))))))))) x h = refl
  number_of_low (suc (suc (suc (suc (suc (suc (suc (suc (suc (suc (suc (suc (suc (suc k)))))))))))))) x h = absurd (omega arith)

  pub answered_ok : (k : ℕ) (x : A) {y : A} → answered k x ≡ Ok y → (k ≡ 0) × (y ≡ x)
  answered_ok zero x e = (refl, cc)
  answered_ok (suc k) x e = absurd (let f : ◌≡◌ {A = ℕ} 0 1 = cc in omega arith)

  pub answered_err : (k : ℕ) (x : A) {e : Refusal} → answered k x ≡ Err e → k ≡ 0 → ⊥
  answered_err zero x e z = absurd (let f : ◌≡◌ {A = ℕ} 0 1 = cc in omega arith)
  answered_err (suc k) x e z = omega arith

  pub passed_on : {B : Type 0} (k : ℕ) (x : A) (y : B) {e : Refusal} → answered k x ≡ Err e → Err e ≡ answered k y
  passed_on zero x y e = absurd (let f : ◌≡◌ {A = ℕ} 0 1 = cc in omega arith)
  passed_on (suc k) x y e = cc
