-- Laws of fields written as bytes.
--   bytes_of_length   == two bytes a field
--   bytes_of_byte     == each byte of each field
--   bytes_of_field    == a field is read as it was written
-- Assumes nothing.
use Prim.Native.Nat.{ℕ, zero, suc, ◌+◌, ◌*◌, ◌/◌, ◌%◌, ◌<◌}
use Rattle.std.specs.Prelude.{[], ◌∷◌, ◌++◌, ◌≡◌}
use Rattle.std.proofs.Math.Path.{refl, ap}
use Rattle.std.proofs.Common.{◌∙◌, get_or-append-add}
use Rattle.std.proofs.Math.ListN.{length, get_or, length-append, get_or-append}
use native.Mathlib.Omega.{arith}
use Rattle.base.specs.ChoiceLaws.{same?}
use Rattle.base.specs.Checks.{Same, same, apart}
use Rattle.tables.specs.Table.{Fields, field_of}
use Rattle.table_writer.specs.Writing.{bytes_of}
use Rattle.table_writer.specs.Putting.{byte_of}

two_bytes : (v i : ℕ) → i < 2 → get_or (v % 256 ∷ v / 256 ∷ []) i 0 ≡ byte_of v i
two_bytes v zero u = refl
two_bytes v (suc zero) u = refl
two_bytes v (suc (suc i)) u = absurd (omega arith)

module _ (t : Fields) where
  pub bytes_of_length : (f : ℕ) → length (bytes_of t f) ≡ 2 * f
  unfolding bytes_of
  bytes_of_length zero = refl
  bytes_of_length (suc f) = let below : length (bytes_of t f) ≡ 2 * f = bytes_of_length f in simp length-append (omega arith)

  pub bytes_of_byte : (f j i : ℕ) → j < f → i < 2 → get_or (bytes_of t f) (2 * j + i) 0 ≡ byte_of (t j) i
  unfolding bytes_of
  bytes_of_byte zero j i u s = absurd (omega arith)
  bytes_of_byte (suc f) j i u s = at (same? j f) (λ v. bytes_of_byte f j i v s)
    where
      long : length (bytes_of t f) ≡ 2 * f
      long = bytes_of_length f

      at : Same j f → (j < f → get_or (bytes_of t f) (2 * j + i) 0 ≡ byte_of (t j) i)
          → get_or (bytes_of t f ++ (t f % 256 ∷ t f / 256 ∷ [])) (2 * j + i) 0 ≡ byte_of (t j) i
      at (same e _) below = rw (e, ← long) (get_or-append-add (bytes_of t f) _ i 0 ∙ two_bytes (t f) i s)
      at (apart e _) below = get_or-append (bytes_of t f) _ 0 (2 * j + i) (omega (arith, long)) ∙ below (omega arith)

  pub bytes_of_field : (f j : ℕ) → j < f → field_of (bytes_of t f) j ≡ t j
  unfolding field_of
  bytes_of_field f j u =
      let low : get_or (bytes_of t f) (2 * j) 0 ≡ t j % 256 = ap (λ (b : ℕ). get_or (bytes_of t f) b 0) (omega arith) ∙ bytes_of_byte f j 0 u (omega arith) in
      let high : get_or (bytes_of t f) (2 * j + 1) 0 ≡ t j / 256 = bytes_of_byte f j 1 u (omega arith) in
      omega arith
