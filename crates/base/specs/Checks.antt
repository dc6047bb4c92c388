-- A test with its value, and with its two meanings: to be split by clauses in a helper.
--   Tested b       == the test b passed, or it failed
--   Same m n       == two numbers are equal or apart, with the test's value
--   Below m n      == one number is below another or not, with the test's value
--   Check b P R    == the test b passed and P holds, or it failed and R holds
-- Assumes nothing.
use Rattle.std.specs.Prelude.{ℕ, ◌≤◌, ◌<◌, Bool, true, false, ◌≡◌, eqb, ltb}

pub data Tested (b : Bool) : Type 0 where
  passed : b ≡ true → Tested b
  failed : b ≡ false → Tested b

pub data Same (m n : ℕ) : Type 0 where
  same : m ≡ n → eqb m n ≡ true → Same m n
  apart : (m ≡ n → ⊥) → eqb m n ≡ false → Same m n

pub data Below (m n : ℕ) : Type 0 where
  below : m < n → ltb m n ≡ true → Below m n
  beyond : n ≤ m → ltb m n ≡ false → Below m n

pub data Check (b : Bool) (P R : Type 0) : Type 0 where
  holds : b ≡ true → P → Check b P R
  fails : b ≡ false → R → Check b P R
