-- Sets of processes in an array of numbers: two words for each process and for 0, a digit for each process.
--   sets_size               == how many numbers hold all of them
--   word_digits             == how many processes a word has digits for
--   set_at j                == where the array holds the two words of the set j
--   word_at j p, digit_of p  == which word of the set j has p's digit, and which digit that is
--   SetIs l j S            == the set j of the array l holds exactly the processes that pass S
--   word l j p             == the word of the set j that has p's digit
--   is_in l j p             == whether that digit is 1
--   added_to, struck_from    == the array with p put into the set j, and taken out of it
--   lowest_of, lowest_in l j == one more than the digits below the lowest 1 of two words, and of the set's
--   Nth S k r, Ranked l j k r   == r is the one of S, and of the set j, that has k of it below it
--   with_at S p v           == a test that gives v at one place
-- Assumes nothing.
use Rattle.std.specs.Prelude.{ℕ, ◌+◌, ◌-◌, ◌*◌, ◌/◌, ◌%◌, ◌^◌, ◌≤◌, ◌<◌, Bool, true, List, ◌≡◌, eqb, get_or, set}
use Rattle.std.specs.Int.Count.{count_trailing_zeros}
use Rattle.base.specs.Choice.{choose}
use Rattle.base.specs.Sums.{count_to}
use Rattle.tables.specs.Table.{most_processes, IsProcess}
use Rattle.tables.specs.Pairs.{square_side}
use Rattle.sets.specs.Digits.{digits}

abbrev pub sets_size : ℕ
sets_size = 2 * square_side

abbrev pub word_digits : ℕ
word_digits = 64

abbrev pub set_at : ℕ → ℕ
set_at j = 2 * j

-- the first 64 processes in the first word, the others in the second
abbrev pub word_at : ℕ → ℕ → ℕ
word_at j p = set_at j + (p - 1) / word_digits

abbrev pub digit_of : ℕ → ℕ
digit_of p = (p - 1) % word_digits

-- word h of the set holds the processes from 64 h + 1 on
pub record SetIs (l : List ℕ) (j : ℕ) (S : ℕ → Bool) : Type 0 where
  pub words : (h : ℕ) → h ≤ 1 → get_or l (set_at j + h) 0 ≡ digits word_digits (λ i. S (word_digits * h + i + 1))

abbrev pub word : List ℕ → ℕ → ℕ → ℕ
word l j p = get_or l (word_at j p) 0

unfoldable pub is_in : List ℕ → ℕ → ℕ → Bool
is_in l j p = eqb (word l j p / 2 ^ digit_of p % 2) 1

abbrev pub added_to : List ℕ → ℕ → ℕ → List ℕ
added_to l j p = set l (word_at j p) (word l j p + 2 ^ digit_of p)

abbrev pub struck_from : List ℕ → ℕ → ℕ → List ℕ
struck_from l j p = set l (word_at j p) (word l j p - 2 ^ digit_of p)

-- of two words: the second is looked at where the first has no 1
unfoldable pub lowest_of : ℕ → ℕ → ℕ
lowest_of low high = choose (eqb low 0) (count_trailing_zeros word_digits high + (word_digits + 1)) (count_trailing_zeros word_digits low + 1)

abbrev pub lowest_in : List ℕ → ℕ → ℕ
lowest_in l j = lowest_of (get_or l (set_at j) 0) (get_or l (set_at j + 1) 0)

-- r is the one that passes S and has k such below it, if there are more than k
abbrev pub Nth : (ℕ → Bool) → ℕ → ℕ → Type 0
Nth S k r = k < count_to most_processes S → IsProcess most_processes r × (S r ≡ true) × (count_to (r - 1) S ≡ k)

abbrev pub Ranked : List ℕ → ℕ → ℕ → ℕ → Type 0
Ranked l j k r = (S : ℕ → Bool) → SetIs l j S → Nth S k r

abbrev pub with_at : (ℕ → Bool) → ℕ → Bool → ℕ → Bool
with_at S p v q = choose (eqb q p) v (S q)
