-- The writer's refusals, each row in 01's words ("The writer checks 10, 2, 4, 7, 11").
--   EndsAre n list           == every end of every pair is a process
--   Differ list              == no two pairs agree in both ends
--   WriterMet n list space r == r is the first row that N, the list and the room for output meet, 0 if they meet none
-- writer_P (RefusalLaws) says that the writer's number is r exactly if this holds. Assumes nothing.
use Rattle.std.specs.Prelude.{ℕ, ◌%◌, ◌≤◌, ◌<◌, List, ◌≡◌, length}
use Rattle.tables.specs.declared.Chain.{Chain}
use Rattle.tables.specs.declared.Chain.TheVariants.{Out, In}
use Rattle.tables.specs.Table.{SizesFit, table_length, IsProcess}
use Rattle.table_writer.specs.Writing.{pairs, end}

abbrev pub EndsAre : ℕ → List ℕ → Type 0
EndsAre n list = (c : Chain) (k : ℕ) → 1 ≤ k → k ≤ pairs list → IsProcess n (end c list k)

abbrev pub Differ : List ℕ → Type 0
Differ list = (j k : ℕ) → 1 ≤ j → j < k → k ≤ pairs list → end Out list j ≡ end Out list k → end In list j ≡ end In list k → ⊥

-- 10 "odd number of list entries", 2 "N or M outside its range", 4 "a from or to is 0 or over N", 7 "two arcs agree in from and to",
-- 11 "output too short"; each row says that none before it is met
pub data WriterMet (n : ℕ) (list : List ℕ) (space : ℕ) : ℕ → Type 0 where
  row_10 : (length list % 2 ≡ 0 → ⊥) → WriterMet n list space 10
  row_2 : length list % 2 ≡ 0 → (SizesFit n (pairs list) → ⊥) → WriterMet n list space 2
  row_4 : length list % 2 ≡ 0 → SizesFit n (pairs list) → (c : Chain) (k : ℕ) → 1 ≤ k → k ≤ pairs list → (IsProcess n (end c list k) → ⊥)
      → WriterMet n list space 4
  row_7 : length list % 2 ≡ 0 → SizesFit n (pairs list) → EndsAre n list
      → (j k : ℕ) → 1 ≤ j → j < k → k ≤ pairs list → end Out list j ≡ end Out list k → end In list j ≡ end In list k → WriterMet n list space 7
  row_11 : length list % 2 ≡ 0 → SizesFit n (pairs list) → EndsAre n list → Differ list → space < table_length n (pairs list) → WriterMet n list space 11
  no_row : length list % 2 ≡ 0 → SizesFit n (pairs list) → EndsAre n list → Differ list → table_length n (pairs list) ≤ space → WriterMet n list space 0
