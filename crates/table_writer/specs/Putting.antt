-- Fields put into bytes at their places, and what a table that holds a list says.
--   Paired list ps      == ps are the pairs of the list, each its from and its to
--   put_field l j v      == the bytes with field j replaced by v, low byte first
--   put_arc l at ..      == four fields in a row: "from, to, next-out, next-in"
--   put_fields t lo c l  == c fields of t in a row, from field lo on
--   slot c p            == the number of the field that holds the first of p's chain
--   slots               == how many slots there are, with those of 0
--   Fronts list k l     == l holds, at the slots, the fronts once arcs 1 to k have been put
--   byte_of v i          == byte i of a field: the low one at 0, the high one at 1
--   Carries n list t    == the fields say N, M, and for each chain the ends, the fronts and what stood at the front before
--   EntriesUpTo list b  == each entry of a pair is at most b
-- Assumes nothing.
use Rattle.std.specs.Prelude.{ℕ, zero, suc, ◌+◌, ◌-◌, ◌*◌, ◌/◌, ◌%◌, ◌≤◌, ◌<◌, List, [], ◌≡◌, length, get_or, set}
use Rattle.tables.specs.declared.Chain.{Chain}
use Rattle.tables.specs.declared.Chain.TheVariants.{Out, In}
use Rattle.tables.specs.Table.{Fields, n_of, m_of, most_processes, IsProcess, first, arc_at, near, next}
use Rattle.table_writer.specs.Writing.{pairs, end, front}

-- "a list of from, to pairs"
pub record Paired (list : List ℕ) (ps : List (List ℕ)) : Type 0 where
  pub long : length ps ≡ pairs list
  pub from_is : (k : ℕ) → k < pairs list → get_or (get_or ps k []) 0 0 ≡ end Out list (k + 1)
  pub to_is : (k : ℕ) → k < pairs list → get_or (get_or ps k []) 1 0 ≡ end In list (k + 1)

-- "Each field is 16 bits, unsigned, low byte first."
unfoldable pub put_field : List ℕ → ℕ → ℕ → List ℕ
put_field l j v = set (set l (2 * j) (v % 256)) (2 * j + 1) (v / 256)

-- "M arc records: from, to, next-out, next-in"
unfoldable pub put_arc : List ℕ → ℕ → ℕ → ℕ → ℕ → ℕ → List ℕ
put_arc l at from to out into = put_field (put_field (put_field (put_field l at from) (at + 1) to) (at + 2) out) (at + 3) into

unfoldable pub put_fields : Fields → ℕ → ℕ → List ℕ → List ℕ
put_fields t lo zero l = l
put_fields t lo (suc c) l = put_field (put_fields t lo c l) (lo + c) (t (lo + c))

-- "N process records: first-out, first-in": those of p are the fields 2p and 2p + 1
unfoldable pub slot : Chain → ℕ → ℕ
slot Out p = 2 * p
slot In p = 2 * p + 1

abbrev pub slots : ℕ
slots = 2 * (most_processes + 1)

pub record Fronts (list : List ℕ) (k : ℕ) (l : List ℕ) : Type 0 where
  pub long : length l ≡ slots
  pub at : (c : Chain) (p : ℕ) → p ≤ most_processes → get_or l (slot c p) 0 ≡ front c list p k

abbrev pub EntriesUpTo : List ℕ → ℕ → Type 0
EntriesUpTo list b = (c : Chain) (k : ℕ) → 1 ≤ k → k ≤ pairs list → end c list k ≤ b

-- "16 bits, unsigned, low byte first"
abbrev pub byte_of : ℕ → ℕ → ℕ
byte_of v zero = v % 256
byte_of v (suc i) = v / 256

pub record Carries (n : ℕ) (list : List ℕ) (t : Fields) : Type 0 where
  pub n_is : n_of t ≡ n
  pub m_is : m_of t ≡ pairs list
  pub first_is : (c : Chain) (p : ℕ) → IsProcess n p → first c t p ≡ front c list p (pairs list)
  pub near_is : (c : Chain) (k : ℕ) → 1 ≤ k → k ≤ pairs list → near c (arc_at t k) ≡ end c list k
  pub next_is : (c : Chain) (k : ℕ) → 1 ≤ k → k ≤ pairs list → next c (arc_at t k) ≡ front c list (end c list k) (k - 1)
