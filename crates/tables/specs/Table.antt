-- The fields of a wait table, as 01's section "Wait table" names them. A table is read through its fields: the same definitions
-- serve the bytes of a table and the words of a run area, which both give the field of each number.
--   field_of bs j      == field j of bytes: "Each field is 16 bits, unsigned, low byte first"
--   n_of t, m_of t, sizes_of t   == "First N (processes, 1 to 128) and M (arcs, 0 to 512)"
--   most_processes, most_arcs      == the largest N and the largest M of that sentence
--   SizesFit n m, sizes_fit n m   == N and M are in the ranges of that sentence, and the test of it
--   IsProcess n p, is_process n p   == p is one of n processes ("Processes and arcs count from 1 in file order"), and the test of it
--   first c t p       == "Then N process records: first-out, first-in", by chain
--   arc_at t k         == "Then M arc records: from, to, next-out, next-in": the one place where an arc is looked up
--   says_wait t a b k  == "An arc says that *from* waits for *to*": arc k says that a waits for b
--   near c a, next c a   == the end of an arc that belongs to a chain's process (from on the out-chain, to on the in-chain), and the
--                           chain's next field
--   follow c t k      == the arc after arc k on the chain, 0 at its end
--   place c t p i     == the arc that p's chain meets i steps after its first, 0 past its end
--   field_total n m, table_length n m   == how many fields a table has, and how many bytes: "The length is exactly 4 + 4N + 8M bytes"
-- Assumes nothing.
use Rattle.std.specs.Prelude.{ℕ, zero, suc, ◌+◌, ◌-◌, ◌*◌, ◌≤◌}
use mathlib.Core.{Bool.Bool, Bool.◌&&◌, List.List}
use lib.{Dec.eqb, Dec.leb, ListN.get_or}
use Rattle.tables.specs.declared.{Arc.Arc, Chain.Chain, Chain.TheVariants.Out, Chain.TheVariants.In, Sizes.Sizes}

-- the fields of a table by number, from 0
abbrev pub Fields : Type 0
Fields = ℕ → ℕ

-- "Each field is 16 bits, unsigned, low byte first."
unfoldable pub field_of : List ℕ → Fields
field_of bs j = get_or bs (2 * j) 0 + 256 * get_or bs (2 * j + 1) 0

-- "First N (processes, 1 to 128) and M (arcs, 0 to 512)."
abbrev pub n_of : Fields → ℕ
n_of t = t 0

abbrev pub m_of : Fields → ℕ
m_of t = t 1

abbrev pub sizes_of : Fields → Sizes
sizes_of t = record { n = n_of t; m = m_of t }

abbrev pub most_processes : ℕ
most_processes = 128

abbrev pub most_arcs : ℕ
most_arcs = 512

abbrev pub SizesFit : ℕ → ℕ → Type 0
SizesFit n m = (1 ≤ n) × (n ≤ most_processes) × (m ≤ most_arcs)

abbrev pub sizes_fit : ℕ → ℕ → Bool
sizes_fit n m = leb 1 n && leb n most_processes && leb m most_arcs

-- N and M, then two fields for each process and four for each arc
abbrev pub field_total : ℕ → ℕ → ℕ
field_total n m = 2 + 2 * n + 4 * m

-- "The length is exactly 4 + 4N + 8M bytes."
abbrev pub table_length : ℕ → ℕ → ℕ
table_length n m = 4 + 4 * n + 8 * m

-- "Processes and arcs count from 1 in file order."
abbrev pub IsProcess : ℕ → ℕ → Type 0
IsProcess n p = (1 ≤ p) × (p ≤ n)

unfoldable pub is_process : ℕ → ℕ → Bool
is_process n p = leb 1 p && leb p n

-- "Then N process records: first-out, first-in." Process 1 has fields 2 and 3
unfoldable pub first : Chain → Fields → ℕ → ℕ
first Out t p = t (2 * p)
first In t p = t (2 * p + 1)

-- "Then M arc records: from, to, next-out, next-in." Arc 1 begins after the N process records, at field 2 + 2N
unfoldable pub arc_at : Fields → ℕ → Arc
arc_at t k =
    record {
      from = t (2 * n_of t + 4 * k - 2);
      to = t (2 * n_of t + 4 * k - 1);
      next_out = t (2 * n_of t + 4 * k);
      next_in = t (2 * n_of t + 4 * k + 1);
    }

-- "An arc says that *from* waits for *to*."
abbrev pub says_wait : Fields → ℕ → ℕ → ℕ → Bool
says_wait t a b k = eqb (arc_at t k).from a && eqb (arc_at t k).to b

-- whose out-chain, or in-chain, an arc belongs to
unfoldable pub near : Chain → Arc → ℕ
near Out a = a.from
near In a = a.to

-- "follows next-out"; "the in-chain does the same with first-in, next-in and to"
unfoldable pub next : Chain → Arc → ℕ
next Out a = a.next_out
next In a = a.next_in

-- "In first and next fields 0 ends the chain."
unfoldable pub follow : Chain → Fields → ℕ → ℕ
follow c t zero = 0
follow c t (suc k) = next c (arc_at t (suc k))

-- the arc that the chain of p meets i steps after its first
unfoldable pub place : Chain → Fields → ℕ → ℕ → ℕ
place c t p zero = first c t p
place c t p (suc i) = follow c t (place c t p i)
