-- For each case of the answers of reading and writing a table, and of start, 01's number and values, zeros elsewhere.
--   number_of, n_found, m_found   == reading a table: its number, N and M
--   writing_number, written_length   == writing one: its number, and the bytes written
--   started_number       == start: its number
-- Assumes nothing.
use Rattle.std.specs.Prelude.{ℕ, Result, Ok, Err}
use Rattle.refusals.specs.declared.Refusal.{Refusal}
use Rattle.refusals.specs.Numbers as Numbers
use Rattle.tables.specs.declared.Sizes.{Sizes}

abbrev pub number_of : Result Sizes Refusal → ℕ
number_of a = Numbers.number_of a

abbrev pub n_found : Result Sizes Refusal → ℕ
n_found (Ok s) = s.n
n_found (Err e) = 0

abbrev pub m_found : Result Sizes Refusal → ℕ
m_found (Ok s) = s.m
m_found (Err e) = 0

abbrev pub writing_number : Result ℕ Refusal → ℕ
writing_number a = Numbers.number_of a

abbrev pub written_length : Result ℕ Refusal → ℕ
written_length (Ok l) = l
written_length (Err e) = 0

abbrev pub started_number : Result (Unit {0}) Refusal → ℕ
started_number a = Numbers.number_of a
