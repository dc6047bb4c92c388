-- What the answer of opening a walk tells.
--   open_number_low    == the number is one of 0 to 8
--   opening_number     == it is that of the answer
-- Assumes nothing.
use Rattle.std.specs.Prelude.{ℕ, zero, suc, ◌≤◌, Bool, true, false, List, ◌≡◌}
use Rattle.std.proofs.Common.{arith}
use Rattle.base.specs.Choice.{choose}
use Rattle.refusals.specs.Numbers.{number_of}
use Rattle.refusals.specs.NumberLaws.{number_of_low}
use Rattle.tables.specs.declared.Chain.{Chain}
use Rattle.tables.specs.Table.{field_of, n_of, is_process, first}
use Rattle.tables.specs.Reading.{read_number}
use Rattle.tables.specs.ReadingLaws.{read_number_low}
use Rattle.tables.specs.Walking.{or_else, open_number, opened_of}

or_else_low : (q : ℕ) (b : Bool) → q ≤ 8 → or_else q (choose b 0 8) ≤ 8
unfolding or_else
or_else_low zero true h = omega arith
or_else_low zero false h = omega arith
or_else_low (suc q) b h = h

pub open_number_low : (bs : List ℕ) (p : ℕ) → open_number bs p ≤ 8
unfolding open_number
open_number_low bs p = or_else_low (read_number bs) (is_process (n_of (field_of bs)) p) (omega (arith, read_number_low bs))

pub opening_number : (bs : List ℕ) (c : Chain) (p : ℕ) → number_of (opened_of bs c p) ≡ open_number bs p
unfolding opened_of
opening_number bs c p = number_of_low (open_number bs p) (first c (field_of bs) p) (omega (arith, open_number_low bs p))
