-- What the functions that look into the area for a report promise.
--   escape_to r k     == the lowest process of 1 to k with subordinate 1, 0 if there is none
--   allowed_in r      == what the edition of a run asks of a knot in addition holds
-- Assumes nothing.
use Rattle.std.specs.Prelude.{ℕ, Bool}
use Rattle.base.specs.Sums.{lowest_to}
use Rattle.checks.specs.Run.{Run}
use Rattle.checks.specs.Calls.{is_subordinate}
use Rattle.checks.specs.Reach.{edition_allows}

-- escape_of (checks, Calls) as far as a loop has come
abbrev pub escape_to : Run → ℕ → ℕ
escape_to r k = lowest_to k (λ p. is_subordinate (r.process p))

-- 02, N4: "Verdicts are judged by the edition named at start"
abbrev pub allowed_in : Run → Bool
allowed_in r = edition_allows r.waits r.start r.edition
