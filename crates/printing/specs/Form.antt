-- The call that forms everything that the check program prints, in bytes that the caller lends.
--   form_of bs out       == the answer: as many bytes as are formed; or 11, "the output is too short", where it may be
--   formed_in bs out     == the lent bytes afterwards: the text at the front and the others as they were; a refusal changes none
-- Assumes nothing.
use Rattle.std.specs.Prelude.{ℕ, List, ◌++◌, ltb, length, drop, Result, Ok, Err}
use Rattle.base.specs.Choice.{choose}
use Rattle.refusals.specs.declared.Refusal.{Refusal}
use Rattle.refusals.specs.Numbers.{numbered}
use Rattle.program_text.specs.Program.{program_text}
use Rattle.program_text.specs.Longest.{longest_output}

-- 11, "the output is too short": one that is as long as the longest output never is
unfoldable pub form_of : List ℕ → List ℕ → Result ℕ Refusal
form_of bs out = choose (ltb (length out) longest_output) (Err (numbered 11)) (Ok (length (program_text bs)))

unfoldable pub formed_in : List ℕ → List ℕ → List ℕ
formed_in bs out = choose (ltb (length out) longest_output) out (program_text bs ++ drop (length (program_text bs)) out)
