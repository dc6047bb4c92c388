-- The lines of the program's own deliveries as a course of deliveries, of which none is refused.
--   OwnLines i n r q t   == t is the lines of the deliveries i + 1 to n in the fixed order, from the run r to the run q, which is over
-- Assumes nothing.
use Rattle.std.specs.Prelude.{ℕ, suc, true, false, List, [], ◌++◌, ◌≡◌, Ok}
use Rattle.steps.specs.declared.Message.{Message}
use Rattle.checks.specs.Run.{Run, over}
use Rattle.choosing.specs.Answers.{next_of}
use Rattle.lines.specs.Text.{delivery_line}
use Rattle.program_text.specs.Program.{next_chosen}

pub data OwnLines : ℕ → ℕ → Run → Run → List ℕ → Type 0 where
  no_line : {n : ℕ} {r : Run} → over r ≡ true → OwnLines n n r r []
  one_line : {i n : ℕ} {r q : Run} {t : List ℕ} (a b : ℕ) (m : Message) → over r ≡ false → next_chosen r ≡ Ok (record { from = a; to = b; message = m })
      → OwnLines (suc i) n (next_of r).run q t → OwnLines i n r q (delivery_line true a b m ++ t)
