-- What the functions promise of the bytes that they are lent.
--   Put before at piece after end   == the piece was put from `at` on and ends at `end`; all other bytes are as before
--   HasRoom page piece       == the piece has room at the page's end
--   Adds old piece new       == the piece was put at the page's end, in the bytes that were lent
-- Assumes nothing.
use Rattle.std.specs.Prelude.{ℕ, ◌+◌, ◌≤◌, List, ◌++◌, ◌≡◌, length, take, drop}
use Rattle.lines.specs.declared.Page.{Page}

pub record Put (before : List ℕ) (at : ℕ) (piece after : List ℕ) (end : ℕ) : Type 0 where
  pub grows : end ≡ at + length piece
  pub text : take end after ≡ take at before ++ piece
  pub rest : drop end after ≡ drop end before
  pub kept : length after ≡ length before

abbrev pub HasRoom : Page → List ℕ → Type 0
HasRoom page piece = page.end + length piece ≤ length page.out.now

-- the page after it lends the same bytes
pub record Adds (old : Page) (piece : List ℕ) (new : Page) : Type 0 where
  pub same : new.out.ghost_name ≡ old.out.ghost_name
  pub put : Put old.out.now old.end piece new.out.now new.end
