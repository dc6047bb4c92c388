-- Laws of the call that forms the output.
--   form_short, form_long   == too few bytes are lent, or enough
--   form_enough             == so many bytes as the longest output has are enough
--   form_within             == what is formed is no longer than the longest output
-- Assumes nothing.
use Rattle.std.specs.Prelude.{ℕ, ◌≤◌, ◌<◌, List, ◌++◌, drop, get_or, Ok, Err}
use Rattle.std.proofs.Math.Path.{◌≡◌}
use Rattle.std.proofs.Common.{sym, ap, ◌∙◌, arith, take-append-drop}
use borrow.Author.Tests.{lt-ltb, le-ltb}
use Rattle.std.proofs.Math.ListN.{length}
use Rattle.refusals.specs.declared.Refusal.TheVariants.{OutputShort}
use Rattle.base.specs.ChoiceLaws.{below?}
use Rattle.base.specs.Checks.{Below, below, beyond}
use Rattle.lines.specs.Adding.{Put}
use Rattle.program_text.specs.Program.{program_text}
use Rattle.program_text.specs.Longest.{longest_output}
use Rattle.printing.specs.Form.{form_of, formed_in}
use Rattle.program_text.specs.LongestLaws.{program_short}

module _ (bs out : List ℕ) where
  pub form_short : length out < longest_output → (Err OutputShort ≡ form_of bs out) × (out ≡ formed_in bs out)
  unfolding form_of formed_in
  form_short h = let e = lt-ltb (length out) longest_output h in (rw e, rw e)

  -- the text was put at the front
  put_front : {after : List ℕ} {end : ℕ} → Put out 0 (program_text bs) after end → after ≡ program_text bs ++ drop (length (program_text bs)) out
  put_front {after} {end} x =
      let here : end ≡ length (program_text bs) = omega (arith, x.grows) in
      sym (take-append-drop end after) ∙ rw (x.text, x.rest, here)

  pub form_long : longest_output ≤ length out → {after : List ℕ} {end : ℕ} → Put out 0 (program_text bs) after end
      → (Ok end ≡ form_of bs out) × (after ≡ formed_in bs out)
  unfolding form_of formed_in
  form_long h {after} {end} x =
      let e = le-ltb (length out) longest_output h in
      let here : end ≡ length (program_text bs) = omega (arith, x.grows) in
      (rw e (ap Ok here), rw e (put_front x))

  pub form_enough : longest_output ≤ length out → form_of bs out ≡ Ok (length (program_text bs))
  unfolding form_of
  form_enough h = rw (le-ltb (length out) longest_output h)

  pub form_within : ((i : ℕ) → get_or bs i 0 < 256) → {k : ℕ} → form_of bs out ≡ Ok k → k ≤ longest_output
  unfolding form_of
  form_within small {k} e = at (below? (length out) longest_output) e
    where
      at : Below (length out) longest_output → form_of bs out ≡ Ok k → k ≤ longest_output
      at (below _ q) f = let no : Err OutputShort ≡ Ok k = rw q at f in absurd (let z : ◌≡◌ {A = ℕ} 0 1 = cc in omega arith)
      at (beyond _ q) f = let is : Ok (length (program_text bs)) ≡ Ok k = rw q at f in let z : length (program_text bs) ≡ k = cc in omega (arith, program_short bs small)
