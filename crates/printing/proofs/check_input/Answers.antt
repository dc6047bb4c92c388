-- What was read is the front of what the reader had, as much of it as an answer looks at.
use Rattle.std.proofs.Common.{◌≡◌, ℕ, ◌+◌, ◌≤◌, ◌<◌, List, [], ◌++◌, length, take, Option, None, Some, IfSome, sym, ap, ◌∙◌, arith, subst, append-nil}
use Rattle.std.proofs.Math.Seq.{take_at, take_all}
use Rattle.std.proofs.lemmas.List.{length-take-le}
use Rattle.std.specs.Io.KnownBytes.{Appends, Consumes, IsAtEnd}
use Rattle.base.specs.ChoiceLaws.{below?}
use Rattle.base.specs.Checks.{Below, below, beyond}
use Rattle.inputs.specs.Input.{longest}
use Rattle.program_text.specs.Program.{program_text}
use Rattle.printing.proofs.check_input.Goals as goal

-- as many of the reader's bytes as fill the input are those that were read
front : (bs ys input : List ℕ) (n : ℕ) → n ≤ length input → bs ≡ take n input ++ ys → (n < length input → ys ≡ []) → take (length input) bs ≡ take n input
front bs ys input n h e f = at (below? n (length input))
  where
    long : length (take n input) ≡ n
    long = length-take-le n input h

    at : Below n (length input) → take (length input) bs ≡ take n input
    at (below p _) = rw (e, f p, append-nil) (take_all (length input) (take n input) (omega (arith, long)))
    at (beyond p _) = rw e (take_at (take n input) ys (length input) (omega (arith, long)))

whole : (old new wo wn : Option (List ℕ)) (input : List ℕ) (n : ℕ) → n ≤ length input → length input ≡ longest + 1 → Consumes old new (take n input)
    → (n < length input → IsAtEnd new) → Appends wo wn (program_text (take n input)) → IfSome old (λ bs. Appends wo wn (program_text (take (longest + 1) bs)))
whole None new wo wn input n h l e f a = tt
whole (Some bs) None wo wn input n h l e f a = absurd e
whole (Some bs) (Some ys) wo wn input n h l e f a =
    subst (λ (t : List ℕ). Appends wo wn (program_text t)) (sym (ap (λ (k : ℕ). take k bs) (sym l) ∙ front bs ys input n h e f)) a

pub returns-in-Ok-print_check-clause-printed : goal.returns-in-Ok-print_check-clause-printed
returns-in-Ok-print_check-clause-printed g c =
    let read = c.in-Ok.ensures in
    whole _ _ _ _ c.read_input.new.input c.in-Ok.length read.length_in_bounds c.read_input.auto.input read.taken read.ended c.in-Ok-print_check.ensures
