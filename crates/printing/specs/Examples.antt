-- The call that forms the output, by example: refused by 11, "the output is too short", up to one byte below the longest output.
--   too_short   == with so few bytes it is refused and changes none; one more is enough
-- Assumes nothing.
use Rattle.std.specs.Prelude.{ℕ, List, [], ◌≡◌, refl, length, replicate, Ok, Err}
use Rattle.program_text.specs.Program.{program_text}
use Rattle.refusals.specs.Numbers.{numbered}
use Rattle.printing.specs.Form.{form_of, formed_in}

-- whatever the input: with no byte, with 10 and with 168,452 bytes lent; 168,453 are enough
too_short : (bs : List ℕ) →
    (form_of bs [] ≡ Err (numbered 11)) × (formed_in bs [] ≡ []) ×
    (form_of bs (replicate 10 7) ≡ Err (numbered 11)) × (formed_in bs (replicate 10 7) ≡ replicate 10 7) ×
    (form_of bs (replicate 168452 7) ≡ Err (numbered 11)) × (formed_in bs (replicate 168452 7) ≡ replicate 168452 7) ×
    (form_of bs (replicate 168453 7) ≡ Ok (length (program_text bs)))
unfolding form_of formed_in
too_short bs = (refl, refl, refl, refl, refl, refl, refl)
