-- The digits that the kit's library prints are those of the definition.
--   printed   == of every 32-bit number
-- Assumes nothing.
use Rattle.std.proofs.Common.{ℕ, zero, suc, ◌/◌, ◌%◌, ◌^◌, ◌≤◌, ◌<◌, List, [], ◌∷◌, ◌++◌, ◌≡◌, false, sym, ap, ◌∙◌, arith, append-nil, pow-suc, lt-ltb}
use lib.Seq.{append_snoc}
use borrow.Author.Tests.{eq-eqb, ne_eqb}
use Rattle.std.specs.Fmt as Printed
use Rattle.std.specs.Fmt.{digits}
use Rattle.base.specs.ChoiceLaws.{below?}
use Rattle.base.specs.Checks.{Below, below, beyond}
use Rattle.lines.specs.Text.{digit, decimal}
use Rattle.lines.specs.TextLaws.{decimal_one, decimal_more}

-- one digit, before those that are there
glyph : (d : ℕ) → d < 10 → Printed.digit_glyph false d ≡ digit d
glyph d h = rw (lt-ltb d 10 h)

abbrev onto : ℕ → ℕ → List ℕ → List ℕ
onto k n acc = Printed.digits_onto k 10 false n acc

last : (k n : ℕ) (acc : List ℕ) → n < 10 → onto (suc k) n acc ≡ decimal n ++ acc
last k n acc h =
    let same : n % 10 ≡ n = omega arith in
    rw (eq-eqb (n / 10) 0 (omega arith), glyph (n % 10) (omega arith), same, decimal_one n h)

more : (k n : ℕ) (acc : List ℕ) → 10 ≤ n → onto (suc k) n acc ≡ onto k (n / 10) (digit (n % 10) ∷ acc)
more k n acc h = rw (ne_eqb (n / 10) 0 (λ z. omega arith), glyph (n % 10) (omega arith))

all : (k n : ℕ) (acc : List ℕ) → n < 10 ^ suc k → onto (suc k) n acc ≡ decimal n ++ acc
all zero n acc h = last zero n acc (omega arith)
all (suc k) n acc h = at (below? n 10) (all k (n / 10))
  where
    at : Below n 10 → ((acc : List ℕ) → n / 10 < 10 ^ suc k → onto (suc k) (n / 10) acc ≡ decimal (n / 10) ++ acc) → onto (suc (suc k)) n acc ≡ decimal n ++ acc
    at (below l _) rest = last (suc k) n acc l
    at (beyond l _) rest =
        more (suc k) n acc l ∙ rest (digit (n % 10) ∷ acc) (omega (arith, pow-suc 10 (suc k)))
        ∙ sym (ap (λ (t : List ℕ). t ++ acc) (decimal_more n l) ∙ append_snoc (decimal (n / 10)) (digit (n % 10)) acc)

pub printed : (n : ℕ) → n < 2 ^ 32 → Printed.decimal n ≡ decimal n
unfolding digits
printed n h = all 63 n [] (omega arith) ∙ append-nil (decimal n)
