-- Laws of the C interface.
--   message_of_kind_of   == the kind and the counts that a pick gives name the message that it delivered
--   message_of_other    == a kind that is none of 1, 2, 3 is refused with 21, whatever else is given
-- Assumes nothing.
use Rattle.std.specs.Prelude.{ℕ, ◌≡◌, refl, Err}
use Rattle.std.proofs.Math.Bool.{and-false}
use Rattle.std.proofs.Common.{ne_eqb}
use Rattle.steps.specs.declared.Message.{Message}
use Rattle.steps.specs.declared.Message.TheVariants.{Suc, Pre, Ack}
use Rattle.steps.specs.declared.Process.{Process}
use Rattle.refusals.specs.Numbers.{numbered}
use Rattle.steps.specs.declared.TwoCounts.{TwoCounts}
use Rattle.steps.specs.Step.{small, both_small, count_small, lent_in_range, step_number, stepped}
use Rattle.host_values.specs.Values.{kind_of}
use Rattle.steps.specs.Effect.{counts_of}
use Rattle.host_values.specs.Interface.{message_of}

pub message_of_kind_of : (m : Message) → message_of (kind_of m) (counts_of m) ≡ m
unfolding message_of
message_of_kind_of Suc = refl
message_of_kind_of Pre = refl
message_of_kind_of (Ack c) = refl

pub message_of_other : (k : ℕ) (c : TwoCounts) → (k ≡ 1 → ⊥) → (k ≡ 2 → ⊥) → (k ≡ 3 → ⊥) → (o i p : ℕ) (x : Process)
    → stepped (message_of k c) o i p x ≡ Err (numbered 21)
unfolding stepped step_number lent_in_range count_small both_small small message_of
message_of_other k c h1 h2 h3 o i p x = rw (ne_eqb k 1 h1, ne_eqb k 2 h2, ne_eqb k 3 h3, and-false)
