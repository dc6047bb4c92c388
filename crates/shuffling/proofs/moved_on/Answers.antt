-- `shuffling::moved_on` meets its contract.
use Rattle.std.proofs.Common.{ℕ, ◌-◌, ◌*◌, ◌%◌, ◌^◌, bit_and, bit_xor, refl, sym, ap, ◌∙◌}
use Rattle.shuffling.specs.Shuffle.{width, xored_left, xored_right, moved_on}
use Rattle.shuffling.specs.ShuffleLaws.{xored_masked, moved_on_zero}
use Rattle.shuffling.proofs.moved_on.Goals as goal

pub returns-then-state-eq0 : goal.returns-then-state-eq0
returns-then-state-eq0 c = sym (ap moved_on c.if-state-eq0.true ∙ moved_on_zero)

pub returns : goal.returns
unfolding moved_on
returns c =
    let x : ℕ = c.args.state in
    let second : ℕ = xored_right 17 (bit_xor x (bit_and x (2 ^ 19 - 1) * 2 ^ 13 % 2 ^ width)) in
    xored_masked 27 5 second refl ∙ ap (λ (y : ℕ). xored_left 5 (xored_right 17 y)) (xored_masked 19 13 x refl)
