-- `sets::is_in` meets its contract.
use Rattle.std.proofs.Common.{ℕ, ◌/◌, ◌%◌, ◌^◌, ap, ◌∙◌, eqb, get_or}
use Rattle.sets.specs.Sets.{digit_of, is_in}
use Rattle.sets.proofs.is_in.Goals as goal

pub returns : goal.returns
unfolding is_in
returns c =
    let a = c.args in
    c.is_set.ensures ∙ ap (λ (i : ℕ). eqb (get_or a.words.now i 0 / 2 ^ digit_of a.p % 2) 1) c.word_at.ensures
