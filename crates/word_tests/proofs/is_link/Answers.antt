-- `word_tests::is_link` meets its contract: the test of a link is that of its messages and that of the words behind them.
use Rattle.std.proofs.Common.{ℕ, ◌+◌, ◌-◌, ◌≤◌, Bool, true, false, List, ◌≡◌, ◌∙◌, arith, ℤ, pos, length, get_or}
use Rattle.base.specs.Sums.{all_to}
use Rattle.areas.specs.Area.{messages_at}
use Rattle.areas.specs.LinkLaws.{messages_at_length}
use Rattle.word_tests.specs.WordTests.{is_free, message_word, link_test}
use Rattle.word_tests.specs.LinkTestLaws.{link_test_parts}
use Rattle.word_tests.proofs.is_link.Goals as goal

-- the two tests, of the messages and of the words behind them, make that of the link
module _ (s z : ℕ) (fits : s ≤ z) (w : List ℤ) (i l : ℕ) (m : Bool) (e : l ≡ length (messages_at w i s))
    (f : m ≡ all_to l (λ j. message_word (get_or w (i + (j - 1)) (pos 0)))) where
  no_link : m ≡ false → m ≡ link_test s z w i
  no_link p = p ∙ rw (link_test_parts s z w i fits, ← e, ← f, p)

  a_link : (r : Bool) → m ≡ true → r ≡ all_to (i + z - (i + l)) (λ j. is_free w (i + l + (j - 1))) → r ≡ link_test s z w i
  a_link r p g =
      let q : i + z - (i + l) ≡ z - l = omega arith in
      rw (link_test_parts s z w i fits, ← e, ← f, p, ← q) g

pub are_messages-requires : goal.are_messages-requires
are_messages-requires c = omega (arith, messages_at_length c.args.area.now c.args.i c.args.slots)

pub overflow_add-i : goal.overflow_add-i
overflow_add-i c = omega (arith, messages_at_length c.args.area.now c.args.i c.args.slots)

pub is_free-requires : goal.is_free-requires
is_free-requires c = omega (arith, messages_at_length c.args.area.now c.args.i c.args.slots)

pub returns-then-are_messages : goal.returns-then-are_messages
returns-then-are_messages c =
    let a = c.args in
    a_link a.slots a.size c.requires.slots_le_size a.area.now a.i c.link_length-l.result c.are_messages.result c.link_length-l.ensures
    c.are_messages.ensures c.is_free.result c.if-are_messages.true c.is_free.ensures

pub returns-else-are_messages : goal.returns-else-are_messages
returns-else-are_messages c =
    let a = c.args in
    no_link a.slots a.size c.requires.slots_le_size a.area.now a.i c.link_length-l.result c.are_messages.result c.link_length-l.ensures
    c.are_messages.ensures c.if-are_messages.false
