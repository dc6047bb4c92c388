use Rattle.std.proofs.Common.{ℕ, Bool, length}
use Rattle.areas.specs.Area.{fields_in}
use Rattle.lenses.proofs.ChainWalks.{ArcsLeft, to_go}
use Rattle.marks.specs.Marks.{Marks}
use Rattle.remembering.proofs.Following.{Sent}
use Rattle.remembering.proofs.noting.note_chain.Given as goal

abbrev pub invariant-loop-k : goal.invariant-loop-k
invariant-loop-k l =
    ArcsLeft l.c (fields_in l.area.words.now) l.b l.k
    × ((before : ℕ → ℕ → Bool) → Marks before l.initial.memory → Sent l.c (fields_in l.area.words.now) l.b l.k before l.memory)

abbrev pub decreases-loop-k : goal.decreases-loop-k
decreases-loop-k l = length (to_go l.c (fields_in l.area.words.now) l.k)
