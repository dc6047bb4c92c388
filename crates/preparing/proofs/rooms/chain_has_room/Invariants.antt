use Rattle.std.proofs.Common.{ℕ, Bool, List, ℤ, length, Option}
use Rattle.tables.specs.declared.Chain.{Chain}
use Rattle.steps.specs.declared.Reply.{Reply}
use Rattle.areas.specs.Area.{fields_in, run_in}
use Rattle.preparing.specs.Rooms.{room_to}
use Rattle.preparing.specs.Receiving.{probes_of}
use Rattle.lenses.proofs.ChainWalks.{to_go, Walked}
use Rattle.preparing.proofs.rooms.chain_has_room.Given as goal

-- the room on one link
abbrev pub room : List ℤ → Chain → ℕ → ℕ → Option Reply → ℕ → Bool
room w c a b z q = room_to (run_in w) a b (probes_of c) z q

abbrev pub invariant-loop-k : goal.invariant-loop-k
invariant-loop-k l = Walked l.c (fields_in l.area.words.now) l.b l.k (room l.area.words.now l.c l.a l.b l.reply)

abbrev pub decreases-loop-k : goal.decreases-loop-k
decreases-loop-k l = length (to_go l.c (fields_in l.area.words.now) l.k)
