-- What the arcs of one chain make of a row.
--   with_arc c k i          == the cell with an arc more of the chain, whose links begin at word i: forth on the out-chain, back on the in-chain
--   arc_on c t b q          == the arc of b's chain whose far end is q, 0 if there is none
--   Room row               == an arc more can be put into each cell
--   Filled c t b old row   == the row old with the arcs of b's chain put in
-- Assumes nothing.
use Rattle.std.specs.Prelude.{ℕ, ◌≤◌, ◌<◌, List, ◌≡◌, length, get_or}
use Rattle.base.specs.Choice.{choose}
use Rattle.tables.specs.declared.Chain.{Chain}
use Rattle.tables.specs.declared.Chain.TheVariants.{Out, In}
use Rattle.tables.specs.Table.{Fields, most_processes}
use Rattle.tables.specs.Pairs.{square_side}
use Rattle.tables.specs.Waits.{waits_of}
use Rattle.tables.specs.Chains.{joins}
use Rattle.areas.specs.Area.{link_place, arc_of}
use Rattle.areas.specs.Squares.{with_forth, with_back, cell_room}

abbrev pub with_arc : Chain → ℕ → ℕ → ℕ
with_arc Out k i = with_forth k i
with_arc In k i = with_back k i

abbrev pub arc_on : Chain → Fields → ℕ → ℕ → ℕ
arc_on Out t b q = arc_of t b q
arc_on In t b q = arc_of t q b

abbrev pub Room : List ℕ → Type 0
Room row = (q : ℕ) → q ≤ most_processes → get_or row q 0 < cell_room

pub record Filled (c : Chain) (t : Fields) (b : ℕ) (old row : List ℕ) : Type 0 where
  pub long : length row ≡ square_side
  pub cells : (q : ℕ) → q ≤ most_processes
      → get_or row q 0 ≡ choose (joins c (waits_of t) b q) (with_arc c (get_or old q 0) (link_place t (arc_on c t b q))) (get_or old q 0)
