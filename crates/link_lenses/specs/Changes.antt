-- Changes of a run that code makes one after another.
--   probe_of c            == the probe that goes along a chain: suc to successors, pre to predecessors
--   spread_to c r b k     == b has sent that probe to those of 1 to k whom it goes to
--   spread c r b         == b has sent it to all
--   answered r b y       == b has sent the acknowledgement y of its step, if there is one
--   without k ms         == what stays on a link when the message at place k is taken; all of it, if there is none
--   off r a b k          == the message at place k is off the link from a to b
--   pushed_on r a b m     == m is on the link from a to b, behind those that wait there
--   HasSlot r a b        == the link from a to b has a word left for one message more
--   Spreadable c r n b, Answerable r n b y   == so has each link on which b broadcasts along a chain, and that on which it acknowledges
-- Assumes nothing.
use Rattle.std.specs.Prelude.{ℕ, ◌-◌, ◌≤◌, true, ◌&&◌, List, [], ◌∷◌, ◌++◌, ◌≡◌, eqb, leb, length, Option, Some, None}
use Rattle.base.specs.Choice.{choose}
use Rattle.tables.specs.declared.Chain.{Chain}
use Rattle.tables.specs.declared.Chain.TheVariants.{Out, In}
use Rattle.tables.specs.Waits.{neighbours}
use Rattle.tables.specs.Chains.{joins}
use Rattle.steps.specs.Step as Step
use Rattle.steps.specs.declared.Message.{Message}
use Rattle.steps.specs.declared.Message.TheVariants.{Suc, Pre, Ack}
use Rattle.steps.specs.declared.Reply.{Reply}
use Rattle.machine.specs.Calls.{Cut, nowhere, cut, at_place}
use Rattle.checks.specs.Run.{Run, one}
use Rattle.areas.specs.Used.{link_slots}
use Rattle.areas.specs.Replaced.{with_links, put_link}

abbrev pub probe_of : Chain → Message
probe_of = Step.probe_of

unfoldable pub spread_to : Chain → Run → ℕ → ℕ → Run
spread_to c r b k = with_links r (λ x y. choose (eqb x b && leb y k) (r.link x y ++ one (joins c r.waits b y) (probe_of c)) (r.link x y))

unfoldable pub answered : Run → ℕ → Option Reply → Run
answered r b None = r
answered r b (Some y) = put_link r b y.to (r.link b y.to ++ (Ack y.counts ∷ []))

unfoldable pub spread : Chain → Run → ℕ → Run
spread c r b = spread_to c r b r.waits.n

-- ---- one link

-- what is left of a list by what was found in it
abbrev pub stays : List Message → Cut Message → List Message
stays ms nowhere = ms
stays ms (cut m rest) = rest

abbrev pub without : ℕ → List Message → List Message
without k ms = stays ms (at_place k ms)

abbrev pub off : Run → ℕ → ℕ → ℕ → Run
off r a b k = put_link r a b (without k (r.link a b))

abbrev pub pushed_on : Run → ℕ → ℕ → Message → Run
pushed_on r a b m = put_link r a b (r.link a b ++ (m ∷ []))

-- ---- room for what is sent

abbrev pub HasSlot : Run → ℕ → ℕ → Type 0
HasSlot r a b = length (r.link a b) ≤ link_slots - 1

abbrev pub Spreadable : Chain → Run → ℕ → ℕ → Type 0
Spreadable c r n b = (q : ℕ) → 1 ≤ q → q ≤ n → joins c r.waits b q ≡ true → HasSlot r b q

abbrev pub Answerable : Run → ℕ → ℕ → Option Reply → Type 0
Answerable r n b y = (x : Reply) → y ≡ Some x → (x.to ≤ n) × (neighbours r.waits b x.to ≡ true) × HasSlot r b x.to
