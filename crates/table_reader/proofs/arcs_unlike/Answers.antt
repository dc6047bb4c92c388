-- `table_reader::arcs_unlike` meets its contract: before process p no two arcs of a process before it agree in both ends, and only chains before
-- that of p are noted.
use Rattle.std.proofs.Common.{ℕ, ◌+◌, ◌<◌, List, Bool, true, ◌≡◌, sym, subst, arith, replicate}
use lib.ListN.{length-replicate}
use Rattle.base.specs.ChoiceLaws.{same?}
use Rattle.base.specs.Checks.{Same, same, apart}
use Rattle.base.specs.CountLaws.{replicate_zero}
use Rattle.base.specs.Sums.{all_to}
use Rattle.tables.specs.declared.Sizes.{Sizes}
use Rattle.tables.specs.Table.{Fields, field_of, m_of}
use Rattle.tables.specs.Reading.{unlike_before}
use Rattle.tables.specs.Pairs.{square_side}
use Rattle.table_reader.specs.Inner.{HoldsTable, Chained, LastMet, Distinct, ChainTold}
use Rattle.table_reader.proofs.Clashes.{told_all, told_clash}
use Rattle.table_reader.proofs.arcs_unlike.Invariants.{DistinctBefore}
use Rattle.table_reader.proofs.arcs_unlike.Goals as goal

none_met : LastMet 1 (replicate square_side 0)
none_met = record { long = length-replicate {A = ℕ} square_side 0; low = λ b. omega (arith, replicate_zero square_side b) }

-- what the walk along one chain says
told : (t : Fields) (p : ℕ) {b r : Bool} → b ≡ r → ChainTold t p b → ChainTold t p r
told t p e h = subst (ChainTold t p) e h

more : (t : Fields) {p : ℕ} → DistinctBefore t p → Distinct t p → DistinctBefore t (p + 1)
more t {p} h d q l u = at (same? p q)
  where
    at : Same p q → Distinct t q
    at (same e _) = rw (← e) d
    at (apart e _) = h q l (omega arith)

-- the chains of all processes are walked
all_told : {bs : List ℕ} {sizes : Sizes} {p : ℕ} → HoldsTable bs sizes → Chained (field_of bs) → sizes.n < p → DistinctBefore (field_of bs) p
    → true ≡ all_to (m_of (field_of bs)) (unlike_before (field_of bs))
all_told h z u d = sym (told_all _ (omega (arith, h.processes, h.few)) z (λ q r. d q r.0 (omega (arith, r.1, h.processes))))

pub loop-p-init : goal.loop-p-init
loop-p-init c = (omega arith, none_met, λ q l u. absurd (omega arith))

pub returns-then-not-chain_unlike : goal.returns-then-not-chain_unlike
returns-then-not-chain_unlike c =
    let t = field_of c.args.s.now in
    sym (told_clash t (told t c.loop-p.p c.if-not-chain_unlike.true c.chain_unlike.ensures.chain_told))

pub loop-p-preserved : goal.loop-p-preserved
loop-p-preserved c =
    let t = field_of c.args.s.now in
    let loop = c.loop-p in
    let yes = c.if-not-chain_unlike.false in
    (omega arith, c.chain_unlike.ensures.noted yes, more t loop.invariant.2 (told t loop.p yes c.chain_unlike.ensures.chain_told))

pub returns : goal.returns
returns c = all_told c.requires.holds_table c.requires.chained (omega arith) c.loop-p.invariant.2

pub returns-else-not-chain_unlike : goal.returns-else-not-chain_unlike
returns-else-not-chain_unlike c =
    let t = field_of c.args.s.now in
    all_told c.requires.holds_table c.requires.chained (omega arith)
    (more t c.loop-p.invariant.2 (told t c.loop-p.p c.if-not-chain_unlike.false c.chain_unlike.ensures.chain_told))
