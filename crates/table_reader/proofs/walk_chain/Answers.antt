-- `table_reader::walk_chain` meets its contract: what is left of the walk, from arc k on with l arcs left, is the whole walk.
-- Each arc number that it comes to is at most M, by check 5.
use Rattle.std.proofs.Common.{◌-◌, ◌≤◌, ◌≡◌, sym, ap, ◌∙◌, arith}
use Rattle.tables.specs.Table.{field_of, m_of, first, arc_at, near, next}
use Rattle.tables.specs.Reading.{walked}
use Rattle.table_reader.specs.Inner.{arcs_left_of}
use Rattle.table_reader.proofs.Checks.{first_low, next_low}
use Rattle.table_reader.proofs.Chains.{walked_end, walked_none, walked_foreign, walked_on}
use Rattle.table_reader.proofs.walk_chain.Goals as goal

pub loop-k-init : goal.loop-k-init
loop-k-init c =
    let a = c.args in
    let t = field_of a.s.now in
    let low : first a.c t a.p ≤ m_of t = first_low a.c t a.p c.requires.linked (omega arith, omega arith) in
    (omega (arith, c.first_of-k.ensures), ap (walked a.c t a.p a.arcs) (sym c.first_of-k.ensures))

pub returns-then-l-eq0 : goal.returns-then-l-eq0
returns-then-l-eq0 c = sym (ap arcs_left_of (c.loop-k.invariant.1 ∙ walked_none _ _ _ _ _ c.loop-k-test.true c.if-l-eq0.true))

pub returns-then-near_of-p : goal.returns-then-near_of-p
returns-then-near_of-p c =
    sym (ap arcs_left_of (c.loop-k.invariant.1 ∙ walked_foreign _ _ _ _ _ c.loop-k-test.true c.if-l-eq0.false
    (λ e. c.if-near_of-p.true (c.near_of.ensures ∙ ap (near _) c.arc_at-a.ensures ∙ e))))

pub loop-k-preserved : goal.loop-k-preserved
loop-k-preserved c =
    let a = c.args in
    let t = field_of a.s.now in
    let k = c.loop-k.k in
    let own : near a.c (arc_at t k) ≡ a.p =
    sym (ap (near a.c) c.arc_at-a.ensures) ∙ sym c.near_of.ensures ∙ c.if-near_of-p.false in
    let step : c.next_of-k.result ≡ next a.c (arc_at t k) = c.next_of-k.ensures ∙ ap (next a.c) c.arc_at-a.ensures in
    let low : next a.c (arc_at t k) ≤ m_of t = next_low a.c t k c.requires.linked (omega arith) (omega arith) in (
      omega arith,
      c.loop-k.invariant.1 ∙ walked_on _ _ _ _ _ c.loop-k-test.true c.if-l-eq0.false own
          ∙ ap (walked a.c t a.p (c.loop-k.l - 1)) (sym step),
    )

pub returns : goal.returns
returns c = sym (ap arcs_left_of (c.loop-k.invariant.1 ∙ walked_end _ _ _ _ _ c.loop-k-test.false))
