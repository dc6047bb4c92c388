-- A row that is filled along a chain, arc by arc.
--   Going c t b old k row        == the arcs of b's chain up to arc k are put into the row old
--   going_first, going_on, going_end     == none is, one more is, all are
--   far_old                      == the far end of arc k has its old cell
--   filled_room, filled_row      == after the out-chain there is room for the in-chain, and then it is the row of b
-- Assumes nothing.
use Prim.Native.Nat.{ℕ, ◌≤◌}
use mathlib.Core.Bool.{true, false≢true}
use mathlib.Core.List.{List}
use mathlib.Core.Path.{◌≡◌, refl, sym, ap, ◌∙◌}
use native.Mathlib.Omega.{arith}
use lib.ListN.{length, get_or, set, length-set}
use lib.Seq.{get_or-set_same, get_or-set_other}
use Rattle.base.specs.Choice.{choose, bit}
use Rattle.base.specs.ChoiceLaws.{tested, same?, bit_same, bit_apart}
use Rattle.base.specs.Checks.{Tested, passed, failed, Same, same, apart}
use Rattle.base.specs.Counts.{sum_over}
use Rattle.tables.specs.declared.Chain.{Chain}
use Rattle.tables.specs.declared.Chain.TheVariants.{Out, In}
use Rattle.tables.specs.Table.{Fields, n_of, m_of, most_processes, IsProcess, first, arc_at, near, next}
use Rattle.tables.specs.Layout.{Right}
use Rattle.tables.specs.Pairs.{square_side}
use Rattle.tables.specs.Waits.{waits_of}
use Rattle.tables.specs.WaitsLaws.{waits_of_sound}
use Rattle.tables.specs.Chains.{far, joins}
use Rattle.areas.specs.Area.{link_place, arc_of}
use Rattle.areas.specs.Squares.{cell_by, cell_of, Row}
use Rattle.areas.specs.SquareLaws.{cell_by_none}
use Rattle.areas.specs.ArcLaws.{arc_of_is, arc_of_waits}
use Rattle.lenses.proofs.ChainWalks.{ends, to_go, ArcsLeft, Ahead, first_ends, left_first, left_on, left_end}
use Rattle.rows.specs.Filling.{with_arc, arc_on, Room, Filled}
use Rattle.rows.proofs.Cells.{arc_low, cell_small, forth_put, back_put}

-- whom the chain does not lead to, and whom it leads to from arc k on, has the old cell; whom it led to before has the arc put in
pub record Going (c : Chain) (t : Fields) (b : ℕ) (old : List ℕ) (k : ℕ) (row : List ℕ) : Type 0 where
  pub here : ArcsLeft c t b k
  pub long : length row ≡ square_side
  pub kept : (q : ℕ) → (joins c (waits_of t) b q ≡ true → 1 ≤ ends c t (to_go c t k) q) → get_or row q 0 ≡ get_or old q 0
  pub put : (q : ℕ) → joins c (waits_of t) b q ≡ true → ends c t (to_go c t k) q ≡ 0
      → get_or row q 0 ≡ with_arc c (get_or old q 0) (link_place t (arc_on c t b q))

-- whom the chain leads to is a process
joins_process : (c : Chain) {t : Fields} → Right t → (b q : ℕ) → joins c (waits_of t) b q ≡ true → IsProcess (n_of t) q
unfolding waits_of
joins_process Out {t} g b q j = ((waits_of_sound t g).to_low b q j, (waits_of_sound t g).to_high b q j)
joins_process In {t} g b q j = ((waits_of_sound t g).from_low q b j, (waits_of_sound t g).from_high q b j)

-- the arc that is met is the one of its far end
ahead_on : (c : Chain) {t : Fields} → Right t → {b k : ℕ} → Ahead c t b k → arc_on c t b (far c (arc_at t k)) ≡ k
unfolding far near
ahead_on Out {t} g {b} {k} a = arc_of_is t g b (arc_at t k).to k (a.arc, a.own, refl)
ahead_on In {t} g {b} {k} a = arc_of_is t g (arc_at t k).from b k (a.arc, refl, a.own)

module _ {c : Chain} {t : Fields} (g : Right t) {b : ℕ} {old : List ℕ} where
  pub going_first : IsProcess (n_of t) b → length old ≡ square_side → {k : ℕ} → k ≡ first c t b → Going c t b old k old
  going_first own l e =
      rw e
      (record {
        here = left_first g own;
        long = l;
        kept = λ q h. refl;
        put = λ q j z.
            let one : bit (joins c (waits_of t) b q) ≡ 1 = ap bit j in
            absurd (omega (arith, first_ends c g own q (joins_process c g b q j)));
      })

  -- the arc that is met is put at its far end, which has the old cell
  module _ {k : ℕ} {row : List ℕ} (w : Going c t b old k row) (h : k ≡ 0 → ⊥) where
    met_here : Ahead c t b k
    met_here = left_on g k w.here h

    pub far_old : {q : ℕ} → q ≡ far c (arc_at t k) → get_or row q 0 ≡ get_or old q 0
    far_old {q} e = w.kept q (λ j. omega (arith, met_here.count q, bit_same q (far c (arc_at t k)) e))

    going_next : Going c t b old (next c (arc_at t k)) (set row (far c (arc_at t k)) (with_arc c (get_or row (far c (arc_at t k)) 0) (link_place t k)))
    going_next =
        record {
          here = met_here.onward;
          long = simp length-set w.long;
          kept = λ q i. kept q i (same? q f);
          put = λ q j z. put q j z (same? q f);
        }
      where
        f : ℕ
        f = far c (arc_at t k)

        v : ℕ
        v = with_arc c (get_or row f 0) (link_place t k)

        kept : (q : ℕ) → (joins c (waits_of t) b q ≡ true → 1 ≤ ends c t (to_go c t (next c (arc_at t k))) q) → Same q f
            → get_or (set row f v) q 0 ≡ get_or old q 0
        kept q i (same e _) = absurd (omega (arith, (rw e at i) met_here.joined, met_here.alone))
        kept q i (apart e _) =
            get_or-set_other row f q v 0 e
            ∙ w.kept q (λ j. omega (arith, i j, met_here.count q, bit_apart q f e))

        put : (q : ℕ) → joins c (waits_of t) b q ≡ true → ends c t (to_go c t (next c (arc_at t k))) q ≡ 0 → Same q f
            → get_or (set row f v) q 0 ≡ with_arc c (get_or old q 0) (link_place t (arc_on c t b q))
        put q j z (same e _) =
            rw (e, ahead_on c g met_here)
            (get_or-set_same row f v 0 (omega (arith, w.long, met_here.process, g.sizes)) ∙ ap (λ (x : ℕ). with_arc c x (link_place t k)) (far_old refl))
        put q j z (apart e _) =
            get_or-set_other row f q v 0 e ∙ w.put q j (omega (arith, met_here.count q, bit_apart q f e))

    -- by what the code read
    pub going_on : {q x i v j : ℕ} → q ≡ far c (arc_at t k) → x ≡ get_or row q 0 → i ≡ link_place t k → v ≡ with_arc c x i → j ≡ next c (arc_at t k)
        → Going c t b old j (set row q v)
    going_on e f p l n = rw (l, f, p, e, n) going_next

  pub going_end : {k : ℕ} {row : List ℕ} → Going c t b old k row → k ≡ 0 → Filled c t b old row
  unfolding sum_over
  going_end {k} {row} w e = record { long = w.long; cells = λ q u. at q (tested (joins c (waits_of t) b q)) }
    where
      none : (q : ℕ) → ends c t (to_go c t k) q ≡ 0
      none q = ap {A = List ℕ} (λ ks. ends c t ks q) (left_end g w.here e)

      at : (q : ℕ) → Tested (joins c (waits_of t) b q)
          → get_or row q 0 ≡ choose (joins c (waits_of t) b q) (with_arc c (get_or old q 0) (link_place t (arc_on c t b q))) (get_or old q 0)
      at q (passed j) = rw j (w.put q j (none q))
      at q (failed j) = rw j (w.kept q (λ i. absurd (false≢true (sym j ∙ i))))

-- ---- both chains

module _ {t : Fields} (g : Right t) {b : ℕ} {old one : List ℕ} (zeros : (q : ℕ) → get_or old q 0 ≡ 0) (f : Filled Out t b old one) where
  -- after the out-chain
  forth_cells : (q : ℕ) → q ≤ most_processes → get_or one q 0 ≡ cell_by t (arc_of t b q) 0
  forth_cells q u =
      let z : get_or old q 0 ≡ cell_by t 0 0 = zeros q ∙ sym (cell_by_none t) in
      f.cells q u ∙ rw z (forth_put t (arc_of t b q) 0 (arc_of_waits t b q))

  pub filled_room : Room one
  unfolding arc_of
  filled_room q u = rw (forth_cells q u) (cell_small t g (arc_of t b q) 0 (arc_low t b q (m_of t)) (omega arith))

  pub filled_row : {two : List ℕ} → Filled In t b one two → Row t b two
  unfolding cell_of
  filled_row s =
      record {
        long = s.long;
        cells = λ q u. s.cells q u ∙ rw (forth_cells q u) (back_put t (arc_of t b q) (arc_of t q b) (arc_of_waits t q b));
      }
