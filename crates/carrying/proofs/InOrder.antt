-- The changes of a delivery in code: what each asks, and the area that it leaves.
--   take_asks, put_asks, reply_asks, send_asks, count_asks   == what the calls ask in their turn
--   taken_off, record_put, reply_sent, probes_sent, all_done   == the area after each, from the area before it
--   after_put, after_reply, after_probes   == the same from what the calls so far promise
-- Assumes nothing.
use Prim.Native.Nat.{ℕ, ◌+◌, ◌-◌, ◌≤◌}
use mathlib.Core.Bool.{true}
use mathlib.Core.List.{List}
use Rattle.std.specs.Prelude.{Option, Some}
use mathlib.Core.Path.{◌≡◌, sym, ap, ◌∙◌, subst}
use native.Mathlib.Omega.{arith}
use lib.IntN.{ℤ}
use lib.ListN.{length}
use Rattle.tables.specs.Table.{Fields}
use Rattle.tables.specs.declared.Chain.{Chain}
use Rattle.tables.specs.Waits.{neighbours}
use Rattle.tables.specs.Chains.{joins}
use Rattle.steps.specs.declared.Process.{Process}
use Rattle.steps.specs.declared.Probes.{Probes}
use Rattle.steps.specs.declared.Reply.{Reply}
use Rattle.steps.specs.Step.{in_range, reply_fits}
use Rattle.checks.specs.Run.{Run, most_deliveries, father_right}
use Rattle.areas.specs.Used.{link_slots}
use Rattle.areas.specs.Area.{fields_in, run_in, keeping}
use Rattle.areas.specs.Replaced.{put_process, put_count}
use Rattle.areas.specs.Squares.{Linked, Row}
use Rattle.tables.specs.declared.Sizes.{Sizes}
use Rattle.lenses.specs.Ready.{Ready}
use Rattle.link_lenses.specs.Changes.{answered, off, Spreadable, Answerable}
use Rattle.lenses.specs.Storable.{Storable}
use Rattle.lenses.specs.ReadyLaws.{right_storable, keeping_fields, run_in_few, ready_n}
use Rattle.preparing.specs.Receiving.{probes_of}
use Rattle.carrying.specs.Carrying.{spread_by, changed, carried_out, Carried}
use Rattle.carrying.specs.CarryLaws.{carried_ends, storable_off, off_father, storable_changed, reply_room, storable_replied, probes_room}
use Rattle.carrying.specs.CarryLaws.{storable_sent, carried_count, storable_carried}
use Rattle.lenses.proofs.Holding.{Holding, holding_run, holding_ready, holding_next}

module _ {w : List ℤ} {s : Sizes} (y : Ready w s) {a b i : ℕ} {x : Process} {p : Probes} {z : Option Reply} (k : Carried (run_in w) a b i x p z) where
  abbrev r : Run
  r = run_in w

  f : Storable (fields_in w) r
  f = right_storable w y.right

  between : (1 ≤ b) × (b ≤ s.n)
  between = let e = carried_ends (fields_in w) r f a b i x p z k in (e.2, omega (arith, e.3, ready_n y))

  -- the row of b stays what it is
  row_kept : {row : List ℕ} → Row (fields_in w) b row → {v : List ℤ} {q : Run} → Holding w v q → Row (fields_in v) b row
  row_kept {row} g h = subst (λ (t : Fields). Row t b row) (sym (ap fields_in h.is ∙ keeping_fields w y.right _ h.fit)) g

  pub take_asks : {j : ℕ} → Linked (fields_in w) a b j → Ready w s × (Linked (fields_in w) a b j × ((1 ≤ i) × (i ≤ link_slots)))
  take_asks l = (y, (l, (k.placed.0, omega (arith, k.placed.1, run_in_few w a b))))

  pub taken_off : {u : List ℤ} → u ≡ keeping w (off r a b i) → Holding w u (off r a b i)
  taken_off e = record { is = e; fit = storable_off (fields_in w) r f a b i x p z k }

  module _ {v : List ℤ} (h : Holding w v (off r a b i)) where
    pub put_asks : Ready v s × (((1 ≤ b) × (b ≤ s.n)) × ((in_range x ≡ true) × (father_right (run_in v).waits b x ≡ true)))
    put_asks =
        (holding_ready y h, (between, (k.range, rw (holding_run y h) (off_father (fields_in w) r f a b i x p z k))))

    pub record_put : {u : List ℤ} → u ≡ keeping v (put_process (run_in v) b x) → Holding w u (changed r a b i x)
    record_put e = holding_next y h (λ q. put_process q b x) e (storable_changed (fields_in w) r f a b i x p z k)

  module _ {v : List ℤ} (h : Holding w v (changed r a b i x)) where
    pub reply_asks : {row : List ℕ} → Row (fields_in w) b row → Ready v s
        × (((1 ≤ b) × (b ≤ s.n)) × (Row (fields_in v) b row × ((reply_fits z ≡ true) × Answerable (run_in v) s.n b z)))
    reply_asks g =
        (holding_ready y h, (between, (row_kept g h, (k.replies, rw (holding_run y h) room))))
      where
        room : (t : Reply) → z ≡ Some t → (t.to ≤ s.n)
            × (neighbours (changed r a b i x).waits b t.to ≡ true) × (length ((changed r a b i x).link b t.to) ≤ link_slots - 1)
        room t e = let g = reply_room (fields_in w) r f a b i x p z k t e in (omega (arith, g.0, ready_n y), g.1, g.2)

    pub reply_sent : {u : List ℤ} → u ≡ keeping v (answered (run_in v) b z) → Holding w u (answered (changed r a b i x) b z)
    reply_sent e = holding_next y h (λ q. answered q b z) e (storable_replied (fields_in w) r f a b i x p z k)

  module _ {v : List ℤ} (h : Holding w v (answered (changed r a b i x) b z)) where
    pub send_asks : {row : List ℕ} → Row (fields_in w) b row → Ready v s
        × (((1 ≤ b) × (b ≤ s.n)) × (Row (fields_in v) b row × ((c : Chain) → p ≡ probes_of c → Spreadable c (run_in v) s.n b)))
    send_asks g =
        (holding_ready y h, (between, (row_kept g h, rw (holding_run y h) room)))
      where
        room : (c : Chain) → p ≡ probes_of c → (q : ℕ) → 1 ≤ q → q ≤ s.n → joins c (answered (changed r a b i x) b z).waits b q ≡ true
            → length ((answered (changed r a b i x) b z).link b q) ≤ link_slots - 1
        room c e q l u j = probes_room (fields_in w) r f a b i x p z k c e q l (omega (arith, ready_n y)) j

    pub probes_sent : {u : List ℤ} → u ≡ keeping v (spread_by p (run_in v) b) → Holding w u (spread_by p (answered (changed r a b i x) b z) b)
    probes_sent e = holding_next y h (λ q. spread_by p q b) e (storable_sent (fields_in w) r f a b i x p z k)

  module _ {v u : List ℤ} (e : v ≡ keeping w (off r a b i)) (f : u ≡ keeping v (put_process (run_in v) b x)) where
    pub after_put : Holding w u (changed r a b i x)
    after_put = record_put (taken_off e) f

    module _ {t : List ℤ} (g : t ≡ keeping u (answered (run_in u) b z)) where
      pub after_reply : Holding w t (answered (changed r a b i x) b z)
      after_reply = reply_sent after_put g

      pub after_probes : {q : List ℤ} → q ≡ keeping t (spread_by p (run_in t) b) → Holding w q (spread_by p (answered (changed r a b i x) b z) b)
      after_probes h = probes_sent after_reply h

  module _ {v : List ℤ} (h : Holding w v (spread_by p (answered (changed r a b i x) b z) b)) {c : ℕ} (g : c ≡ (run_in v).count) where
    pub count_asks : Ready v s × (c + 1 ≤ most_deliveries)
    count_asks =
        (holding_ready y h, rw (g, holding_run y h) (carried_count (fields_in w) r f a b i x p z k))

    pub all_done : {u : List ℤ} → u ≡ keeping v (put_count (run_in v) (c + 1)) → u ≡ keeping w (carried_out r a b i x p z)
    unfolding carried_out
    all_done e =
        (holding_next y h (λ q. put_count q (q.count + 1)) (rw g at e) (storable_carried (fields_in w) r f a b i x p z k)).is
