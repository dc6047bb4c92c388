-- What is known of a run that an area may hold, and that a change of one record or of the count keeps it so.
--   storable_process, storable_count   == one record or the count replaced
--   joins_low, joins_high, joins_neighbours  == whom a chain leads to is a process and a neighbour
--   father_few           == a father is at most the largest N
--   storable_size        == the run's N is its table's
--   link_right_parts, link_message   == every link of such a run holds at most 4 messages, with counts in range; the count of each is
-- Assumes nothing.
use Prim.Native.Nat.{ℕ, ◌≤◌}
use Rattle.std.proofs.Math.Bool.{Bool}
use Rattle.std.specs.Prelude.{true, ◌&&◌, List, ◌≡◌, refl, eqb, length}
use Rattle.std.proofs.Math.Path.{ap}
use Rattle.std.proofs.Common.{⊎_elim, eqb-true}
use native.Mathlib.Omega.{arith}
use Rattle.machine.specs.Machine as Machines
use Rattle.base.specs.Choice.{choose}
use Rattle.base.specs.ChoiceLaws.{and_both, or_left, or_right, or_cases, same?, tested}
use Rattle.base.specs.Checks.{Same, same, apart, Tested, passed, failed}
use Rattle.tables.specs.declared.Chain.{Chain}
use Rattle.tables.specs.declared.Chain.TheVariants.{Out, In}
use Rattle.tables.specs.Table.{Fields, n_of, most_processes}
use Rattle.tables.specs.Waits.{Waits, waits_of, neighbours}
use Rattle.tables.specs.Sound.{Sound}
use Rattle.tables.specs.WaitsLaws.{neighbours_ends}
use Rattle.tables.specs.Chains.{joins}
use Rattle.steps.specs.declared.Message.{Message}
use Rattle.steps.specs.declared.Process.{Process}
use Rattle.steps.specs.Step.{in_range, count_small}
use Rattle.machine.specs.FormedLaws.{well_formed_P}
use Rattle.machine.specs.Among.{Among}
use Rattle.machine.specs.AmongLaws.{among_right}
use Rattle.checks.specs.Run.{Run, most_deliveries, knot, father_right, counts_small}
use Rattle.areas.specs.Replaced.{put_process, put_count}
use Rattle.areas.specs.ContainedLaws.{contained_joined, contained_process, contained_count}
use Rattle.lenses.specs.Storable.{Storable}

-- ---- whom a chain leads to

pub joins_low : (c : Chain) (w : Waits) → Sound w → (b q : ℕ) → joins c w b q ≡ true → 1 ≤ q
joins_low Out w s b q e = s.to_low b q e
joins_low In w s b q e = s.from_low q b e

pub joins_high : (c : Chain) (w : Waits) → Sound w → (b q : ℕ) → joins c w b q ≡ true → q ≤ w.n
joins_high Out w s b q e = s.to_high b q e
joins_high In w s b q e = s.from_high q b e

pub joins_neighbours : (c : Chain) (w : Waits) (b q : ℕ) → joins c w b q ≡ true → neighbours w b q ≡ true
unfolding neighbours
joins_neighbours Out w b q e = or_left (w.waits b q) (w.waits q b) e
joins_neighbours In w b q e = or_right (w.waits b q) (w.waits q b) e

-- a father is a process, or 0
pub father_few : (w : Waits) → Sound w → (p : ℕ) (x : Process) → father_right w p x ≡ true → x.father ≤ most_processes
unfolding father_right
father_few w s p x h =
    ⊎_elim
    (λ (e : eqb x.father 0 ≡ true). omega (arith, eqb-true x.father 0 e))
    (λ (e : neighbours w p x.father ≡ true). omega (arith, (neighbours_ends w s p x.father e).3, s.few))
    (or_cases (eqb x.father 0) (neighbours w p x.father) h)

-- ---- one change

module _ (t : Fields) (r : Run) (f : Storable t r) where
  pub storable_size : r.waits.n ≡ n_of t
  unfolding waits_of
  storable_size = ap (λ (w : Waits). w.n) f.held.waits

  pub storable_count : (c : ℕ) → c ≤ most_deliveries → Storable t (put_count r c)
  unfolding put_count
  storable_count c u =
      let g = (well_formed_P knot r).0 f.formed in
      record {
        held = contained_count t r c f.held;
        formed =
            (well_formed_P knot (put_count r c)).1
            (record {
              room = refl;
              start_is_in = g.start_is_in;
              edition = g.edition;
              count = u;
              records = g.records;
              short = g.short;
              joined = g.joined;
              messages = g.messages;
            });
        sound = f.sound;
      }

  pub storable_process : (p : ℕ) (x : Process) → 1 ≤ p → p ≤ n_of t → in_range x ≡ true → father_right r.waits p x ≡ true → Storable t (put_process r p x)
  unfolding put_process
  storable_process p x l u i y =
      let g = (well_formed_P knot r).0 f.formed in
      record {
        held = contained_process t r p x l u f.held;
        formed =
            (well_formed_P knot (put_process r p x)).1
            (record {
              room = refl;
              start_is_in = g.start_is_in;
              edition = g.edition;
              count = g.count;
              records = λ q v. own q (same? q p) (g.records q v);
              short = g.short;
              joined = g.joined;
              messages = g.messages;
            });
        sound = f.sound;
      }
    where
      right : ℕ → Process → Bool
      right q z = in_range z && father_right r.waits q z

      own : (q : ℕ) → Same q p → right q (r.process q) ≡ true → right q (choose (eqb q p) x (r.process q)) ≡ true
      own q (same e v) h = rw (v, e) (and_both (in_range x) (father_right r.waits p x) i y)
      own q (apart e v) h = rw v h

  -- every link is in range: both ends of a link between neighbours are processes, and no other link holds a message
  pub link_right_parts : (a b : ℕ) → (length (r.link a b) ≤ 4) × (counts_small (r.link a b) ≡ true)
  unfolding Machines.all_right
  link_right_parts a b = at (tested (neighbours r.waits a b))
    where
      at : Tested (neighbours r.waits a b) → (length (r.link a b) ≤ 4) × (counts_small (r.link a b) ≡ true)
      at (passed j) =
          let g = (well_formed_P knot r).0 f.formed in
          let e = neighbours_ends r.waits f.sound a b j in
          (g.short a b (e.0, e.1) (e.2, e.3), g.messages a b (e.0, e.1) (e.2, e.3))
      at (failed j) = rw (contained_joined t r f.held a b j) (omega arith, refl)

  -- so is each message that waits on one
  pub link_message : (a b : ℕ) {m : Message} {rest : List Message} → Among m rest (r.link a b) → count_small m ≡ true
  link_message a b i = (among_right count_small i (link_right_parts a b).1).0
