-- The run of a start, as code makes it: from the quiet run the start's record, then its suc probes, then its pre probes.
--   quiet_fit, begun_fit, suc_sent_fit, start_fit   == each run on the way, and the last, is one that the area holds, and well formed
--   started_in_range, started_father, begun_room, suc_sent_room   == what the changes ask of the values
--   start_run_made     == the last is the run of `checks`' own start
--   accepted_table    == the table of accepted bytes
-- Assumes nothing.
use Rattle.std.specs.Prelude.{ℕ, ◌+◌, ◌*◌, ◌≤◌, Bool, ◌&&◌, List, [], ◌++◌, ◌≡◌, eqb, get_or, pos}
use Rattle.std.proofs.Math.Bool.{true, false}
use Rattle.std.proofs.Math.Path.{refl, fun_ext}
use Rattle.std.proofs.Common.{ap, leb-false, le-leb}
use native.Mathlib.Omega.{arith}
use Rattle.std.proofs.Math.Dec.{leb}
use Rattle.std.proofs.Math.ListN.{length, get_or-eq_default}
use Rattle.machine.specs.Machine as Machines
use Rattle.base.specs.Choice.{choose}
use Rattle.base.specs.ChoiceLaws.{tested, and_both}
use Rattle.base.specs.Checks.{Tested, passed, failed}
use Rattle.base.specs.SumLaws.{count_to_most}
use Rattle.tables.specs.declared.Chain.{Chain}
use Rattle.tables.specs.declared.Chain.TheVariants.{Out, In}
use Rattle.tables.specs.Table.{Fields, field_of, n_of, IsProcess}
use Rattle.tables.specs.Layout.{Right, MeetsLayout}
use Rattle.tables.specs.Waits.{Waits, waits_of, out_degree, in_degree}
use Rattle.tables.specs.Sound.{Sound}
use Rattle.tables.specs.WaitsLaws.{waits_of_sound}
use Rattle.tables.specs.Chains.{joins}
use Rattle.steps.specs.declared.Message.{Message}
use Rattle.steps.specs.declared.Message.TheVariants.{Suc, Pre}
use Rattle.steps.specs.Step.{most_num, in_range, small, own_count}
use Rattle.steps.specs.StepLaws.{own_count_small}
use Rattle.checks.specs.Run.{IsEdition, knot, father_right, one, started, start_run}
use Rattle.checks.specs.RunLaws.{is_edition_P}
use Rattle.areas.specs.Contained.{Shut}
use Rattle.areas.specs.Replaced.{with_links, put_process}
use Rattle.areas.specs.AreaFacts.{RightTable}
use Rattle.link_lenses.specs.Changes.{spread_to, spread}
use Rattle.lenses.specs.ChangeLaws.{joins_high, storable_process}
use Rattle.link_lenses.specs.LinkChangeLaws.{storable_spread}
use Rattle.machine.specs.FormedLaws.{well_formed_P}
use Rattle.lenses.specs.Storable.{Storable}
use Rattle.beginning.specs.Starting.{quiet, begun, suc_sent}

-- ---- the values of the start's record

pub started_in_range : (w : Waits) → Sound w → (s : ℕ) → in_range (started w s) ≡ true
unfolding in_range small started out_degree in_degree
started_in_range w d s =
    and_both (leb (out_degree w s + in_degree w s) most_num) (small (pos (own_count (out_degree w s))))
    (le-leb (out_degree w s + in_degree w s) most_num
    (omega (arith, count_to_most w.n (λ q. w.waits s q), count_to_most w.n (λ q. w.waits q s), d.few)))
    (own_count_small (out_degree w s))

pub started_father : (w v : Waits) (s : ℕ) → father_right v s (started w s) ≡ true
unfolding father_right started
started_father w v s = refl

-- ---- the run of a start

-- what stands on a link of the start, where the probes go to processes alone
made : (w : Waits) → Sound w → (s b : ℕ) (here : Bool) → choose here (one (w.waits s b) Suc ++ one (w.waits b s) Pre) [] ≡ choose (here && leb b w.n)
    (choose (here && leb b w.n) (one (w.waits s b) Suc) [] ++ one (w.waits b s) Pre) (choose (here && leb b w.n) (one (w.waits s b) Suc) [])
made w d s b false = refl
made w d s b true = at (tested (leb b w.n)) (tested (w.waits s b)) (tested (w.waits b s))
  where
    none : (c : Chain) → leb b w.n ≡ false → joins c w s b ≡ true → ⊥
    none c e j = omega (arith, leb-false b w.n e, joins_high c w d s b j)

    at : Tested (leb b w.n) → Tested (w.waits s b) → Tested (w.waits b s) → (one (w.waits s b) Suc ++ one (w.waits b s) Pre) ≡ choose (leb b w.n)
        (choose (leb b w.n) (one (w.waits s b) Suc) [] ++ one (w.waits b s) Pre) (choose (leb b w.n) (one (w.waits s b) Suc) [])
    at (passed e) _ _ = rw e
    at (failed e) (passed f) _ = absurd (none Out e f)
    at (failed e) (failed f) (passed g) = absurd (none In e g)
    at (failed e) (failed f) (failed g) = rw (e, f, g)

-- "All values 0; s gets succeeding and preceding. s sends suc to each successor, then pre to each predecessor"
pub start_run_made : (t : Fields) → Sound (waits_of t) → (s ed : ℕ) → start_run (waits_of t) s ed ≡ spread In (suc_sent t s ed) s
unfolding Machines.start_run suc_sent begun quiet put_process spread spread_to
start_run_made t d s ed =
    ap (λ (l : ℕ → ℕ → List Message). with_links (start_run (waits_of t) s ed) l) (fun_ext (λ a. fun_ext (λ b. made (waits_of t) d s b (eqb a s))))

-- ---- each run on the way

module _ (t : Fields) (right : Right t) (s : ℕ) (process : IsProcess (waits_of t).n s) (ed : ℕ) (named : IsEdition ed) where
  pub quiet_fit : Storable t (quiet t s ed)
  unfolding quiet in_range small father_right Machines.all_right
  quiet_fit =
      record {
        held = record { waits = refl; processes = λ p h. refl; links = λ a b h. refl };
        formed =
            (well_formed_P knot (quiet t s ed)).1
            (record {
              room = refl;
              start_is_in = process;
              edition = (is_edition_P ed).1 named;
              count = omega arith;
              records = λ p _. refl;
              short = λ a b _ _. omega arith;
              joined = λ a b _ _ _. refl;
              messages = λ a b _ _. refl;
            });
        sound = waits_of_sound t right;
      }

  low : 1 ≤ s
  low = process.0

  high : s ≤ n_of t
  unfolding waits_of
  high = process.1

  pub begun_fit : Storable t (begun t s ed)
  unfolding begun quiet
  begun_fit = storable_process t (quiet t s ed) quiet_fit s (started (waits_of t) s) low high (started_in_range (waits_of t) (waits_of_sound t right) s)
      (started_father (waits_of t) (waits_of t) s)

  -- no message waits
  pub begun_room : (q : ℕ) → length ((begun t s ed).link s q) ≤ 3
  unfolding begun quiet put_process
  begun_room q = omega arith

  pub suc_sent_fit : Storable t (suc_sent t s ed)
  unfolding suc_sent
  suc_sent_fit = storable_spread Out (begun t s ed) s t begun_fit (λ q l u j. begun_room q)

  -- at most one message waits
  pub suc_sent_room : (q : ℕ) → length ((suc_sent t s ed).link s q) ≤ 3
  unfolding suc_sent begun quiet put_process spread spread_to
  suc_sent_room q = at (eqb s s && leb q (waits_of t).n) ((waits_of t).waits s q)
    where
      at : (b c : Bool) → length (choose b (one c Suc) []) ≤ 3
      at true true = omega arith
      at true false = omega arith
      at false c = omega arith

  pub start_fit : Storable t (start_run (waits_of t) s ed)
  start_fit = rw (start_run_made t (waits_of_sound t right) s ed) (storable_spread In (suc_sent t s ed) s t suc_sent_fit (λ q l u j. suc_sent_room q))

-- ---- the table of accepted bytes

-- "The length is exactly 4 + 4N + 8M bytes": a table has no field past its last
field_of_shut : (bs : List ℕ) → MeetsLayout bs → Shut (field_of bs)
unfolding field_of
field_of_shut bs h j u =
    let l : length bs ≤ 2 * j = omega (arith, h.long) in
    let a : get_or bs (2 * j) 0 ≡ 0 = get_or-eq_default bs 0 {n = 2 * j} l in
    let b : get_or bs (2 * j + 1) 0 ≡ 0 = get_or-eq_default bs 0 {n = 2 * j + 1} (omega arith) in
    omega arith

pub accepted_table : (bs : List ℕ) → MeetsLayout bs → RightTable (field_of bs)
accepted_table bs h = record { right = h.right; shut = field_of_shut bs h }
