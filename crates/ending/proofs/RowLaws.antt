-- The eight rows marked P of 01, proved together, under both editions (02, N4).
--   rows_hold       == the tests of all eight rows pass: one computation over the whole table
--   row_holds       == each of the eight rows holds of the table that the writer makes of its waits, under each edition
-- Assumes nothing.
use Rattle.std.specs.Prelude.{ℕ, Bool, true, false, not, ◌&&◌, ◌≡◌, refl, eqb, ℤ, pos, negsuc, length, replicate, Result, Ok, Err}
use Rattle.std.proofs.lemmas.Bool.{false≢true}
use mathlib.Core.List.{List, [], ◌∷◌, Memᴰ}
use Rattle.std.proofs.Common.{sym, ap, ◌∙◌, ⊎_elim, eqb-true}
use Rattle.std.proofs.lemmas.List.{length-replicate}
use Rattle.base.specs.Choice.{choose}
use Rattle.base.specs.ChoiceLaws.{tested, and_left, and_right, and_three, and_four}
use Rattle.base.specs.Checks.{Tested, passed, failed}
use Rattle.base.specs.Sums.{sum_to, count_to, all_to, any_to, lowest_to}
use Rattle.refusals.specs.Numbers.{numbered}
use Rattle.tables.specs.Table.{field_of, is_process}
use Rattle.tables.specs.Waits.{Waits, waits_of, out_degree, in_degree, neighbours}
use Rattle.table_writer.specs.Writing.{end, given, ends_fit, unlike, write_number, given_waits, WrittenRight}
use Rattle.table_writer.specs.WritingLaws.{written_right}
use Rattle.machine.specs.declared.Ran.{Ran}
use Rattle.machine.specs.declared.Ran.TheVariants.{Spent}
use Rattle.machine.specs.declared.Halted.{Halted}
use Rattle.machine.specs.Machine.{all_right}
use Rattle.machine.specs.Machine as Machines
use Rattle.machine.specs.Calls.{behind, at_place, delivered, deliver, in_row, link_at, link_if, links_to, links_of, lowest, deliver_on, run_from}
use Rattle.machine.specs.Calls as MachineCalls
use Rattle.steps.specs.Step.{small, in_range, count_small, rule1, set_succeeding, set_preceding, new_subordinate, gained, rule3, rule4, acknowledged, turn}
use Rattle.steps.specs.Step.{both_small, own_count, start_turn, num_suffices, reply_fits, fitting}
use Rattle.checks.specs.declared.Verdict.{Verdict}
use Rattle.checks.specs.declared.Verdict.TheVariants.{Knot, Free}
use Rattle.checks.specs.declared.Mark.{Mark}
use Rattle.checks.specs.declared.Mark.TheVariants.{Returned, Held}
use Rattle.checks.specs.declared.Report.{Report}
use Rattle.checks.specs.Run.{Run, IsEdition, is_edition, over, father_right, well_formed, started, turn_of, reply_receiver, probes_to, sent_to}
use Rattle.checks.specs.Calls.{escape_of, verdict_of, mark_of, reported, report}
use Rattle.checks.specs.Reach.{within, reaches, reaches_by_arcs, some_by_arcs, all_reach_back, edition_allows, in_knot, outsider, outsiders, lowest_outsider, d_of}
use Rattle.checks.specs.Reach.{waits_for_some, all_wait}
use Rattle.ending.specs.Rows.{PRow, rows, waits_from, table_size, table_from, knot_under, ran_from, RowOfTable}
use Rattle.ending.specs.RowTests.{agree, is_knot, is_returned, is_at, defined, over_after, reports, runs, writable, holds_under, holds, all}

-- ---- the eight rows

rows_hold : all holds rows ≡ true
unfolding all rows holds holds_under waits_from given_waits given end writable write_number ends_fit is_process unlike agree is_knot is_returned is_at defined over_after
    reports runs d_of in_knot all_reach_back edition_allows some_by_arcs reaches_by_arcs outsiders lowest_outsider outsider all_wait waits_for_some reaches within
    sum_to count_to all_to any_to lowest_to out_degree in_degree neighbours
    MachineCalls.run_on run_from deliver_on lowest links_of links_to link_if link_at in_row behind at_place deliver delivered
    report reported verdict_of escape_of is_edition
    Machines.over Machines.well_formed father_right Machines.link_right all_right Machines.start_run started Machines.after Machines.accepts Machines.taken
    sent_to probes_to reply_receiver turn_of turn start_turn rule1 set_succeeding set_preceding new_subordinate gained rule3 rule4
    acknowledged own_count fitting num_suffices reply_fits in_range both_small small count_small
rows_hold = refl

-- ---- from tests to equations

abbrev verdict : ℕ → PRow → Verdict
verdict ed x = choose (knot_under ed x) Knot Free

abbrev mark : PRow → Mark
mark x = choose x.returned Returned Held

all_at : (p : PRow → Bool) (xs : List PRow) → all p xs ≡ true → (x : PRow) → Memᴰ x xs → p x ≡ true
unfolding all
all_at p [] h x m = elim m [ ]
all_at p (y ∷ ys) h x (Memᴰ.head e) = ap p e ∙ and_left (p y) (all p ys) h
all_at p (y ∷ ys) h x (Memᴰ.tail m) = all_at p ys (and_right (p y) (all p ys) h) x m

agree_P : (a b : Bool) → agree a b ≡ true → a ≡ b
unfolding agree
agree_P true true h = refl
agree_P true false h = sym h
agree_P false true h = h
agree_P false false h = refl

-- of two values, the one that a test names
agreed : {A : Type 0} (x y : A) (t : A → Bool) → ((v : A) → v ≡ choose (t v) x y) → (v : A) (b : Bool) → agree (t v) b ≡ true → v ≡ choose b x y
agreed x y t h v b e = h v ∙ ap (λ (c : Bool). choose c x y) (agree_P (t v) b e)

verdict_is : (v : Verdict) → v ≡ choose (is_knot v) Knot Free
unfolding is_knot
verdict_is Knot = refl
verdict_is Free = refl

mark_is : (m : Mark) → m ≡ choose (is_returned m) Returned Held
unfolding is_returned
mark_is Returned = refl
mark_is Held = refl

is_at_P : (z : ℤ) (k : ℕ) → is_at z k ≡ true → z ≡ pos k
unfolding is_at
is_at_P (pos n) k h = ap pos (eqb-true n k h)
is_at_P (negsuc n) k h = absurd (false≢true h)

over_after_P : (d : ℕ) (y : Result Ran Halted) → over_after d y ≡ true → y ≡ Ok (Ran.Over d)
unfolding over_after
over_after_P d (Ok (Ran.Over made)) h = ap (λ k. Ok (Ran.Over k)) (eqb-true made d h)
over_after_P d (Ok (Spent made)) h = absurd (false≢true h)
over_after_P d (Err x) h = absurd (false≢true h)

-- the report of a row, by its waits
abbrev reported_by : ℕ → PRow → Waits → Report
reported_by ed x w =
    record { deliveries = x.d; verdict = verdict ed x; outside = pos x.outside; escape = lowest_outsider w 1; mark = mark x }

abbrev due : ℕ → PRow → Report
due ed x = reported_by ed x (waits_from x)

reports_P : (ed : ℕ) (x : PRow) (r : Run) → reports ed x (report r) ≡ true → report r ≡ Ok (due ed x)
unfolding report reported reports
reports_P ed x r h = at (tested (well_formed r)) (tested (over r))
  where
    cs : ℤ
    cs = (r.process r.start).cs

    escape : Bool
    escape = eqb (escape_of r) (lowest_outsider (waits_from x) 1)

    -- the four tests before the mark's
    first : Bool
    first = eqb r.count x.d && agree (is_knot (verdict_of r)) (knot_under ed x) && is_at cs x.outside && escape

    marked : Mark
    marked = mark_of (r.process r.start)

    same : first ≡ true → agree (is_returned marked) x.returned ≡ true → reported r ≡ due ed x
    same f m =
        let t = and_four (eqb r.count x.d) (agree (is_knot (verdict_of r)) (knot_under ed x)) (is_at cs x.outside) escape f in
        cc (
          eqb-true r.count x.d t.0,
          agreed Knot Free is_knot verdict_is (verdict_of r) (knot_under ed x) t.1,
          is_at_P cs x.outside t.2,
          eqb-true (escape_of r) (lowest_outsider (waits_from x) 1) t.3,
          agreed Returned Held is_returned mark_is marked x.returned m,
        )

    at : Tested (well_formed r) → Tested (over r)
        → choose (not (well_formed r)) (Err (numbered 21)) (choose (not (over r)) (Err (numbered 26)) (Ok (reported r))) ≡ Ok (due ed x)
    at (failed f) _ = absurd (false≢true (rw f at h))
    at (passed f) (failed g) = absurd (false≢true (rw (f, g) at h))
    at (passed f) (passed g) =
        let k : (first && agree (is_returned marked) x.returned) ≡ true = rw (f, g) at h in
        rw (f, g) (ap Ok (same (and_left first (agree (is_returned marked) x.returned) k) (and_right first (agree (is_returned marked) x.returned) k)))

-- ---- each row

-- what the tests of a row say
record Tests (x : PRow) (ed : ℕ) : Type 0 where
  d : d_of (waits_from x) 1 ≡ x.d
  knot : in_knot (waits_from x) 1 ed ≡ knot_under ed x
  outside : outsiders (waits_from x) 1 ≡ x.outside
  returned : all_wait (waits_from x) 1 ≡ x.returned
  over : (ran_from (waits_from x) ed).answer ≡ Ok (Ran.Over x.d)
  reported : report (ran_from (waits_from x) ed).run ≡ Ok (due ed x)
  write : write_number x.n x.waits (table_size x) ≡ 0

-- under each edition
held : (x : PRow) → Memᴰ x rows → (ed : ℕ) → IsEdition ed → holds_under ed x ≡ true
unfolding holds
held x m ed named =
    ⊎_elim (λ e. rw e (and_left (holds_under 1 x) (holds_under 2 x) both)) (λ e. rw e (and_right (holds_under 1 x) (holds_under 2 x) both)) named
  where
    both : holds x ≡ true
    both = all_at holds rows rows_hold x m

tests_of : (x : PRow) (ed : ℕ) → holds_under ed x ≡ true → Tests x ed
unfolding holds_under defined runs writable
tests_of x ed h =
    let all3 = and_three (defined ed x) (runs ed x) (writable x) h in
    let ran : Bool = over_after x.d (ran_from (waits_from x) ed).answer in
    let told : Bool = reports ed x (report (ran_from (waits_from x) ed).run) in
    let t =
    and_four (eqb (d_of (waits_from x) 1) x.d) (agree (in_knot (waits_from x) 1 ed) (knot_under ed x)) (eqb (outsiders (waits_from x) 1) x.outside)
    (agree (all_wait (waits_from x) 1) x.returned) all3.0 in
    record {
      d = eqb-true _ _ t.0;
      knot = agree_P _ _ t.1;
      outside = eqb-true _ _ t.2;
      returned = agree_P _ _ t.3;
      over = over_after_P x.d (ran_from (waits_from x) ed).answer (and_left ran told all3.1);
      reported = reports_P ed x (ran_from (waits_from x) ed).run (and_right ran told all3.1);
      write = eqb-true _ _ all3.2;
    }

-- the eight rows, each of the table that the writer makes of its waits, under both editions
pub row_holds : (x : PRow) → Memᴰ x rows → (ed : ℕ) → IsEdition ed → RowOfTable x ed (table_from x)
unfolding table_from waits_from
row_holds x m ed named =
    let t : Tests x ed = tests_of x ed (held x m ed named) in
    let size : length {A = ℕ} (replicate (table_size x) 0) ≡ table_size x = length-replicate {A = ℕ} (table_size x) 0 in
    let right : WrittenRight x.n x.waits (table_from x) = written_right x.n x.waits (replicate (table_size x) 0) (rw size t.write) in
    let w : waits_of (field_of (table_from x)) ≡ waits_from x = right.waits_are in
    record {
      accepted = right.accepted;
      waits = w;
      d = ap (λ (v : Waits). d_of v 1) w ∙ t.d;
      knot = ap (λ (v : Waits). in_knot v 1 ed) w ∙ t.knot;
      outside = ap (λ (v : Waits). outsiders v 1) w ∙ t.outside;
      returned = ap (λ (v : Waits). all_wait v 1) w ∙ t.returned;
      over = ap (λ (v : Waits). (ran_from v ed).answer) w ∙ t.over;
      reported =
          ap (λ (v : Waits). report (ran_from v ed).run) w ∙ t.reported ∙
          ap (λ (v : Waits). Ok (reported_by ed x v)) (sym w);
    }
