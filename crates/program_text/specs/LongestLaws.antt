-- How long the program's output is at most, where each byte of the input is below 256.
--   named_small         == the number of every refusal has at most two digits
--   number_small        == the number of a refused input has at most two digits
--   pick_short, picks_short   == the line of a pick, and the lines of all
--   own_short, owns_short     == the line of a delivery of the program's own, and the lines of all
--   processes_short, report_short   == the lines of the processes, and of the report
--   program_short       == no output is longer than the longest
-- Assumes nothing.
use Prim.Native.Nat.{ℕ, zero, suc, ◌+◌, ◌*◌, ◌≤◌, ◌<◌}
use Rattle.std.specs.Prelude.{Bool, false, ◌≡◌, ℤ, pos, drop, get_or, Result}
use Rattle.refusals.specs.declared.Refusal.{Refusal}
use Rattle.refusals.specs.declared.Refusal.TheVariants.{TableShort, Sizes, TableLength, Ends, ChainField, Chain, ArcTwice, Process, AreaShort, ListOdd, OutputShort, BytesLeft, InputLong}
use Rattle.refusals.specs.declared.Refusal.TheVariants.{NotWellFormed, OutOfRange, Over, NoMessage, NoLink, NotOver, Edition, Place, Seed}
use Rattle.refusals.specs.Numbers.{number}
use Rattle.std.proofs.Math.Bool.{true}
use mathlib.Core.List.{List, [], ◌∷◌}
use Rattle.std.proofs.Common.{inl, inr, get_or-drop}
use Rattle.std.proofs.Math.Path.{refl, ap}
use native.Mathlib.Omega.{arith}
use Rattle.std.proofs.Math.ListN.{length, length-append}
use Rattle.std.proofs.lemmas.List.{length-replicate}
use Rattle.base.specs.Choice.{choose}
use Rattle.base.specs.ChoiceLaws.{same?, tested, and_left}
use Rattle.base.specs.Checks.{Same, same, apart, Tested, passed, failed}
use Rattle.base.specs.SumLaws.{sum_to_most, count_to_most, lowest_to_P}
use Rattle.base.specs.Sums.{lowest_to, Lowest, at_first, at_none}
use Rattle.tables.specs.Table.{Fields, field_of, n_of, m_of, arc_at, most_processes, most_arcs}
use Rattle.tables.specs.TableLaws.{field_of_small}
use Rattle.tables.specs.Waits.{Waits, waits_of, neighbours}
use Rattle.tables.specs.WaitsLaws.{neighbours_ends}
use Rattle.machine.specs.Machine as Machines
use Rattle.machine.specs.Calls as MachineCalls
use Rattle.machine.specs.Calls.{Answer, given, refusal, Selection, nobody, pair, lowest}
use Rattle.machine.specs.FormedLaws.{well_formed_P}
use Rattle.machine.specs.LinkListLaws.{in_row_length}
use Rattle.machine.specs.Lists.{in_turn}
use Rattle.steps.specs.declared.Message.{Message}
use Rattle.steps.specs.Step.{count_small}
use Rattle.checks.specs.Run.{Run, knot, over, counts_small}
use Rattle.checks.specs.RunLaws.{formed_range}
use Rattle.checks.specs.declared.Verdict.TheVariants.{Knot, Free}
use Rattle.checks.specs.declared.Mark.TheVariants.{Returned, Held}
use Rattle.checks.specs.Calls.{pick, report, delivery_of, deliver_on}
use Rattle.checks.specs.Reach.{reaches, in_knot, outsider, outsiders, lowest_outsider, all_wait, d_of}
use Rattle.ending.specs.DemandLaws.{d_of_arcs}
use Rattle.ending.specs.SpreadEndLaws.{d_of_most}
use Rattle.areas.specs.Places.{area_length}
use Rattle.lenses.specs.Storable.{Storable}
use Rattle.lenses.specs.ChangeLaws.{link_right_parts}
use Rattle.delivery.specs.StorableLaws.{storable_pick, storable_on, storable_run_on}
use Rattle.choosing.specs.declared.ChosenDelivery.{ChosenDelivery}
use Rattle.choosing.specs.Answers.{chosen_answer}
use Rattle.choosing.specs.OrderLaws.{lowest_names}
use Rattle.inputs.specs.Input.{longest, table_end, table_in, picks_in, input_number, FirstMet, row_13, row_1, row_2, row_3, row_12, no_row}
use Rattle.inputs.specs.Input.{pick_from, pick_to, start_in, edition_in, begun_number, ThenMet}
use Rattle.inputs.specs.InputLaws.{first_P, then_4_to_8_30, table_field, begun_started}
use Rattle.lines.specs.Text.{delivery_line, process_line}
use Rattle.lines.specs.LengthLaws.{delivery_most, refused_pick_most, refused_most, process_most, report_most}
use Rattle.program_text.specs.Program.{enough, number_in, first_run, pick_line, picks_text, own_line, next_chosen, own_text, processes_text}
use Rattle.program_text.specs.Program.{pick_calls, picked_run, end_run, report_lines, end_text, rest_text, check_text, program_text}
use Rattle.program_text.specs.Longest.{pick_room, own_room, process_room, report_room, longest_output}
use Rattle.program_text.specs.ProgramLaws.{program_refused, program_begun, program_own, program_report, fits, table_right, table_sound}
use Rattle.program_text.specs.Own.{OwnLines, no_line, one_line}

-- ---- the numbers of refusals

pub named_small : (e : Refusal) → number e < 100
named_small TableShort = omega arith
named_small Sizes = omega arith
named_small TableLength = omega arith
named_small Ends = omega arith
named_small ChainField = omega arith
named_small Chain = omega arith
named_small ArcTwice = omega arith
named_small Process = omega arith
named_small AreaShort = omega arith
named_small ListOdd = omega arith
named_small OutputShort = omega arith
named_small BytesLeft = omega arith
named_small InputLong = omega arith
named_small NotWellFormed = omega arith
named_small OutOfRange = omega arith
named_small Over = omega arith
named_small NoMessage = omega arith
named_small NoLink = omega arith
named_small NotOver = omega arith
named_small Edition = omega arith
named_small Place = omega arith
named_small Seed = omega arith

-- ---- the number of a refused input

module _ (bs : List ℕ) where
  pub number_small : number_in bs < 100
  unfolding begun_number
  number_small = at (same? (input_number bs) 0)
    where
      first : {r : ℕ} → FirstMet bs r → r < 100
      first (row_13 h) = omega arith
      first (row_1 l h) = omega arith
      first (row_2 l u d) = omega arith
      first (row_3 l u s h) = omega arith
      first (row_12 l s h k) = omega arith
      first (no_row l s f) = omega arith

      after : {r : ℕ} → ThenMet r → r < 100
      after (inl (inl e)) = omega arith
      after (inl (inr e)) = omega (arith, e.1)
      after (inr e) = omega arith

      at : Same (input_number bs) 0 → number_in bs < 100
      at (same e q) = rw q (after (then_4_to_8_30 bs e (start_in bs) (edition_in bs) enough (omega (arith, length-replicate {A = ℤ} (area_length most_processes most_arcs) (pos 0)))))
      at (apart d q) = rw q (first ((first_P bs (input_number bs)).0 refl))

-- ---- one delivery

-- what an answer may hold: a message between processes with its counts in range, or a number of two digits
abbrev Fine : ℕ → ℕ → Answer Message → Type 0
Fine a b (given m) = (a ≤ most_processes) × (b ≤ most_processes) × (count_small m ≡ true)
Fine a b (refusal e) = number e < 100

module _ {t : Fields} {r : Run} (f : Storable t r) where
  deliver_fine : (a b : ℕ) → a ≤ most_processes → b ≤ most_processes → (ms : List Message) → counts_small ms ≡ true
      → Fine a b (MachineCalls.deliver knot r a b 1 ms).answer
  unfolding MachineCalls.deliver MachineCalls.delivered MachineCalls.at_place MachineCalls.behind Machines.all_right
  deliver_fine a b l u [] e = omega arith
  deliver_fine a b l u (m ∷ ms) e = at (tested (Machines.accepts knot r a b m ms))
    where
      at : Tested (Machines.accepts knot r a b m ms) → Fine a b (MachineCalls.delivered knot r a b (MachineCalls.cut m ms)).answer
      at (passed g) = rw g (l, u, and_left (count_small m) (counts_small ms) e)
      at (failed g) = rw g (omega arith)

  link_fine : (a b : ℕ) → a ≤ most_processes → b ≤ most_processes → Fine a b (MachineCalls.deliver knot r a b 1 (r.link a b)).answer
  link_fine a b l u = deliver_fine a b l u (r.link a b) (link_right_parts t r f a b).1

  pick_fine : (a b : ℕ) → Fine a b (MachineCalls.pick knot r a b 1).answer
  unfolding MachineCalls.pick
  pick_fine a b = at (tested (neighbours r.waits a b)) (tested (over r))
    where
      at : Tested (neighbours r.waits a b) → Tested (over r) → Fine a b (MachineCalls.pick knot r a b 1).answer
      at (failed n) _ = rw (f.formed, n) (omega arith)
      at (passed n) (passed o) = rw (f.formed, n, o) (omega arith)
      at (passed n) (failed o) =
          let e = neighbours_ends r.waits f.sound a b n in
          rw (f.formed, n, o) (link_fine a b (omega (arith, e.1, f.sound.few)) (omega (arith, e.3, f.sound.few)))

  pub pick_short : (a b : ℕ) → a < 65536 → b < 65536 → length (pick_line a b (pick r a b 1).answer) ≤ pick_room
  pick_short a b l u = at (MachineCalls.pick knot r a b 1).answer (pick_fine a b)
    where
      at : (x : Answer Message) → Fine a b x → length (pick_line a b (delivery_of x)) ≤ pick_room
      at (given m) h = omega (arith, delivery_most false a b m h.0 h.1 h.2)
      at (refusal e) h = refused_pick_most a b (number e) l u h

  pub own_short : length (own_line (next_chosen r)) ≤ own_room
  unfolding MachineCalls.deliver_on
  own_short = on (lowest r) refl
    where
      at : (a b : ℕ) (x : Answer Message) → Fine a b x → length (own_line (chosen_answer (pair a b) (delivery_of x))) ≤ own_room
      at a b (given m) h = omega (arith, delivery_most true a b m h.0 h.1 h.2)
      at a b (refusal e) h = omega (arith, refused_most (number e) h)

      on : (c : Selection) → lowest r ≡ c → length (own_line (chosen_answer c (deliver_on r c).answer)) ≤ own_room
      on nobody e = omega (arith, refused_most 24 (omega arith))
      on (pair a b) e =
          let p = lowest_names r a b e in
          at a b (MachineCalls.deliver knot r a b 1 (r.link a b)).answer (link_fine a b (omega (arith, p.0.1, f.sound.few)) (omega (arith, p.1.1, f.sound.few)))

-- ---- all of them

module _ (bs : List ℕ) (small : (i : ℕ) → get_or bs i 0 < 256) (t : Fields) where
  -- a field of the picks is a number of 16 bits
  pick_number : (j : ℕ) → field_of (drop (table_end bs) bs) j < 65536
  pick_number j = field_of_small (drop (table_end bs) bs) (λ i. rw (get_or-drop (table_end bs) bs i 0) (small (table_end bs + i))) j

  pub picks_short : (j k : ℕ) (r : Run) → Storable t r → length (picks_text bs j k r) ≤ pick_room * k
  unfolding picks_text pick_from pick_to
  picks_short j zero r f = omega arith
  picks_short j (suc k) r f =
      let a = pick_from bs j in
      let b = pick_to bs j in
      let line : List ℕ = pick_line a b (pick r a b 1).answer in
      let rest : List ℕ = picks_text bs (suc j) k (pick r a b 1).run in
      omega (
        arith,
        length-append line rest,
        pick_short f a b (pick_number (2 * j)) (pick_number (2 * j + 1)),
        picks_short (suc j) k (pick r a b 1).run (storable_pick t r f a b 1),
      )

-- each line is short
pub owns_short : {t : Fields} {i n : ℕ} {r q : Run} {l : List ℕ} → OwnLines i n r q l → Storable t r → length l + own_room * i ≤ own_room * n
owns_short (no_line o) f = omega arith
owns_short {t} {r = r} (one_line {t = rest} a b m o e more) f =
    let fits_next = storable_on t r f (lowest r) (λ a b q. let i = lowest_names r a b q in (i.0, i.1)) in
    omega (
      arith,
      length-append (delivery_line true a b m) rest,
      ap (λ (d : Result ChosenDelivery Refusal). length (own_line d)) e,
      own_short f,
      owns_short more fits_next,
    )

-- ---- the processes and the report

module _ {t : Fields} {r : Run} (f : Storable t r) where
  pub processes_short : length (processes_text r) ≤ process_room * r.waits.n
  unfolding processes_text
  processes_short =
      let g = (well_formed_P knot r).0 f.formed in
      let each = sum_to_most r.waits.n process_room (λ p. length (process_line p (r.process p)))
      (λ p l u. process_most (r.process p) (formed_range g p (l, u)) p (omega (arith, f.sound.few))) in
      omega (arith, in_row_length r.waits.n (λ p. process_line p (r.process p)))

lowest_few : (n : ℕ) (p : ℕ → Bool) → lowest_to n p ≤ n
lowest_few n p = at (lowest_to_P n p (λ k. p k ≡ true) (λ k l u. (λ e. e, λ e. e)))
  where
    at : {e : ℕ} → Lowest (λ k. p k ≡ true) n e → e ≤ n
    at (at_first l u q none) = u
    at (at_none none) = omega arith

-- ---- the whole

module _ (bs : List ℕ) (e : number_in bs ≡ 0) where
  abbrev t : Fields
  t = field_of (table_in bs)

  abbrev d : ℕ
  d = d_of (waits_of t) (start_in bs)

  fits_end : Storable t (end_run (picked_run bs))
  fits_end = storable_run_on t knot.most (picked_run bs) (fits bs e (pick_calls bs))

  -- D is at most four times the number of arcs
  d_few : d ≤ 4 * m_of t
  d_few =
      omega (
        arith,
        d_of_arcs t (table_right bs e) (start_in bs),
        count_to_most (m_of t) (λ k. reaches (waits_of t) (start_in bs) (arc_at t k).from),
        count_to_most (m_of t) (λ k. reaches (waits_of t) (arc_at t k).to (start_in bs)),
      )

  own_few : length (own_text knot.most (picked_run bs)) ≤ own_room * d
  own_few = omega (arith, owns_short (program_own bs e) (fits bs e (pick_calls bs)))

  size : (end_run (picked_run bs)).waits.n ≡ n_of t
  unfolding waits_of
  size = ap (λ (w : Waits). w.n) fits_end.held.waits

  report_short : length (report_lines (report (end_run (picked_run bs)))) ≤ report_room
  unfolding outsiders lowest_outsider waits_of
  report_short =
      let sd = table_sound bs e in
      let w = waits_of t in
      let s = start_in bs in
      rw (program_report bs e)
      (report_most d (choose (in_knot w s (edition_in bs)) Knot Free) (pos (outsiders w s)) (lowest_outsider w s) (choose (all_wait w s) Returned Held)
      (d_of_most w s sd) (omega (arith, count_to_most w.n (outsider w s), sd.few)) (omega (arith, lowest_few w.n (outsider w s), sd.few)))

  -- N, M and the number of picks, by the length of the input
  sizes : (n_of t ≤ most_processes) × (m_of t ≤ most_arcs) × (8 + 4 * n_of t + 8 * m_of t + 4 * picks_in bs ≤ longest)
  unfolding table_end
  sizes = at ((first_P bs 0).0 (begun_started bs enough e).0)
    where
      at : FirstMet bs 0 → (n_of t ≤ most_processes) × (m_of t ≤ most_arcs) × (8 + 4 * n_of t + 8 * m_of t + 4 * picks_in bs ≤ longest)
      at (no_row l s f) =
          let n = table_field bs 0 (omega arith) in
          let m = table_field bs 1 (omega arith) in
          (omega arith, omega arith, omega arith)

  check_short : ((i : ℕ) → get_or bs i 0 < 256) → length (check_text bs) ≤ longest_output
  unfolding check_text rest_text end_text in_turn
  check_short small =
      let picks = picks_short bs small t 0 (picks_in bs) (first_run bs) (fits bs e []) in
      simp length-append (omega (arith, picks, own_few, d_few, processes_short fits_end, size, report_short, sizes))

pub program_short : (bs : List ℕ) → ((i : ℕ) → get_or bs i 0 < 256) → length (program_text bs) ≤ longest_output
program_short bs small = at (same? (number_in bs) 0)
  where
    at : Same (number_in bs) 0 → length (program_text bs) ≤ longest_output
    at (same e _) = rw (program_begun bs e) (check_short bs e small)
    at (apart d _) = rw (program_refused bs refl d) (omega (arith, refused_most (number_in bs) (number_small bs)))
