-- What is read from an area that holds a table and a run is that table and that run.
--   fields_in_stored     == the table
--   run_in_stored        == the run
-- Assumes nothing.
use Rattle.std.specs.Prelude.{ℕ, zero, suc, ◌+◌, ◌*◌, ◌/◌, ◌%◌, ◌≤◌, ◌<◌, true, List, [], ◌∷◌, ◌≡◌, refl, length, get_or, ℤ, pos}
use Rattle.std.proofs.Math.Path.{sym, ap, fun_ext}
use Rattle.std.proofs.Common.{ap₂, ◌∙◌, arith, lt-ltb, le-ltb, ne_eqb}
use Rattle.std.proofs.Math.IntN.{nat_abs}
use Rattle.machine.specs.Machine as Machines
use Rattle.tables.specs.TableLaws.{is_process_P}
use Rattle.base.specs.Choice.{choose}
use Rattle.base.specs.ChoiceLaws.{tested, below?, and_left, and_right}
use Rattle.base.specs.Checks.{Tested, passed, failed, Below, below, beyond}
use Rattle.tables.specs.Table.{Fields, n_of, IsProcess, is_process}
use Rattle.tables.specs.Waits.{Waits, waits_of, neighbours}
use Rattle.tables.specs.Layout.{Right}
use Rattle.tables.specs.WaitsLaws.{waits_of_sound, neighbours_ends}
use Rattle.machine.specs.Formed.{Formed}
use Rattle.machine.specs.FormedLaws.{well_formed_P}
use Rattle.steps.specs.declared.Message.{Message}
use Rattle.steps.specs.declared.Process.{Process}
use Rattle.steps.specs.Step.{count_small, idle}
use Rattle.steps.specs.Effect.{RecordInRange}
use Rattle.steps.specs.StepLaws.{in_range_P}
use Rattle.checks.specs.Run.{Run, knot, counts_small, well_formed}
use Rattle.checks.specs.RunLaws.{formed_range}
use Rattle.areas.specs.Places.{start_place, count_place, edition_place, field_place, flags_place, cs_place, num_place, father_place, second_place}
use Rattle.areas.specs.Used.{link_slots}
use Rattle.areas.specs.Used.{record_used}
use Rattle.areas.specs.Area.{field_total_of, record_place, link_of, flags_of, record_word, code_of, slot_word, link_word, stored, number_at}
use Rattle.areas.specs.Area.{fields_in, record_at, messages_at, run_in}
use Rattle.areas.specs.Contained.{cut, Shut, Contained}
use Rattle.areas.specs.CodeLaws.{code_of_some, message_of_code_of, link_word_slot}
use Rattle.areas.specs.StoredLaws.{stored_start_word, stored_edition_word, stored_count_word, stored_field_word, stored_record_word, stored_link_word}

-- ---- the table

-- fields that agree up to the last of t, cut there, are t
cut_same : (u t : Fields) → Shut t → ((j : ℕ) → j < field_total_of t → u j ≡ t j) → cut u ≡ t
unfolding cut
cut_same u t s h = fun_ext (λ j. at j (below? j (field_total_of t)))
  where
    count : field_total_of u ≡ field_total_of t
    count = omega (arith, h 0 (omega arith), h 1 (omega arith))

    at : (j : ℕ) → Below j (field_total_of t) → cut u j ≡ t j
    at j (below l _) = rw (lt-ltb j (field_total_of u) (omega (arith, count))) (h j l)
    at j (beyond l _) = rw (le-ltb j (field_total_of u) (omega (arith, count))) (sym (s j l))

pub fields_in_stored : (t : Fields) (r : Run) (w : List ℤ) → Shut t → fields_in (stored t r w) ≡ t
unfolding fields_in cut
fields_in_stored t r w s =
    cut_same (λ j. number_at (stored t r w) (field_place j)) t s (λ j h. ap nat_abs (stored_field_word t r w j (pos 0) h))

-- ---- the run, for a table at hand

-- the record of p, and the link from a to b, in the words w of an area whose table has the fields t
unfoldable process_in : Fields → List ℤ → ℕ → Process
process_in t w p = choose (is_process (n_of t) p) (record_at w (record_place t p)) idle

unfoldable link_in : Fields → List ℤ → ℕ → ℕ → List Message
link_in t w a b = choose (neighbours (waits_of t) a b) (messages_at w (link_of t a b) link_slots) []

unfoldable run_of : Fields → List ℤ → Run
run_of t w =
    record {
      waits = waits_of t;
      start = number_at w start_place;
      edition = number_at w edition_place;
      count = number_at w count_place;
      process = process_in t w;
      link = link_in t w;
    }

run_in_run_of : (w : List ℤ) → run_in w ≡ run_of (fields_in w) w
unfolding run_in run_of process_in link_in
run_in_run_of w = refl

-- ---- a record is read back

-- "0 or 1 each": three flags in one word
flags_succeeding : (s p u f : ℕ) → s ≤ 1 → f ≡ s + 2 * p + 4 * u → f % 2 ≡ s
flags_succeeding s p u f a e = omega arith

flags_preceding : (s p u f : ℕ) → s ≤ 1 → p ≤ 1 → f ≡ s + 2 * p + 4 * u → f / 2 % 2 ≡ p
flags_preceding s p u f a b e = omega arith

flags_subordinate : (s p u f : ℕ) → s ≤ 1 → p ≤ 1 → u ≤ 1 → f ≡ s + 2 * p + 4 * u → f / 4 % 2 ≡ u
flags_subordinate s p u f a b c e = omega arith

record_at_of : (w : List ℤ) (k : ℕ) (x : Process) → RecordInRange x → ((j : ℕ) → j < record_used → get_or w (k + j) (pos 0) ≡ record_word x j) → record_at w k ≡ x
unfolding flags_of
record_at_of w k x g h =
    let v : ℕ = number_at w (k + flags_place) in
    let f : v ≡ x.succeeding + 2 * x.preceding + 4 * x.subordinate = ap nat_abs (h flags_place (omega arith)) in
    let s : v % 2 ≡ x.succeeding = flags_succeeding x.succeeding x.preceding x.subordinate v g.succeeding f in
    let p : v / 2 % 2 ≡ x.preceding = flags_preceding x.succeeding x.preceding x.subordinate v g.succeeding g.preceding f in
    let u : v / 4 % 2 ≡ x.subordinate = flags_subordinate x.succeeding x.preceding x.subordinate v g.succeeding g.preceding
    g.subordinate f in
    let c : get_or w (k + cs_place) (pos 0) ≡ x.cs = h cs_place (omega arith) in
    let n : number_at w (k + num_place) ≡ x.num = ap nat_abs (h num_place (omega arith)) in
    let d : number_at w (k + father_place) ≡ x.father = ap nat_abs (h father_place (omega arith)) in
    let e : get_or w (k + second_place) (pos 0) ≡ x.second = h second_place (omega arith) in
    λ i. record { succeeding = s i; preceding = p i; subordinate = u i; cs = c i; num = n i; father = d i; second = e i }

-- ---- a link is read back

messages_at_of : (ms : List Message) (w : List ℤ) (i k : ℕ) → length ms ≤ k → counts_small ms ≡ true
    → ((j : ℕ) → j < k → get_or w (i + j) (pos 0) ≡ slot_word ms j) → messages_at w i k ≡ ms
unfolding messages_at slot_word Machines.all_right
messages_at_of [] w i zero l c h = refl
messages_at_of (m ∷ ms) w i zero l c h = absurd (omega arith)
messages_at_of [] w i (suc k) l c h =
    let z : i + 0 ≡ i = omega arith in
    let e : get_or w i (pos 0) ≡ pos 0 = rw z at (h 0 (omega arith)) in
    rw e
messages_at_of (m ∷ ms) w i (suc k) l c h =
    let z : i + 0 ≡ i = omega arith in
    let e : get_or w i (pos 0) ≡ code_of m = rw z at (h 0 (omega arith)) in
    let a : count_small m ≡ true = and_left (count_small m) (counts_small ms) c in
    rw (e, ne_eqb (nat_abs (code_of m)) 0 (code_of_some m a))
    (ap₂ ◌∷◌ (message_of_code_of m a) (messages_at_of ms w (suc i) k (omega arith) (and_right (count_small m) (counts_small ms) c) (λ j u. shift j u)))
  where
    shift : (j : ℕ) → j < k → get_or w (suc i + j) (pos 0) ≡ slot_word ms j
    shift j u =
        let e : suc i + j ≡ i + suc j = omega arith in
        rw e (h (suc j) (omega arith))

-- ---- a run is read back

module _ (t : Fields) (s : Right t) (r : Run) (w : List ℤ) (g : Contained t r) (f : Formed knot r) where
  size : r.waits.n ≡ n_of t
  unfolding waits_of
  size = ap (λ (v : Waits). v.n) g.waits

  process_in_stored : (p : ℕ) → process_in t (stored t r w) p ≡ r.process p
  unfolding process_in
  process_in_stored p = at (tested (is_process (n_of t) p))
    where
      at : Tested (is_process (n_of t) p) → process_in t (stored t r w) p ≡ r.process p
      at (failed e) = rw e (sym (g.processes p e))
      at (passed e) =
          let i : IsProcess (n_of t) p = (is_process_P (n_of t) p).0 e in
          rw e
          (record_at_of (stored t r w) (record_place t p) (r.process p)
          (in_range_P (r.process p) (formed_range f p (i.0, rw size i.1)))
          (λ j h. stored_record_word t r w p j (pos 0) i.0 i.1 (omega arith)))

  link_in_stored : (a b : ℕ) → link_in t (stored t r w) a b ≡ r.link a b
  unfolding link_in link_word
  link_in_stored a b = at (tested (neighbours (waits_of t) a b))
    where
      at : Tested (neighbours (waits_of t) a b) → link_in t (stored t r w) a b ≡ r.link a b
      at (failed e) = rw e (sym (g.links a b e))
      at (passed e) =
          let m = neighbours_ends (waits_of t) (waits_of_sound t s) a b e in
          let pa : IsProcess r.waits.n a = (m.0, rw g.waits m.1) in
          let pb : IsProcess r.waits.n b = (m.2, rw g.waits m.3) in
          rw e
          (messages_at_of (r.link a b) (stored t r w) (link_of t a b) link_slots (f.short a b pa pb) (f.messages a b pa pb)
          (λ j h. stored_link_word t r w a b j (pos 0) e (omega arith) ∙ link_word_slot (r.link a b) j h))

  run_of_stored : run_of t (stored t r w) ≡ r
  unfolding run_of
  run_of_stored =
      let a : waits_of t ≡ r.waits = sym g.waits in
      let b : number_at (stored t r w) start_place ≡ r.start = ap nat_abs (stored_start_word t r w (pos 0)) in
      let c : number_at (stored t r w) count_place ≡ r.count = ap nat_abs (stored_count_word t r w (pos 0)) in
      let v : number_at (stored t r w) edition_place ≡ r.edition = ap nat_abs (stored_edition_word t r w (pos 0)) in
      let d : process_in t (stored t r w) ≡ r.process = fun_ext process_in_stored in
      let e : link_in t (stored t r w) ≡ r.link = fun_ext (λ x. fun_ext (link_in_stored x)) in
      λ i. record { waits = a i; start = b i; edition = v i; count = c i; process = d i; link = e i }

pub run_in_stored : (t : Fields) (r : Run) (w : List ℤ) → Right t → Shut t → Contained t r → well_formed r ≡ true → run_in (stored t r w) ≡ r
run_in_stored t r w s h g e =
    run_in_run_of (stored t r w)
    ∙ ap (λ (u : Fields). run_of u (stored t r w)) (fields_in_stored t r w h)
    ∙ run_of_stored t s r w g ((well_formed_P knot r).0 e)
