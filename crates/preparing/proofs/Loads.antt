-- Room on the receiver's links, of which only those on which the step sends something are looked at.
--   reply_length, probes_length   == how many acknowledgements and probes of a step go to q
--   test_one, test_none   == a test of one number, or of none, as a test of 1 to n
--   test_named            == a test of some numbers, which are named otherwise
--   some_fails, all_pass  == a test of 1 to n from two tests of some of them each
--   unsent_room           == a link on which nothing is sent has room
--   probes_by_is             == whether a probe goes to q, by the cell of b and q
--   reply_room, probe_room   == one where an acknowledgement goes, and where a probe goes, has room if one or two messages more have
-- Assumes nothing.
use Prim.Native.Nat.{ℕ, ◌+◌, ◌-◌, ◌≤◌}
use mathlib.Core.Bool.{Bool, true, false, not, ◌&&◌, ◌||◌, false≢true}
use mathlib.Core.List.{List}
use mathlib.Core.Path.{◌≡◌, refl, sym, ap, ◌∙◌, fun_ext}
use native.Mathlib.Omega.{arith}
use borrow.Author.Tests.{eq-eqb, ne_eqb, le-leb}
use lib.Dec.{eqb, leb}
use lib.IntN.{ℤ}
use lib.ListN.{length, get_or}
use Rattle.base.specs.Choice.{bit}
use Rattle.base.specs.ChoiceLaws.{or_right, same?, tested}
use Rattle.base.specs.Checks.{Same, same, apart, Tested, passed, failed}
use Rattle.base.specs.Sums.{all_to}
use Rattle.base.specs.SumLaws.{all_to_at, all_to_of}
use Rattle.base.specs.PrefixLaws.{all_to_stop}
use Rattle.tables.specs.declared.Chain.{Chain}
use Rattle.tables.specs.declared.Chain.TheVariants.{Out, In}
use Rattle.tables.specs.Table.{most_processes}
use Rattle.tables.specs.Waits.{Waits}
use Rattle.tables.specs.Chains.{joins}
use Rattle.steps.specs.declared.Message.{Message}
use Rattle.steps.specs.declared.Message.TheVariants.{Suc, Pre, Ack}
use Rattle.steps.specs.declared.Probes.{Probes}
use Rattle.steps.specs.declared.Probes.TheVariants.{Sucs, Pres}
use Rattle.steps.specs.declared.Reply.{Reply}
use Rattle.std.specs.Prelude.{Option, Some, None}
use Rattle.checks.specs.Run.{one, reply_receiver, probes_to}
use Rattle.areas.specs.Area.{fields_in, run_in}
use Rattle.areas.specs.Squares.{cell_of, joins_in, Row}
use Rattle.areas.specs.SquareLaws.{cell_of_joins}
use Rattle.areas.specs.RunInLaws.{run_in_contained}
use Rattle.areas.specs.Used.{link_slots}
use Rattle.lenses.specs.ReadyLaws.{run_in_few}
use Rattle.preparing.specs.Rooms.{load_after, room_to}
use Rattle.preparing.specs.Receiving.{probes_go, probes_by, reply_goes}

one_length : (t : Bool) (m : Message) → length (one t m) ≡ bit t
one_length true m = refl
one_length false m = refl

-- how many acknowledgements go to q
pub reply_length : (z : Option Reply) (q : ℕ) → length (reply_receiver z q) ≡ bit (reply_goes z q)
unfolding reply_receiver
reply_length None q = refl
reply_length (Some y) q = one_length (eqb q y.to) (Ack y.counts) ∙ ap bit (swap (same? q y.to))
  where
    swap : Same q y.to → eqb q y.to ≡ eqb y.to q
    swap (same e f) = f ∙ sym (eq-eqb y.to q (sym e))
    swap (apart e f) = f ∙ sym (ne_eqb y.to q (λ g. e (sym g)))

-- how many probes of a broadcast go from b to q
pub probes_length : (w : Waits) (z : Probes) (b q : ℕ) → length (probes_to w b z q) ≡ bit (probes_go w z b q)
unfolding probes_to
probes_length w Probes.Nothing b q = refl
probes_length w Sucs b q = one_length (w.waits b q) Suc
probes_length w Pres b q = one_length (w.waits q b) Pre

module _ (n : ℕ) (v : ℕ → Bool) where
  -- the test of p alone
  pub test_one : (p : ℕ) → 1 ≤ p → p ≤ n → v p ≡ all_to n (λ q. not (eqb p q) || v q)
  test_one p l u = at (tested (v p))
    where
      here : v p ≡ true → (q : ℕ) → Same p q → (not (eqb p q) || v q) ≡ true
      here e q (same f g) = rw g (ap v (sym f) ∙ e)
      here e q (apart f g) = rw g

      at : Tested (v p) → v p ≡ all_to n (λ q. not (eqb p q) || v q)
      at (passed e) = e ∙ sym (all_to_of n (λ q. not (eqb p q) || v q) (λ q _ _. here e q (same? p q)))
      at (failed e) = e ∙ sym (all_to_stop n p (λ q. not (eqb p q) || v q) l u (rw (eq-eqb p p refl) e))

  -- the test of none
  pub test_none : (f : ℕ → Bool) → ((q : ℕ) → f q ≡ false) → true ≡ all_to n (λ q. not (f q) || v q)
  test_none f h = sym (all_to_of n (λ q. not (f q) || v q) (λ q _ _. rw (h q)))

  -- the same numbers, named otherwise
  pub test_named : (f g : ℕ → Bool) → ((q : ℕ) → f q ≡ g q) → {r : Bool} → r ≡ all_to n (λ q. not (f q) || v q) → r ≡ all_to n (λ q. not (g q) || v q)
  test_named f g h e = e ∙ ap {A = ℕ → Bool} (λ i. all_to n (λ q. not (i q) || v q)) (fun_ext h)

  -- one of those that are looked at fails
  pub some_fails : (f : ℕ → Bool) → all_to n (λ q. not (f q) || v q) ≡ false → all_to n v ≡ false
  some_fails f e = at (tested (all_to n v))
    where
      at : Tested (all_to n v) → all_to n v ≡ false
      at (failed t) = t
      at (passed t) = absurd (false≢true (sym e ∙ all_to_of n (λ q. not (f q) || v q) (λ q l u. or_right (not (f q)) (v q) (all_to_at n v t q l u))))

  -- two tests look at all that can fail
  pub all_pass : (f g : ℕ → Bool) → ((q : ℕ) → 1 ≤ q → q ≤ n → f q ≡ false → g q ≡ false → v q ≡ true) → all_to n (λ q. not (f q) || v q) ≡ true → {r : Bool}
      → r ≡ all_to n (λ q. not (g q) || v q) → r ≡ all_to n v
  all_pass f g h e i = i ∙ at (tested (all_to n (λ q. not (g q) || v q)))
    where
      each : all_to n (λ q. not (g q) || v q) ≡ true → (q : ℕ) → 1 ≤ q → q ≤ n → Tested (f q) → Tested (g q) → v q ≡ true
      each t q l u (passed i) k = rw i at (all_to_at n (λ q. not (f q) || v q) e q l u)
      each t q l u (failed i) (passed k) = rw k at (all_to_at n (λ q. not (g q) || v q) t q l u)
      each t q l u (failed i) (failed k) = h q l u i k

      at : Tested (all_to n (λ q. not (g q) || v q)) → all_to n (λ q. not (g q) || v q) ≡ all_to n v
      at (passed t) = t ∙ sym (all_to_of n v (λ q l u. each t q l u (tested (f q)) (tested (g q))))
      at (failed t) = t ∙ sym (some_fails g t)

-- what waits on a link is at most 4, so that it has room where nothing is sent
pub unsent_room : (w : List ℤ) (a b : ℕ) (y : Probes) (z : Option Reply) (q : ℕ) → reply_goes z q ≡ false → probes_go (run_in w).waits y b q ≡ false
    → room_to (run_in w) a b y z q ≡ true
unsent_room w a b y z q e f =
    le-leb (load_after (run_in w) a b y z q) 4 (rw (reply_length z q, probes_length (run_in w).waits y b q, e, f) (omega (arith, run_in_few w b q)))

-- what one or two messages more leave of the room, where an acknowledgement goes and where a probe does
module _ (w : List ℤ) (a b : ℕ) (y : Probes) (z : Option Reply) (q : ℕ) {s : ℕ} (t : Bool) (e : s ≡ 1 + bit t) {r : Bool}
    (h : r ≡ leb (length ((run_in w).link b q) - bit (eqb b a && eqb q b) + s) link_slots) where
  same_room : load_after (run_in w) a b y z q ≡ length ((run_in w).link b q) - bit (eqb b a && eqb q b) + s → r ≡ room_to (run_in w) a b y z q
  same_room f = h ∙ ap (λ (k : ℕ). leb k link_slots) (sym f)

  pub reply_room : reply_goes z q ≡ true → t ≡ probes_go (run_in w).waits y b q → r ≡ room_to (run_in w) a b y z q
  reply_room g p =
      same_room (rw (reply_length z q, probes_length (run_in w).waits y b q, g, ← p) (omega (arith, e)))

  pub probe_room : probes_go (run_in w).waits y b q ≡ true → t ≡ reply_goes z q → r ≡ room_to (run_in w) a b y z q
  probe_room g p =
      same_room (rw (reply_length z q, probes_length (run_in w).waits y b q, g, ← p) (omega (arith, e)))

-- whether a probe goes to q, by the cell of b and q
pub probes_by_is : (w : List ℤ) {b : ℕ} {row : List ℕ} → Row (fields_in w) b row → (y : Probes) (q : ℕ) → q ≤ most_processes → {k : ℕ} → k ≡ get_or row q 0
    → probes_by y k ≡ probes_go (run_in w).waits y b q
probes_by_is w {b} {row} g y q u e = ap (probes_by y) (e ∙ g.cells q u) ∙ at y
  where
    by_chain : (c : Chain) → joins_in c (cell_of (fields_in w) b q) ≡ joins c (run_in w).waits b q
    by_chain c = cell_of_joins (fields_in w) c b q ∙ ap (λ (v : Waits). joins c v b q) (sym (run_in_contained w).waits)

    at : (y : Probes) → probes_by y (cell_of (fields_in w) b q) ≡ probes_go (run_in w).waits y b q
    at Probes.Nothing = refl
    at Sucs = by_chain Out
    at Pres = by_chain In
