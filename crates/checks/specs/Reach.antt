-- Who reaches whom, what a knot is under each edition, who waits for nobody, and the number D (01, "Steps" and "The end of a check"; 02,
-- N3 and N4).
--   Reaches w p q      == "p *reaches* q .. if q is p or arcs lead from p to q, each beginning where the one before it ended" (01's term)
--   reaches w p q      == the same as a test: the closure of the waits, grown N times
--   ReachesByArcs w p q, reaches_by_arcs w p q   == q is "reachable by one arc or more" (02, N4) from p, and the test of it
--   SomeByArcs w s, some_by_arcs w s   == "at least one process must be reachable by one arc or more", from s, and the test of it
--   all_reach_back w s   == "all processes reachable from the start reach it"
--   edition_allows w s ed   == what an edition asks of a knot in addition: nothing under 1, under 2 that sentence of 02, N4
--   in_knot w s ed      == "knot exactly if all processes reachable from the start reach it", by edition
--   outsiders w s      == "the number of those that do not"
--   lowest_outsider w s == the lowest of those, 0 if there is none: the escape of 02, N1, at the end of a check
--   WaitsForSome w p, waits_for_some w p   == p waits for somebody, and the test of it
--   all_wait w s        == "every process reachable from the start, itself included, waits for somebody" (02, N3)
--   sink w s p, sinks w s   == p is one of the "reachable processes that wait for nobody" (02, N3); their number
--   d_of w s            == "D is twice the number of arcs whose from is reachable from the start plus twice the number whose to reaches it"
-- The law that ties the test to the relation is reaches_P, in ReachLaws. Assumes nothing.
use Rattle.std.specs.Prelude.{ℕ, zero, suc, ◌+◌, ◌*◌, Bool, true, not, ◌&&◌, ◌||◌, ◌≡◌, eqb}
use Rattle.base.specs.Sums.{sum_to, count_to, all_to, any_to, lowest_to}
use Rattle.tables.specs.Waits.{Waits}

-- "q is p or arcs lead from p to q, each beginning where the one before it ended"
pub data Reaches (w : Waits) : ℕ → ℕ → Type 0 where
  here : {p : ℕ} → Reaches w p p
  along : {p q r : ℕ} → w.waits p q ≡ true → Reaches w q r → Reaches w p r

-- q is reached from p over at most k arcs
unfoldable pub within : Waits → ℕ → ℕ → ℕ → Bool
within w zero p q = eqb p q
within w (suc k) p q = within w k p q || any_to w.n (λ m. within w k p m && w.waits m q)

-- at most N arcs suffice
unfoldable pub reaches : Waits → ℕ → ℕ → Bool
reaches w p q = within w w.n p q

-- 02, N4: "reachable by one arc or more"; 01's Reaches has the process itself too
pub data ReachesByArcs (w : Waits) (p r : ℕ) : Type 0 where
  onward : {q : ℕ} → w.waits p q ≡ true → Reaches w q r → ReachesByArcs w p r

unfoldable pub reaches_by_arcs : Waits → ℕ → ℕ → Bool
reaches_by_arcs w p r = any_to w.n (λ q. w.waits p q && reaches w q r)

-- 003, section 3.1: "and there is at least one such vertex q"; 02, N4: "at least one process must be reachable by one arc or more"
pub record SomeByArcs (w : Waits) (s : ℕ) : Type 0 where
  pub process : ℕ
  pub reached : ReachesByArcs w s process

unfoldable pub some_by_arcs : Waits → ℕ → Bool
some_by_arcs w s = any_to w.n (λ q. reaches_by_arcs w s q)

-- "all processes reachable from the start reach it"
unfoldable pub all_reach_back : Waits → ℕ → Bool
all_reach_back w s = all_to w.n (λ p. not (reaches w s p) || reaches w p s)

-- 02, N4: "Under the first edition a process that waits for nobody counts as a knot. The second follows .. 003, section 3.1: in addition, at
-- least one process must be reachable by one arc or more"
unfoldable pub edition_allows : Waits → ℕ → ℕ → Bool
edition_allows w s ed = not (eqb ed 2) || some_by_arcs w s

-- "knot exactly if all processes reachable from the start reach it", and as its edition asks
unfoldable pub in_knot : Waits → ℕ → ℕ → Bool
in_knot w s ed = all_reach_back w s && edition_allows w s ed

-- reachable from the start, and does not reach it
unfoldable pub outsider : Waits → ℕ → ℕ → Bool
outsider w s p = reaches w s p && not (reaches w p s)

-- "as outside the number of those that do not"
unfoldable pub outsiders : Waits → ℕ → ℕ
outsiders w s = count_to w.n (outsider w s)

-- 02, N1: the lowest-numbered of them, "and 0 only where there is none"
unfoldable pub lowest_outsider : Waits → ℕ → ℕ
lowest_outsider w s = lowest_to w.n (outsider w s)

-- to wait for somebody, be it for oneself
pub record WaitsForSome (w : Waits) (p : ℕ) : Type 0 where
  pub process : ℕ
  pub waits : w.waits p process ≡ true

unfoldable pub waits_for_some : Waits → ℕ → Bool
waits_for_some w p = any_to w.n (λ q. w.waits p q)

-- 02, N3: "every process reachable from the start, itself included, waits for somebody"
unfoldable pub all_wait : Waits → ℕ → Bool
all_wait w s = all_to w.n (λ p. not (reaches w s p) || waits_for_some w p)

-- 02, N3: "reachable processes that wait for nobody" (sinks, in the words of graphs), and "the number of such processes"
unfoldable pub sink : Waits → ℕ → ℕ → Bool
sink w s p = reaches w s p && not (waits_for_some w p)

unfoldable pub sinks : Waits → ℕ → ℕ
sinks w s = count_to w.n (sink w s)

-- "D is twice the number of arcs whose from is reachable from the start plus twice the number whose to reaches it."
unfoldable pub d_of : Waits → ℕ → ℕ
d_of w s =
    2 * sum_to w.n (λ a. count_to w.n (λ b. w.waits a b && reaches w s a)) +
    2 * sum_to w.n (λ a. count_to w.n (λ b. w.waits a b && reaches w b s))
