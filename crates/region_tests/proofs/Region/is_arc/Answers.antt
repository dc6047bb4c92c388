-- `region_tests::Region::is_arc` meets its contract: zeros alone; or the first link, and then the second where no arc leads back, or zeros.
use Rattle.std.proofs.Common.{ℕ, ◌+◌, ◌≤◌, Bool, true, List, ℤ, ◌≡◌, sym, ◌∙◌, arith, length}
use Rattle.tables.specs.declared.Arc.{Arc}
use Rattle.tables.specs.Table.{Fields, n_of, m_of, most_processes, IsProcess, arc_at}
use Rattle.tables.specs.Layout.{IsArc, Right}
use Rattle.tables.specs.Waits.{waits_of}
use Rattle.areas.specs.Places.{arc_size, link_start}
use Rattle.areas.specs.Area.{link_place, fields_in}
use Rattle.sets.specs.Sets.{is_in}
use Rattle.region_tests.specs.RegionTests.{sizes_test}
use Rattle.region_tests.specs.Waiting.{Waiting}
use Rattle.region_tests.specs.WaitingLaws.{sets_in}
use Rattle.region_tests.specs.RegionLaws.{sizes_test_P}
use Rattle.region_tests.proofs.Ways.{arc_test_empty, arc_test_no, arc_test_back, arc_test_free}
use Rattle.region_tests.proofs.Ways.{sizes_are, right_is, sizes_fit}
use Rattle.region_tests.proofs.Region.is_arc.Goals as goal

-- the links of arc k begin at word i
module _ (w : List ℤ) {n m : ℕ} (k : ℕ) {i : ℕ} (e : (n ≡ n_of (fields_in w)) × (m ≡ m_of (fields_in w))) (f : i ≡ link_start n m k) where
  place : i ≡ link_place (fields_in w) k
  unfolding link_place
  place = rw (f, e.0, e.1)

  within : sizes_test w ≡ true → (1 ≤ k) × (k ≤ m) → i + arc_size ≤ length w
  within s r = omega (arith, f, ((sizes_test_P w).0 s).enough)

-- by the sets, whether an arc leads back to arc k
by_sets : {t u : Fields} {l : List ℕ} {k : ℕ} {a : Arc} {b : Bool} → Right t → Waiting t l → u ≡ t → IsArc t k → a ≡ arc_at u k → b ≡ is_in l a.to a.from
    → b ≡ (waits_of t).waits (arc_at t k).to (arc_at t k).from
by_sets {t} {u} {l} {k} right waiting q i e h =
    let s = right.ends k i in
    (rw (e, q) at h) ∙ sets_in waiting (arc_at t k).to (arc_at t k).from (omega (arith, s.1, right.sizes.1)) (omega (arith, s.0, right.sizes.1))

-- the ends of arc k are processes
ends : {t u : Fields} {k : ℕ} {a : Arc} → Right t → u ≡ t → IsArc t k → a ≡ arc_at u k → (IsProcess most_processes a.from) × (IsProcess most_processes a.to)
ends {k = k} right q i e = rw (e, q) (let s = right.ends k i in omega (arith, s.0, s.1, right.sizes.1))

pub link_start-i-requires-clause-sizes_right : goal.link_start-i-requires-clause-sizes_right
link_start-i-requires-clause-sizes_right c = sizes_fit c.args.self.loaded

pub link_start-i-requires-clause-arc : goal.link_start-i-requires-clause-arc
link_start-i-requires-clause-arc c = let f = sizes_fit c.args.self.loaded in omega arith

pub overflow_add-i : goal.overflow_add-i
overflow_add-i c = let f = sizes_fit c.args.self.loaded in omega (arith, c.link_start-i.ensures)

pub overflow_add-back : goal.overflow_add-back
overflow_add-back c = let f = sizes_fit c.args.self.loaded in omega (arith, c.link_start-i.ensures)

pub overflow_add-back-2 : goal.overflow_add-back-2
overflow_add-back-2 c = let f = sizes_fit c.args.self.loaded in omega (arith, c.link_start-i.ensures)

pub is_in-requires-clause-set_number : goal.is_in-requires-clause-set_number
is_in-requires-clause-set_number c =
    let l = c.args.self.loaded in
    (ends (right_is l) l.table (c.requires.0, omega (arith, (sizes_are l).1)) c.arc_at-a.ensures).1.1

pub is_in-requires-clause-process : goal.is_in-requires-clause-process
is_in-requires-clause-process c =
    let l = c.args.self.loaded in
    (ends (right_is l) l.table (c.requires.0, omega (arith, (sizes_are l).1)) c.arc_at-a.ensures).0

pub is_free-requires : goal.is_free-requires
is_free-requires c = (omega arith, omega (arith, within _ _ (sizes_are c.args.self.loaded) c.link_start-i.ensures c.args.self.loaded.sized c.requires))

pub returns-then-is_free : goal.returns-then-is_free
returns-then-is_free c = sym (arc_test_empty _ _ _ (place _ _ (sizes_are c.args.self.loaded) c.link_start-i.ensures) (sym c.is_free.ensures ∙ c.if-is_free.true))

pub is_link-requires-clause-size_in_bounds : goal.is_link-requires-clause-size_in_bounds
is_link-requires-clause-size_in_bounds c = omega (arith, within _ _ (sizes_are c.args.self.loaded) c.link_start-i.ensures c.args.self.loaded.sized c.requires)

pub returns-then-not-is_link : goal.returns-then-not-is_link
returns-then-not-is_link c = sym (arc_test_no _ _ _ (place _ _ (sizes_are c.args.self.loaded) c.link_start-i.ensures) (sym c.is_link.ensures ∙ c.if-not-is_link.true))

pub is_link-requires-then-not-is_in-clause-size_in_bounds : goal.is_link-requires-then-not-is_in-clause-size_in_bounds
is_link-requires-then-not-is_in-clause-size_in_bounds c = omega (arith, within _ _ (sizes_are c.args.self.loaded) c.link_start-i.ensures c.args.self.loaded.sized c.requires)

pub returns-then-not-is_in : goal.returns-then-not-is_in
returns-then-not-is_in c =
    let i : IsArc (fields_in c.args.self.words.now) c.args.k = (c.requires.0, omega (arith, c.requires.1, (sizes_are c.args.self.loaded).1)) in
    arc_test_back _ _ _ (place _ _ (sizes_are c.args.self.loaded) c.link_start-i.ensures) (sym c.is_link.ensures ∙ c.if-not-is_link.false)
    (sym (by_sets (right_is c.args.self.loaded) c.args.self.loaded.waiting c.args.self.loaded.table i c.arc_at-a.ensures c.is_in.ensures) ∙ c.if-not-is_in.true)
    c.is_link-then-not-is_in.ensures

pub is_free-requires-2 : goal.is_free-requires-2
is_free-requires-2 c = omega (arith, within _ _ (sizes_are c.args.self.loaded) c.link_start-i.ensures c.args.self.loaded.sized c.requires)

pub returns : goal.returns
returns c =
    let i : IsArc (fields_in c.args.self.words.now) c.args.k = (c.requires.0, omega (arith, c.requires.1, (sizes_are c.args.self.loaded).1)) in
    arc_test_free _ _ _ (place _ _ (sizes_are c.args.self.loaded) c.link_start-i.ensures) (sym c.is_link.ensures ∙ c.if-not-is_link.false)
    (sym (by_sets (right_is c.args.self.loaded) c.args.self.loaded.waiting c.args.self.loaded.table i c.arc_at-a.ensures c.is_in.ensures) ∙ c.if-not-is_in.false)
    c.is_free-2.ensures
