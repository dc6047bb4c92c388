-- `preparing::rooms::probes_have_room` meets its contract, by the chain along which the probes go.
use Rattle.std.proofs.Common.{ℕ, Bool, not, ◌||◌, ◌≡◌, sym, ap, ◌∙◌, Some}
use Rattle.base.specs.Sums.{all_to}
use Rattle.tables.specs.declared.Chain.{Chain}
use Rattle.tables.specs.declared.Chain.TheVariants.{Out, In}
use Rattle.tables.specs.Waits.{Waits}
use Rattle.tables.specs.Chains.{joins}
use Rattle.steps.specs.declared.Probes.{Probes}
use Rattle.steps.specs.StepLaws.{chain_none, chain_some}
use Rattle.areas.specs.Area.{run_in}
use Rattle.preparing.specs.Rooms.{room_to}
use Rattle.preparing.specs.Receiving.{probes_go, probes_of, chain_of}
use Rattle.preparing.proofs.Loads.{test_none}
use Rattle.preparing.proofs.rooms.probes_have_room.Goals as goal

-- where the probes go along a chain, those whom it joins get one
module _ (n : ℕ) (w : Waits) (b : ℕ) (v : Probes → ℕ → Bool) {r : Bool} where
  along_go : (c : Chain) → r ≡ all_to n (λ q. not (joins c w b q) || v (probes_of c) q)
      → r ≡ all_to n (λ q. not (probes_go w (probes_of c) b q) || v (probes_of c) q)
  along_go Out h = h
  along_go In h = h

  chain_go : (y : Probes) (c : Chain) → chain_of y ≡ Some c → r ≡ all_to n (λ q. not (joins c w b q) || v (probes_of c) q)
      → r ≡ all_to n (λ q. not (probes_go w y b q) || v y q)
  chain_go y c e h = rw (chain_some y c e) (along_go c h)

pub returns-in-None : goal.returns-in-None
returns-in-None c =
    let a = c.args in
    test_none a.area.sizes.n (room_to (run_in a.area.words.now) a.a a.b a.sent.probes a.sent.reply) (probes_go (run_in a.area.words.now).waits a.sent.probes a.b)
    (λ q. ap (λ (y : Probes). probes_go (run_in a.area.words.now).waits y a.b q) (chain_none a.sent.probes (sym c.chain.ensures ∙ c.in-None.is)))

pub returns-in-Some : goal.returns-in-Some
returns-in-Some c =
    let a = c.args in
    chain_go a.area.sizes.n (run_in a.area.words.now).waits a.b (λ y q. room_to (run_in a.area.words.now) a.a a.b y a.sent.reply q) a.sent.probes c.in-Some.c
    (sym c.chain.ensures ∙ c.in-Some.is) c.chain_has_room.ensures
