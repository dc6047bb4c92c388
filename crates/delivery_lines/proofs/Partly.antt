-- A text that is put piece by piece.
--   Partly whole rest before after   == of the whole text all but the rest was put on the page
--   partly_first       == nothing is put yet
--   partly_next        == the next piece
--   partly_room        == there is room for the next piece
--   partly_last        == nothing is left
-- Assumes nothing.
use Rattle.std.proofs.Common.{ℕ, ◌+◌, List, [], ◌++◌, ◌≡◌, refl, sym, ap, ◌∙◌, arith, append_assoc, append-nil, length, length-append}
use Rattle.lines.specs.declared.Page.{Page}
use Rattle.lines.specs.Adding.{HasRoom, Adds}
use Rattle.lines.specs.AddingLaws.{adds_none, ◌adds-then◌}

pub record Partly (whole rest : List ℕ) (before after : Page) : Type 0 where
  pub done : List ℕ
  pub adds : Adds before done after
  pub is : whole ≡ done ++ rest

pub partly_first : {whole : List ℕ} {page : Page} → Partly whole whole page page
partly_first = record { done = []; adds = adds_none; is = refl }

module _ {whole : List ℕ} {before page : Page} where
  pub partly_next : {rest p q : List ℕ} {next : Page} → Partly whole rest before page → rest ≡ p ++ q → Adds page p next → Partly whole q before next
  partly_next {rest} {p} {q} x e y =
      record { done = x.done ++ p; adds = x.adds adds-then y; is = x.is ∙ ap (λ (t : List ℕ). x.done ++ t) e ∙ sym (append_assoc x.done p q) }

  pub partly_room : {rest : List ℕ} (p q : List ℕ) → Partly whole rest before page → rest ≡ p ++ q → HasRoom before whole → HasRoom page p
  partly_room p q x e h =
      let all : length whole ≡ length x.done + (length p + length q) =
      ap (λ (t : List ℕ). length t) (x.is ∙ ap (λ (t : List ℕ). x.done ++ t) e) ∙ rw (length-append x.done (p ++ q), length-append p q) in
      omega (arith, all, x.adds.put.grows, x.adds.put.kept)

  pub partly_last : {rest : List ℕ} → Partly whole rest before page → rest ≡ [] → Adds before whole page
  partly_last x e =
      let all : x.done ≡ whole = sym (x.is ∙ ap (λ (t : List ℕ). x.done ++ t) e ∙ append-nil x.done) in
      rw all at x.adds
