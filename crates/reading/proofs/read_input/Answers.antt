-- What a turn reads follows what was read before it, and what stands behind it stays.
use Rattle.std.proofs.Common.{◌≡◌, ℕ, ◌+◌, ◌≤◌, List, ◌++◌, length, take, drop, ap, append_assoc, length-append, length-drop, arith, rules, sym, ◌∙◌, Option, None, Some}
use Rattle.std.proofs.Math.Seq.{take_at, drop_at, drop-drop}
use Rattle.std.specs.Io.KnownBytes.{Consumes}
use Rattle.reading.proofs.read_input.Goals as goal

-- after a read of n bytes behind the first d: what is at the front, and what is behind it
after : (d n : ℕ) (old new p first : List ℕ) → d + n ≤ length old → length new ≡ length old → new ≡ take d old ++ take n p ++ drop (d + n) old
    → drop d old ≡ drop d first → (take (d + n) new ≡ take d old ++ take n p) × (drop (d + n) new ≡ drop (d + n) first)
after d n old new p first h l put same =
    let front = take d old ++ take n p in
    let rest = drop (d + n) old in
    let long : length front ≡ d + n = omega (arith, ap length put, length-append front rest, length-drop (d + n) old) in (
      ap (take (d + n)) put ∙ take_at front rest (d + n) long,
      ap (drop (d + n)) put ∙ drop_at front rest (d + n) long ∙ sym (drop-drop n d old) ∙ ap (drop n) same ∙ drop-drop n d first,
    )

joined : (a b c : Option (List ℕ)) (xs ys bs : List ℕ) → bs ≡ xs ++ ys → Consumes a b xs → Consumes b c ys → Consumes a c bs
joined None b c xs ys bs e p q = search rules
joined (Some a) None c xs ys bs e p q = absurd p
joined (Some a) (Some b) None xs ys bs e p q = absurd q
joined (Some a) (Some b) (Some c) xs ys bs e p q = rw (p, q, e) (grind (arith, append_assoc))

pub loop-done-preserved : goal.loop-done-preserved
loop-done-preserved g c =
    let l = c.loop-done in
    let ok = c.in-Ok in
    let held = after l.done ok.more l.input c.read_piece.new.input c.read_piece.new.piece c.args.input.now ok.ensures.bound c.read_piece.auto.input ok.ensures.put l.invariant.3 in
    (search rules, search rules, joined _ _ _ _ _ _ held.0 l.invariant.2 ok.ensures.taken, held.1)
