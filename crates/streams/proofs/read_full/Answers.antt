-- What a turn reads follows what was read before it.
use Rattle.std.proofs.Common.{◌≡◌, ℕ, ◌+◌, ◌≤◌, List, ◌++◌, length, take, ap, append_assoc, arith, rules, subst, ◌∙◌, ◌-◌, Option, None, Some}
use Rattle.std.proofs.Math.Seq.{take-append-add}
use Rattle.std.proofs.lemmas.List.{length-take-le, take-append-le}
use borrow.Rule.Slice.PartMut.{put_mid, post_of}
use Rattle.std.specs.Io.KnownBytes.{Consumes}
use Rattle.streams.proofs.read_full.Goals as goal

front : (d k n : ℕ) (xs p : List ℕ) → d ≤ length xs → n ≤ length p → take (d + n) (put_mid d k xs p) ≡ take d xs ++ take n p
front d k n xs p h i =
    let e : length (take d xs) ≡ d = length-take-le d xs h in
    subst (λ (j : ℕ). take (j + n) (take d xs ++ (p ++ post_of d k xs)) ≡ take d xs ++ take n p) e
    (take-append-add (take d xs) (p ++ post_of d k xs) n ∙ ap (λ (l : List ℕ). take d xs ++ l) (take-append-le n p (post_of d k xs) i))

joined : (a b c : Option (List ℕ)) (xs ys bs : List ℕ) → bs ≡ xs ++ ys → Consumes a b xs → Consumes b c ys → Consumes a c bs
joined None b c xs ys bs e p q = search rules
joined (Some a) None c xs ys bs e p q = absurd p
joined (Some a) (Some b) None xs ys bs e p q = absurd q
joined (Some a) (Some b) (Some c) xs ys bs e p q = rw (p, q, e) (grind (arith, append_assoc))

pub loop-done-preserved : goal.loop-done-preserved
loop-done-preserved g c =
    let e = front c.loop-done.done (length c.loop-done.bytes - c.loop-done.done) c.in_ok-got.got c.loop-done.bytes c.read.new.buf c.loop-done.invariant.0 c.in_ok-got.ensures.bound.0 in
    (search rules, joined _ _ _ _ _ _ e c.loop-done.invariant.1 c.in_ok-got.ensures.bytes.0)
