-- `lines::Page::put_number` meets its contract: the digits that the kit's library writes are those of the definition, from the page's end up to where
-- they were counted to.
use Rattle.std.proofs.Common.{ℕ, List, ◌≡◌, refl, sym, ap, ◌∙◌, arith, length, take, drop, ◌++◌}
use Rattle.std.specs.Fmt as Printed
use Rattle.lines.specs.Text.{decimal}
use Rattle.lines.proofs.Digits.{printed}
use Rattle.lines.proofs.Words.{written}
use Rattle.lines.proofs.Page.put_number.Goals as goal

pub write_digits-requires : goal.write_digits-requires
write_digits-requires c =
    let is : Printed.decimal c.from.result ≡ decimal c.args.n = ap Printed.decimal c.from.ensures ∙ printed c.args.n c.ranges.n.fits in
    let long : length (Printed.decimal c.from.result) ≡ length (decimal c.args.n) = ap {A = List ℕ} length is in
    (omega (arith, long, c.count_digits.ensures), omega (arith, c.count_digits.ensures, c.requires))

pub returns : goal.returns
returns c =
    let is : Printed.decimal c.from.result ≡ decimal c.args.n = ap Printed.decimal c.from.ensures ∙ printed c.args.n c.ranges.n.fits in
    let long : length (Printed.decimal c.from.result) ≡ length (decimal c.args.n) = ap {A = List ℕ} length is in
    let at : c.write_digits.result ≡ c.args.self.now.end = omega (arith, c.write_digits.ensures.start, long, c.count_digits.ensures) in
    record {
      same = refl;
      put = written _ _ _ _ _ (omega (arith, c.count_digits.ensures)) (omega (arith, c.count_digits.ensures, c.requires)) (rw at at c.write_digits.ensures.before)
          (rw (at, is) at c.write_digits.ensures.written);
    }
