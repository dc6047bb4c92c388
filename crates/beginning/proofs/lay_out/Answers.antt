-- `beginning::lay_out` meets its contract: the words are cleared, the fields copied, the check, the start and the edition named, and these are
-- the words of the quiet run.
use Rattle.std.proofs.Common.{ℕ, ◌≡◌, ◌∙◌, subst, arith}
use Rattle.tables.specs.Table.{field_of, field_total}
use Rattle.checks.specs.RunLaws.{edition_few}
use Rattle.areas.specs.Places.{area_length}
use Rattle.areas.specs.Area.{field_total_of, area_of}
use Rattle.areas.proofs.Signs.{word_number}
use Rattle.beginning.specs.Starting.{Cleared, Copied}
use Rattle.beginning.proofs.Laying.{quiet_laid}
use Rattle.beginning.proofs.lay_out.Goals as goal

pub returns : goal.returns
returns c =
    let t = field_of c.args.table.now in
    let w = c.args.area.now in
    let n = c.args.sizes.n in
    let m = c.args.sizes.m in
    let words = c.area_length in
    let clear = c.clear in
    let fields = c.field_total in
    let copy = c.copy_fields in
    let e : area_length n m ≡ area_of t = omega arith in
    let f : field_total n m ≡ field_total_of t = omega arith in
    rw (
      word_number c.args.s (omega (arith, c.requires.accepted.right.sizes)),
      word_number c.args.edition (omega (arith, edition_few c.requires.edition)),
    )
    (quiet_laid t c.args.s c.args.edition w clear.new.area copy.new.area (omega arith)
    (subst (λ (k : ℕ). Cleared w k clear.new.area) (words.ensures ∙ e) clear.ensures)
    (subst (λ (k : ℕ). Copied t clear.new.area k copy.new.area) (fields.ensures ∙ f) copy.ensures))
