-- `beginning::first_record` meets its contract: each degree is at most n, so that their sum fits.
use Rattle.std.proofs.Common.{arith}
use Rattle.base.specs.SumLaws.{count_to_most}
use Rattle.tables.specs.Waits.{out_degree, in_degree}
use Rattle.steps.proofs.Counts.{signed_back}
use Rattle.checks.specs.Run.{started}
use Rattle.areas.specs.Area.{run_in}
use Rattle.lenses.specs.ReadyLaws.{ready_n, ready_sizes}
use Rattle.beginning.proofs.first_record.Goals as goal

pub overflow_add-result : goal.overflow_add-result
unfolding out_degree in_degree
overflow_add-result c =
    let v = (run_in c.args.area.words.now).waits in
    omega (
      arith,
      c.degree-successors.ensures,
      c.degree-predecessors.ensures,
      count_to_most v.n (λ q. v.waits c.args.s q),
      count_to_most v.n (λ q. v.waits q c.args.s),
      ready_n c.args.area.ready,
      (ready_sizes c.args.area.ready).0,
    )

pub returns : goal.returns
unfolding started
returns c =
    let own = c.own_count in
    let none = c.default.ensures in
    rw (signed_back own.result own.type_inv, own.ensures, c.degree-successors.ensures, c.degree-predecessors.ensures, none.1.1.0, none.1.1.1.0, none.1.1.1.1.1.0)
