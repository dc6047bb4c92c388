-- `table_reader::next` meets its contract. The sum fits since a field is below 2 ^ 16.
use Rattle.std.proofs.Common.{arith}
use Rattle.tables.specs.TableLaws.{field_of_small}
use Rattle.table_reader.proofs.next.Goals as goal

pub overflow_mul-n : goal.overflow_mul-n
overflow_mul-n c = let small = field_of_small c.args.s.now (λ i. (c.type_inv.s i).fits) in omega (arith, small 0)

pub overflow_add-n : goal.overflow_add-n
overflow_add-n c = let small = field_of_small c.args.s.now (λ i. (c.type_inv.s i).fits) in omega (arith, small 0)

pub overflow_mul-k : goal.overflow_mul-k
overflow_mul-k c = let small = field_of_small c.args.s.now (λ i. (c.type_inv.s i).fits) in omega (arith, small 1)

pub overflow_add-n-else-k-m : goal.overflow_add-n-else-k-m
overflow_add-n-else-k-m c =
    let small = field_of_small c.args.s.now (λ i. (c.type_inv.s i).fits) in
    omega (arith, small 0, small 1)
