-- Goals of `print::digit_count` that the search leaves. Assumes nothing.
use Rattle.std.proofs.Common.{arith}
use Rattle.rules_text.proofs.PrintLaws.{counting_bound, counting_more, counting_done}
use Rattle.print.proofs.digit_count.Goals as goal

pub overflow_mul-bound : goal.overflow_mul-bound
overflow_mul-bound c = omega (arith, (counting_bound c.args.n c.loop-bound.count c.loop-bound.bound c.requires c.loop-bound.invariant c.loop-bound-test.true).0)

pub overflow_add-count : goal.overflow_add-count
overflow_add-count c = omega (arith, (counting_bound c.args.n c.loop-bound.count c.loop-bound.bound c.requires c.loop-bound.invariant c.loop-bound-test.true).1)

pub loop-bound-smaller : goal.loop-bound-smaller
loop-bound-smaller c = omega (arith, (counting_bound c.args.n c.loop-bound.count c.loop-bound.bound c.requires c.loop-bound.invariant c.loop-bound-test.true).1)

pub loop-bound-preserved : goal.loop-bound-preserved
loop-bound-preserved c = counting_more c.args.n c.loop-bound.count c.loop-bound.bound c.requires c.loop-bound.invariant c.loop-bound-test.true

pub returns : goal.returns
returns c = counting_done c.args.n c.loop-bound.count c.loop-bound.bound c.requires c.loop-bound.invariant c.loop-bound-test.false
