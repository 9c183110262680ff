-- `cost::mark_of`: PMax is at most 1,000,000. Assumes nothing.
use Rattle.std.proofs.Common.{arith, ap, ◌∙◌}
use Rattle.rules_number.specs.Order.{nat_of}
use Rattle.rules_number.proofs.Kit.{came}
use Rattle.rules_number.proofs.RangeLaws.{nat_is}
use Rattle.cost.proofs.mark_of.Goals as goal

pub overflow_mul-result : goal.overflow_mul-result
overflow_mul-result c = omega (arith, c.whole.ensures ∙ ap nat_of (came c.args.pmax c.ranges.pmax.sfits), (nat_is 1000000 c.args.pmax c.requires).1)
