-- Goals of `print::four` that the search leaves. Assumes nothing.
use Rattle.std.proofs.Common.{arith}
use Rattle.print.proofs.DigitLaws.{pairs, tens_of, four_is}
use Rattle.print.proofs.four.Goals as goal

pub overflow_sub-result : goal.overflow_sub-result
overflow_sub-result c = omega (arith, pairs c.args.n c.requires, tens_of c.args.n c.requires)

pub returns : goal.returns
returns c = four_is c.args.n _ _ c.requires (pairs c.args.n c.requires) (tens_of c.args.n c.requires)
