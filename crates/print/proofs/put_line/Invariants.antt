-- What the loop of `print::put_line` keeps.
use Rattle.rules_text.proofs.PrintLaws.{Lining}
use Rattle.print.proofs.put_line.Given as goal

abbrev pub invariant-loop-i : goal.invariant-loop-i
invariant-loop-i l = Lining l.fn.out l.at l.v l.out l.p l.i
