-- What the loop of `line_copies::put_heads` keeps.
use Rattle.line_copies.proofs.HeadLaws.{Heading}
use Rattle.line_copies.proofs.put_heads.Given as goal

abbrev pub invariant-loop-k : goal.invariant-loop-k
invariant-loop-k l = Heading l.fn.page l.at l.n l.widths l.base l.first l.page l.p l.k
