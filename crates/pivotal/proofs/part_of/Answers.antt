-- `pivotal::part_of`: by the bit of the portfolio. Assumes nothing.
use borrow.Author.Tests.{eq-eqb, ne_eqb}
use Rattle.pivotal.specs.Rows.{part_of}
use Rattle.pivotal.proofs.part_of.Goals as goal

pub returns-then-s-p-eq1 : goal.returns-then-s-p-eq1
unfolding part_of
returns-then-s-p-eq1 c = rw (eq-eqb _ 1 c.if-s-p-eq1.true)

pub returns-else-s-p-eq1 : goal.returns-else-s-p-eq1
unfolding part_of
returns-else-s-p-eq1 c = rw (ne_eqb _ 1 c.if-s-p-eq1.false)
