-- `cost::from_short`: the numbers that are copied are those of the slices. Assumes nothing.
use Rattle.cost.proofs.NumberLaws.{copied}
use Rattle.cost.proofs.from_short.Goals as goal

pub returns-clause-number : goal.returns-clause-number
returns-clause-number c =
    rw (c.fill.ensures, c.fill-2.ensures, copied c.args.n c.args.points.now c.args.charges.now) at c.from_whole.ensures.number

pub returns-clause-ends : goal.returns-clause-ends
returns-clause-ends c =
    rw (c.fill.ensures, c.fill-2.ensures, copied c.args.n c.args.points.now c.args.charges.now) at c.from_whole.ensures.ends

pub returns-clause-cells : goal.returns-clause-cells
returns-clause-cells c =
    rw (c.fill.ensures, c.fill-2.ensures, copied c.args.n c.args.points.now c.args.charges.now) at c.from_whole.ensures.cells
