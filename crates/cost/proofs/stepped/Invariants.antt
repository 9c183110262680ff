-- What the loop of `cost::stepped` keeps: the edge reached, the largest rate and the highest price so far, and the cells of the steps so far.
use Rattle.cost.proofs.NumberLaws.{costs_by}
use Rattle.cost.proofs.StepLaws.{Stepped}
use Rattle.cost.proofs.stepped.Given as goal

abbrev pub invariant-loop-t : goal.invariant-loop-t
invariant-loop-t l = Stepped (costs_by l.n l.points l.charges) l.edge l.largest l.price l.curve l.t
