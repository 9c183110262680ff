-- What the loop of `mitigated_cells::put_bid` keeps.
use Rattle.rules_curve.specs.Curves.{bid_steps}
use Rattle.rules_state.specs.States.{curve_in_cells}
use Rattle.mitigated_cells.proofs.UncutLaws.{Putting}
use Rattle.mitigated_cells.proofs.put_bid.Given as goal

abbrev pub invariant-loop-i : goal.invariant-loop-i
invariant-loop-i l = Putting (bid_steps (curve_in_cells l.row 0)) l.fn.steps l.steps l.last l.i l.n
