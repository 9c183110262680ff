-- What the loop of `mitigated_cells::put_steps` keeps, and its measure.
use Rattle.std.proofs.Common.{◌+◌, ◌-◌}
use Rattle.rules_curve.specs.Curves.{steps_of, bid_steps}
use Rattle.rules_mitigation.specs.Mitigation.{capped}
use Rattle.rules_state.specs.Layout.{curve_room}
use Rattle.rules_state.specs.States.{curve_in_cells, floor_of}
use Rattle.mitigated_cells.proofs.CellWalk.{Walking}
use Rattle.mitigated_cells.proofs.put_steps.Given as goal

abbrev pub invariant-loop-i : goal.invariant-loop-i
invariant-loop-i l =
    Walking (capped (floor_of l.mark l.floor).price) (bid_steps (curve_in_cells l.row 0)) (steps_of (curve_in_cells l.row curve_room)) (curve_in_cells l.row 0).start l.fn.steps l.steps l.at l.last l.i l.j l.n

abbrev pub decreases-loop-i : goal.decreases-loop-i
decreases-loop-i l = (l.bids - l.i) + (l.defaults - l.j)
