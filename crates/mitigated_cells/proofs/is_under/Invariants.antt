-- What the loop of `mitigated_cells::is_under` keeps.
use Rattle.std.proofs.Common.{◌≤◌, drop}
use Rattle.rules_curve.specs.Curves.{bid_steps}
use Rattle.rules_state.specs.States.{curve_in_cells}
use Rattle.mitigated_cells.proofs.UncutLaws.{Under}
use Rattle.mitigated_cells.proofs.is_under.Given as goal

-- what lies under the end from here on suffices
abbrev pub invariant-loop-i : goal.invariant-loop-i
invariant-loop-i l = (Under l.top l.at (drop l.i (bid_steps (curve_in_cells l.row 0))) → Under l.top (curve_in_cells l.row 0).start (bid_steps (curve_in_cells l.row 0))) × (l.i ≤ l.bids)
