-- `opening_cells::curve_of`: the first k steps are filled.
use Rattle.std.proofs.Common.{◌≡◌}
use Rattle.rules_number.specs.Order.{nat_of}
use Rattle.rules_number.specs.Over.{listed, padded}
use Rattle.rules_curve.specs.Curves.{most_steps, blank_step, step_of}
use Rattle.rules_library.specs.Slices.{raw_step_at}
use Rattle.rules_state.specs.States.{curve_cells}
use Rattle.cost.proofs.CellLaws.{curve_from}
use Rattle.opening_cells.proofs.curve_of.Given as goal

abbrev pub invariant-loop-k : goal.invariant-loop-k
invariant-loop-k l =
    l.curve ≡ curve_cells (curve_from (nat_of l.raw.start) l.raw.count (padded most_steps blank_step (listed (λ j. step_of (raw_step_at l.raw.steps.now j)) l.k)))
