-- What the loop of `cost::curve_in` keeps: the steps before its index are those of the cells.
use Rattle.std.proofs.Common.{◌+◌, ◌≡◌}
use Rattle.rules_number.specs.Order.{nat_of}
use Rattle.rules_number.specs.Over.{listed, padded}
use Rattle.rules_curve.specs.Curves.{most_steps, step_to, blank_step}
use Rattle.rules_library.specs.Slices.{cell_at}
use Rattle.cost.proofs.curve_in.Given as goal

abbrev pub invariant-loop-i : goal.invariant-loop-i
invariant-loop-i l = record {
  filled : l.step-items ≡ padded most_steps blank_step (listed (λ i. step_to (nat_of (cell_at l.s (2 + i))) (cell_at l.s (2 + most_steps + i))) l.i);
}
