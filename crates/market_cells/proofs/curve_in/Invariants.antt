-- What the loop of `market_cells::curve_in` keeps: the steps before its index are those that the cells give.
use Rattle.std.proofs.Common.{◌≡◌, ℕ, ◌+◌, List, ℤ}
use Rattle.rules_number.specs.Order.{nat_of}
use Rattle.rules_number.specs.Over.{listed, padded}
use Rattle.rules_curve.specs.Curves.{most_steps, blank_step, step_to}
use Rattle.rules_curve.specs.declared.Step.{Step}
use Rattle.rules_library.specs.Slices.{cell_at}
use Rattle.market_cells.proofs.curve_in.Given as goal

abbrev pub step_in : List ℤ → ℕ → ℕ → Step
step_in l from k = step_to (nat_of (cell_at l (from + 2 + k))) (cell_at l (from + 2 + most_steps + k))

abbrev pub invariant-loop-k : goal.invariant-loop-k
invariant-loop-k l = l.step-items ≡ padded most_steps blank_step (listed (step_in l.state l.from) l.k)
