-- What the loop of `verdict_cells::portfolios_in` keeps: the numbers before its index are those of the cells.
use Rattle.std.proofs.Common.{◌≡◌, ◌+◌}
use Rattle.rules_number.specs.Order.{nat_of}
use Rattle.rules_number.specs.Over.{listed, padded}
use Rattle.rules_library.specs.Slices.{cell_at}
use Rattle.rules_state.specs.Layout.{most_portfolios}
use Rattle.verdict_cells.proofs.portfolios_in.Given as goal

abbrev pub invariant-loop-p : goal.invariant-loop-p
invariant-loop-p l = l.whole-items ≡ padded most_portfolios 0 (listed (λ k. nat_of (cell_at l.numbers (l.at + k))) l.p)
