-- What the loop of `verdict_cells::verdicts_in` keeps: the verdicts before its index are those of the numbers.
use Rattle.std.proofs.Common.{◌≡◌}
use Rattle.rules_number.specs.Over.{listed, padded}
use Rattle.rules_state.specs.Layout.{most_constraints}
use Rattle.rules_state.specs.Verdicts.{verdict_in}
use Rattle.verdict_cells.proofs.verdicts_in.Given as goal

abbrev pub invariant-loop-c : goal.invariant-loop-c
invariant-loop-c l = l.verdict-items ≡ padded most_constraints (verdict_in l.numbers 0) (listed (verdict_in l.numbers) l.c)
