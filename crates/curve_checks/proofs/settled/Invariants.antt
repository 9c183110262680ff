-- `curve_checks::settled`: the steps so far, with blank steps past them. Assumes nothing.
use Rattle.std.proofs.Common.{◌≡◌, map, take}
use Rattle.rules_number.specs.Over.{padded}
use Rattle.rules_curve.specs.Curves.{most_steps, step_of, blank_step}
use Rattle.curve_checks.proofs.settled.Given as goal

abbrev pub invariant-loop-i : goal.invariant-loop-i
invariant-loop-i l = l.steps ≡ padded most_steps blank_step (map step_of (take l.i l.used))
