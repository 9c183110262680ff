-- What the loop of `slices::steps_in` keeps: the steps before its index are those that the numbers give.
use Rattle.std.proofs.Common.{◌≡◌, pos}
use Rattle.rules_number.specs.Over.{listed, padded}
use Rattle.rules_curve.specs.Curves.{most_steps}
use Rattle.rules_curve.specs.declared.RawStep.{RawStep}
use Rattle.rules_library.specs.Slices.{raw_step_at}
use Rattle.slices.proofs.steps_in.Given as goal

abbrev pub blank_raw : RawStep
blank_raw = record { end = pos 0; price = pos 0 }

abbrev pub invariant-loop-i : goal.invariant-loop-i
invariant-loop-i l = l.step-items ≡ padded most_steps blank_raw (listed (raw_step_at l.s) l.i)
