use Rattle.std.proofs.Common.{◌≡◌, ◌+◌, ◌*◌, take, ◌*ℤ◌}
use Rattle.rules_number.specs.Over.{sum_over}
use Rattle.rules_interval.specs.Intervals.{cell}
use Rattle.cutting.proofs.component_over.Given as goal

-- the terms of the constraints before this one are added up
abbrev pub invariant-loop-c : goal.invariant-loop-c
invariant-loop-c l = l.sum ≡ sum_over (λ c. cell l.factors (l.r * 32 + c) *ℤ cell l.shadow c) (take l.c-index l.entering)
