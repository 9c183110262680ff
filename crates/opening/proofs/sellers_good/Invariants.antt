-- `opening::sellers_good`: the marks so far are 0 or 1. Assumes nothing.
use Rattle.std.proofs.Common.{◌≡◌, true}
use Rattle.rules_number.specs.Over.{all_to}
use Rattle.rules_interval.specs.Intervals.{cell}
use Rattle.rules_opening.specs.Openings.{is_mark}
use Rattle.opening.proofs.sellers_good.Given as goal

abbrev pub invariant-loop-p : goal.invariant-loop-p
invariant-loop-p l = all_to (λ p. is_mark (cell l.sellers p)) l.p ≡ true
