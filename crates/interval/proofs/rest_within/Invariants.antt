use Rattle.std.proofs.Common.{◌≡◌, true}
use Rattle.rules_number.specs.Order.{in_range}
use Rattle.rules_number.specs.Over.{all_to}
use Rattle.rules_interval.specs.Intervals.{cell}
use Rattle.interval.proofs.rest_within.Given as goal

-- the numbers before i lie between lo and hi
abbrev pub invariant-loop-i : goal.invariant-loop-i
invariant-loop-i l = all_to (λ k. in_range l.lo l.hi (cell l.numbers k)) l.i ≡ true
