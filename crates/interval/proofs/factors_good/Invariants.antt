use Rattle.std.proofs.Common.{◌≡◌, true}
use Rattle.rules_number.specs.Over.{all_to}
use Rattle.rules_interval.proofs.FactorLaws.{row_good}
use Rattle.interval.proofs.factors_good.Given as goal

-- the rows before r are good
abbrev pub invariant-loop-r : goal.invariant-loop-r
invariant-loop-r l = all_to (λ k. row_good l.factors k l.m) l.r ≡ true
