use Rattle.std.proofs.Common.{◌≡◌, ℕ, List, Bool, true, pos, neg_ℤ}
use Rattle.std.specs.Prelude.{ℤ}
use Rattle.rules_number.specs.Order.{in_range}
use Rattle.rules_number.specs.Over.{all_to}
use Rattle.rules_interval.specs.Intervals.{cell, output_good}
use Rattle.rules_state.specs.Intervals.{outputs_in}
use Rattle.interval.proofs.outputs_judged.Given as goal

-- the two tests of resource r
abbrev pub priced : List ℤ → ℕ → Bool
priced outputs r = in_range (neg_ℤ (pos 100000000)) (pos 100000000) (cell (outputs_in outputs 0) r)

abbrev pub can : List ℤ → ℕ → Bool
can outputs r = output_good (cell (outputs_in outputs 2) r) (cell (outputs_in outputs 3) r) (cell (outputs_in outputs 1) r)

-- what the resources before r passed
abbrev pub invariant-loop-r : goal.invariant-loop-r
invariant-loop-r l =
    (all_to (priced l.outputs) l.r ≡ true) × (l.good ≡ all_to (can l.outputs) l.r)
