-- What the loop of `cost::quantities_good` keeps: the quantities before its index rise, and the last of them is kept.
use Rattle.std.proofs.Common.{◌≡◌, List, ℤ, true}
use Rattle.rules_number.specs.Over.{all_to}
use Rattle.rules_cost.proofs.RangeLaws.{mw_before}
use Rattle.cost.proofs.NumberLaws.{costs_by}
use Rattle.cost.proofs.RiseLaws.{rises_at}
use Rattle.cost.proofs.quantities_good.Given as goal

abbrev pub invariant-loop-i : goal.invariant-loop-i
invariant-loop-i l = record {
  rises : (charges : List ℤ) → (all_to (rises_at (costs_by l.n l.points charges)) l.i ≡ true) × (l.before ≡ mw_before (costs_by l.n l.points charges) l.i);
}
