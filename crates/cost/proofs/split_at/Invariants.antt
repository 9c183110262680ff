-- What the loop of `cost::split_at` keeps: no segment before its index is split.
use Rattle.std.proofs.Common.{◌≡◌, ◌<◌, ℕ, false}
use Rattle.cost.specs.Cells.{splits_at}
use Rattle.cost.proofs.split_at.Given as goal

abbrev pub invariant-loop-i : goal.invariant-loop-i
invariant-loop-i l = record {
  none : (j : ℕ) → j < l.i → splits_at l.points l.k j ≡ false;
}
