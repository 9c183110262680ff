-- `designation::hours_in`: the sum of the first i masks' hours.
use mathlib.Core.Path.{◌≡◌}
use Prim.Native.Nat.{◌*◌, ◌≤◌}
use lib.Count.{ones}
use lib.ListN.{get_or}
use Rattle.rules_number.specs.Over.{sum_to}
use Rattle.designation.proofs.hours_in.Given as goal

abbrev pub invariant-loop-mask : goal.invariant-loop-mask
invariant-loop-mask l = (l.sum ≡ sum_to (λ k. ones (get_or l.fn.masks k 0)) l.mask-index) × (l.sum ≤ 32 * l.mask-index)
