use Prim.Native.Nat.{◌<◌}
use mathlib.Core.Path.{◌≡◌}
use Rattle.rules_path.specs.Paths.{largest}
use Rattle.path.proofs.constraint.largest_to.Given as goal

abbrev pub invariant-loop-i : goal.invariant-loop-i
invariant-loop-i l = (l.best < 16) × (l.best ≡ largest l.w l.i)
