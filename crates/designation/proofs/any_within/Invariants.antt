-- `designation::any_within`: the findings from i on decide.
use mathlib.Core.Path.{◌≡◌}
use lib.ListN.{drop}
use Rattle.designation.specs.Numbers.{any_within}
use Rattle.designation.proofs.any_within.Given as goal

abbrev pub invariant-loop-finding : goal.invariant-loop-finding
invariant-loop-finding l = any_within l.lo l.findings ≡ any_within l.lo (drop l.finding-index l.findings)
