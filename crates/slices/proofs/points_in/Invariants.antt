-- What the loop of `slices::points_in` keeps: the points before its index are those that the numbers give.
use Rattle.std.proofs.Common.{◌≡◌, pos}
use Rattle.rules_number.specs.Over.{listed, padded}
use Rattle.rules_cost.specs.Costs.{most_points}
use Rattle.rules_cost.specs.declared.Point.{Point}
use Rattle.rules_library.specs.Slices.{raw_point_at}
use Rattle.slices.proofs.points_in.Given as goal

abbrev pub blank : Point
blank = record { mw = pos 0; heat = pos 0 }

abbrev pub invariant-loop-i : goal.invariant-loop-i
invariant-loop-i l = l.point-items ≡ padded most_points blank (listed (raw_point_at l.s) l.i)
