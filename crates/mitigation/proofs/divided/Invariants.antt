-- `mitigation::divided`: where the walk along the bid and its default curve stands. Assumes nothing.
use Rattle.std.proofs.Common.{◌+◌, ◌-◌}
use Rattle.rules_curve.specs.Curves.{steps_of, bid_steps}
use Rattle.rules_mitigation.specs.Mitigation.{capped}
use Rattle.mitigation.proofs.Walk.{Walked}
use Rattle.mitigation.proofs.divided.Given as goal

abbrev pub invariant-loop-i : goal.invariant-loop-i
invariant-loop-i l = Walked (capped l.floor) (bid_steps l.bid) (steps_of l.default) l.bid.start l.steps l.at l.i l.j l.n

abbrev pub decreases-loop-i : goal.decreases-loop-i
decreases-loop-i l = (l.nb - l.i) + (l.nd - l.j)
