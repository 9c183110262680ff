-- `mitigation::merged`: the joined steps so far. Assumes nothing.
use Rattle.rules_mitigation.specs.Mitigation.{used_steps}
use Rattle.mitigation.proofs.Walk.{Joining}
use Rattle.mitigation.proofs.merged.Given as goal

abbrev pub invariant-loop-i : goal.invariant-loop-i
invariant-loop-i l = Joining (used_steps l.curve) l.steps l.last l.i l.n
