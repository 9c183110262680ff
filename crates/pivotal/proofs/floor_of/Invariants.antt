use Rattle.std.proofs.Common.{◌≡◌}
use Rattle.pivotal.specs.Rows.{floor_on}
use Rattle.pivotal.proofs.floor_of.Given as goal

-- the floor of the constraints before c
abbrev pub invariant-loop-c : goal.invariant-loop-c
invariant-loop-c l = l.floor ≡ floor_on l.rows l.c
