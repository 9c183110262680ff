use Rattle.std.proofs.Common.{◌≡◌, ◌*◌, ◌≤◌}
use Rattle.rules_number.specs.Over.{sum_to}
use Rattle.pivotal.specs.Rows.{part_at}
use Rattle.pivotal.proofs.withheld_by.Given as goal

-- what the portfolios before p add
abbrev pub invariant-loop-p : goal.invariant-loop-p
invariant-loop-p l = (l.sum ≡ sum_to (part_at l.rows l.s l.c) l.p) × (l.sum ≤ l.p * 64000000000001)
