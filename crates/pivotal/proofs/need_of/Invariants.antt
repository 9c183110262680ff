use Rattle.std.proofs.Common.{◌*◌, ◌≤◌}
use Rattle.pivotal.proofs.NeedLaws.{Taken}
use Rattle.pivotal.proofs.need_of.Given as goal

-- the first k are taken
abbrev pub invariant-loop-k : goal.invariant-loop-k
invariant-loop-k l = (l.sum ≤ l.k * 64000000000001) × Taken l.rows l.c l.k l.sum l.offers
