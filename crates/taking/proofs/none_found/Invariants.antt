use Rattle.std.proofs.Common.{◌≡◌}
use Rattle.taking.proofs.FoundLaws.{filled}
use Rattle.taking.proofs.none_found.Given as goal

-- the verdicts before c are not binding
abbrev pub invariant-loop-c : goal.invariant-loop-c
invariant-loop-c l = l.found ≡ filled l.c
