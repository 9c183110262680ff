use Rattle.cutting.specs.Entering.{Lists}
use Rattle.cutting.proofs.entering_in.Given as goal

-- the constraints before c are listed
abbrev pub invariant-loop-c : goal.invariant-loop-c
invariant-loop-c l = Lists l.verdicts l.c l.list l.count
