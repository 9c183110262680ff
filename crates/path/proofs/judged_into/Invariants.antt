use Rattle.path.proofs.JudgedLaws.{Puts}
use Rattle.path.proofs.MarketLaws.{found}
use Rattle.path.proofs.judged_into.Given as goal

abbrev pub invariant-loop-c : goal.invariant-loop-c
invariant-loop-c l = Puts (found l.asked.shadow.now l.sellers l.asked.factors.now l.asked.outputs.now l.asked.resources) l.asked.constraints l.initial.verdicts l.verdicts l.c
