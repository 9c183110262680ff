use Rattle.path.proofs.OfferLaws.{Puts, sold}
use Rattle.path.proofs.offered_into.Given as goal

abbrev pub invariant-loop-c : goal.invariant-loop-c
invariant-loop-c l = Puts (sold l.asked.shadow.now l.sellers l.asked.factors.now l.asked.outputs.now l.asked.resources) l.asked.constraints l.initial.offered l.offered l.c
