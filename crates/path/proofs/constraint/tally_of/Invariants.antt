use Rattle.rules_state.specs.Intervals.{outputs_in}
use Rattle.path.proofs.TallyLaws.{Added}
use Rattle.path.proofs.constraint.tally_of.Given as goal

abbrev pub invariant-loop-r : goal.invariant-loop-r
invariant-loop-r l =
    Added l.factors (outputs_in l.asked.outputs.now 1) (outputs_in l.asked.outputs.now 2) (outputs_in l.asked.outputs.now 3) l.sellers l.c l.r l.demand l.supply l.offers
