-- `contract::raised`: the raised steps so far, with blank steps past them, and the largest price of those. Assumes nothing.
use Rattle.std.proofs.Common.{◌≡◌}
use Rattle.rules_number.specs.Over.{listed, padded}
use Rattle.rules_curve.specs.Conditions.{no_step}
use Rattle.rules_curve.specs.Curves.{most_steps}
use Rattle.rules_contract.specs.ContractUnits.{joined_steps, raised_step}
use Rattle.contract.proofs.PartLaws.{largest_to}
use Rattle.contract.proofs.raised.Given as goal

abbrev pub invariant-loop-i : goal.invariant-loop-i
invariant-loop-i l =
    (l.steps ≡ padded most_steps no_step (listed (raised_step (joined_steps l.proxy l.above)) l.i)) × (l.largest ≡ largest_to l.proxy l.above l.i)
