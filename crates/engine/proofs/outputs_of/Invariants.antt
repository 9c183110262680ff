-- `engine::outputs_of`: those of the first r resources stand in the list.
use Rattle.std.proofs.Common.{◌≡◌, length}
use Rattle.engine.proofs.OutputLaws.{Put}
use Rattle.engine.proofs.outputs_of.Given as goal

abbrev pub invariant-loop-r : goal.invariant-loop-r
invariant-loop-r l = (length l.outputs ≡ 256) × Put l.v.lmp l.v.dispatch l.v.available l.v.floor l.outputs l.r
