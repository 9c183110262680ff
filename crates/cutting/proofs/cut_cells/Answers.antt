-- `cutting::cut_cells`: a turn cuts one resource more. Assumes nothing.
use Rattle.std.proofs.Common.{refl}
use Rattle.rules_state.specs.Takes.{cuts_by}
use Rattle.interval.specs.Over.{lent_interval}
use Rattle.cutting.specs.Entering.{cut_over}
use Rattle.cutting.proofs.CellLaws.{cuts_next}
use Rattle.cutting.proofs.cut_cells.Goals as goal

pub loop-r-init : goal.loop-r-init
unfolding cuts_by
loop-r-init c = refl

pub loop-r-preserved : goal.loop-r-preserved
loop-r-preserved c =
    cuts_next (cut_over (lent_interval c.args.asked.now) c.args.entering.now) c.args.from c.loop-r.r c.args.state.now c.cut_cell.new.state c.cut_over.result c.cut_over.ensures
    (rw c.loop-r.invariant at c.cut_cell.ensures)
