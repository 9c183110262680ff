use Rattle.std.proofs.Common.{◌≡◌}
use Rattle.rules_state.specs.Takes.{cuts_by}
use Rattle.interval.specs.Over.{lent_interval}
use Rattle.cutting.specs.Entering.{cut_over}
use Rattle.cutting.proofs.cut_cells.Given as goal

-- the resources before r are cut
abbrev pub invariant-loop-r : goal.invariant-loop-r
invariant-loop-r l = l.state ≡ cuts_by (cut_over (lent_interval l.asked) l.entering) l.from l.r l.initial.state
