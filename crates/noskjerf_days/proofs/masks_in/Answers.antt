-- `noskjerf_days::masks_in`: a part of the cells.
use mathlib.Core.Path.{◌∙◌}
use Rattle.noskjerf_days.proofs.DayLaws.{part_is}
use Rattle.noskjerf_days.proofs.masks_in.Goals as goal

pub returns : goal.returns
returns c = c.copy_from_slice.ensures.after ∙ part_is c.args.cells.now c.args.from c.requires
