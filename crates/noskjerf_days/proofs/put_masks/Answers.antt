-- `noskjerf_days::put_masks`: put over a part of the cells.
use mathlib.Core.Path.{◌≡◌}
use lib.ListN.{length}
use Rattle.noskjerf_days.proofs.DayLaws.{part_put}
use Rattle.noskjerf_days.proofs.put_masks.Goals as goal
use Rattle.std.proofs.Common.{rules}

pub returns : goal.returns
returns c =
    let n : length c.args.masks ≡ 60 = search rules in
    part_put c.args.cells.now c.args.from c.copy_from_slice.new.self c.args.masks c.copy_from_slice.ensures.after n c.requires
