-- `cell_copies::put_all`, at its end. Assumes nothing.
use Rattle.std.proofs.Common.{arith}
use Rattle.cell_copies.proofs.CopyLaws.{all_put}
use Rattle.cell_copies.proofs.put_all.Goals as goal

pub returns : goal.returns
returns c = all_put c.args.from.now c.loop-i.out _ c.loop-i.i c.args.at c.loop-i.invariant (omega arith)
