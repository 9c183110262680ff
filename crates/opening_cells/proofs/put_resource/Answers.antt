-- `opening_cells::put_resource`: a block that lies within the slice is a part of it.
use native.Mathlib.Omega.{arith}
use Rattle.opening_cells.proofs.BlockLaws.{block_is}
use Rattle.opening_cells.proofs.put_resource.Goals as goal

pub returns-clause-number : goal.returns-clause-number
returns-clause-number c = rw (block_is c.args.blocks.now c.args.r (omega arith)) at c.put_block-2.ensures.number

pub returns-clause-room : goal.returns-clause-room
returns-clause-room c = rw (block_is c.args.blocks.now c.args.r (omega arith)) at c.put_block-2.ensures.room

pub returns-clause-state : goal.returns-clause-state
returns-clause-state c = rw (block_is c.args.blocks.now c.args.r (omega arith)) at c.put_block-2.ensures.state
