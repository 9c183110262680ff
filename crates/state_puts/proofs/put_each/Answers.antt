-- `state_puts::put_each` meets its contract. Assumes nothing.
use Rattle.std.proofs.Common.{arith, rules}
use Rattle.state_puts.proofs.FloorLaws.{starts, again, ended}
use Rattle.state_puts.proofs.put_each.Goals as goal

pub loop-r-init : goal.loop-r-init
loop-r-init g c value h = starts _ _ _ _ (search rules)

pub loop-r-preserved : goal.loop-r-preserved
loop-r-preserved g c value h = again (c.loop-r.invariant value h) (omega arith) c.put.ensures c.number.type_inv (h _ _ c.number.ensures)

pub returns : goal.returns
returns g c value h = ended (c.loop-r.invariant value h) (omega arith)
