-- `opening_puts::put_pairs`: one more, and the end. Assumes nothing.
use Rattle.std.proofs.Common.{arith, rules}
use Rattle.opening_puts.proofs.PutLaws.{pairs_start, pairs_again, pairs_end}
use Rattle.opening_puts.proofs.put_pairs.Goals as goal

pub loop-k-init : goal.loop-k-init
loop-k-init g c numbers h = pairs_start _ _ _ _ _ (search rules)

pub loop-k-preserved : goal.loop-k-preserved
loop-k-preserved g c numbers h =
    pairs_again (c.loop-k.invariant numbers h) c.index-list-k.result (omega arith) c.put_pair.ensures (search rules) (search rules) (h _ _ c.pair-first.ensures)

pub returns : goal.returns
returns g c numbers h = pairs_end (c.loop-k.invariant numbers h) (omega arith)
