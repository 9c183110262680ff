-- `curve::bid_used` meets its contract. Assumes nothing.
use Rattle.std.proofs.Common.{◌≡◌, length, arith, rules}
use Rattle.std.proofs.Math.ListN.{length-take}
use Rattle.rules_curve.specs.Curves.{most_steps}
use Rattle.curve.proofs.bid_used.Goals as goal

pub returns : goal.returns
returns c =
    let n : length c.args.bid.steps ≡ most_steps = search rules in
    simp (length-take, length-take) (omega arith)
