-- `cost::numbers_of`, at its end. Assumes nothing.
use Rattle.std.proofs.Common.{◌≡◌, length, sym, arith, rules}
use Rattle.rules_number.proofs.ListedLaws.{listed_is}
use Rattle.rules_cost.specs.Costs.{most_points, blank_point}
use Rattle.rules_library.specs.Slices.{raw_point_at}
use Rattle.cost.proofs.numbers_of.Goals as goal

pub returns : goal.returns
returns c =
    let p = c.args.points in
    let n : length p ≡ most_points = search rules in
    sym (listed_is blank_point p (raw_point_at c.loop-i.numbers) most_points n (λ k h. sym (c.loop-i.invariant.stored k (omega arith))))
