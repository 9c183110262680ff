-- `curve_checks::checked_bid` meets its contract. Assumes nothing.
use Rattle.std.proofs.Common.{◌≡◌, length, rules}
use Rattle.rules_number.proofs.Kit.{rd}
use Rattle.rules_curve.specs.Curves.{most_steps}
use Rattle.rules_curve.proofs.Exactly.{bid_exactly}
use Rattle.curve_checks.proofs.checked_bid.Goals as goal

pub returns-clause-exactly : goal.returns-clause-exactly
returns-clause-exactly c =
    let r = c.args.raw in
    let eleven : length r.steps ≡ most_steps = search rules in
    let f : rd c.highest_bid.result ≡ c.highest_bid.result = search rules in
    let e = rw c.highest_bid.ensures at (simp f at c.checked.ensures.number) in
    λ n. rw e (bid_exactly r eleven c.args.month n)
