-- `curve_checks::checked_default` meets its contract. Assumes nothing.
use Rattle.std.proofs.Common.{◌≡◌, length, rules}
use Rattle.rules_curve.specs.Curves.{most_steps}
use Rattle.rules_curve.proofs.Exactly.{default_exactly}
use Rattle.curve_checks.proofs.checked_default.Goals as goal

pub returns-clause-exactly : goal.returns-clause-exactly
returns-clause-exactly c =
    let r = c.args.raw in
    let eleven : length r.steps ≡ most_steps = search rules in
    λ n. rw c.checked.ensures.number (default_exactly r eleven n)
