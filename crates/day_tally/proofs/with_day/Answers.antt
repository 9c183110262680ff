-- `day_tally::with_day`: a refused day leaves the tally.
use Rattle.std.proofs.Common.{subst, ◌<◌, sym}
use Rattle.std.proofs.lemmas.Result.{err_from_is_err_and}
use Rattle.rules_curve.proofs.RefusalLaws.{refused_number}
use Rattle.rules_designation.specs.Tallies.{day_refusal}
use Rattle.rules_designation.proofs.DayLaws.{refused_leaves}
use Rattle.day_tally.proofs.with_day.Goals as goal

pub returns-in_err-update : goal.returns-in_err-update
returns-in_err-update c =
    let p = err_from_is_err_and c.from_residual.result c.from_residual.ensures.1 in
    let n = c.in_err-update.ensures.0 in
    let e : 0 < day_refusal c.args.tally c.args.day = subst (λ k. 0 < k) n (refused_number c.in_err-update.field-0.0) in
    rw (p.1, p.2) (n, sym (refused_leaves c.args.tally c.args.day e))
