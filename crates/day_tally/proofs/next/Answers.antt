-- `day_tally::next`: a refused day leaves the tally, an accepted one is added.
use Rattle.std.proofs.Common.{subst, ◌≡◌, ◌<◌, refl, sym}
use Rattle.std.proofs.lemmas.Result.{err_from_is_err_and}
use Rattle.rules_curve.proofs.RefusalLaws.{refused_number}
use Rattle.rules_designation.specs.Tallies.{day_refusal, with_day}
use Rattle.rules_designation.proofs.DayLaws.{refused_leaves, accepted_adds}
use Rattle.day_tally.proofs.next.Goals as goal

pub returns-in_err-checked-clause-tally : goal.returns-in_err-checked-clause-tally
returns-in_err-checked-clause-tally c =
    let p = err_from_is_err_and c.from_residual.result c.from_residual.ensures.1 in
    let e : 0 < day_refusal c.args.tally c.args.day = subst (λ k. 0 < k) c.in_err-checked.ensures (refused_number c.in_err-checked.field-0.0) in
    rw p.1 (sym (refused_leaves c.args.tally c.args.day e))

pub returns-clause-tally : goal.returns-clause-tally
unfolding with_day
returns-clause-tally c =
    let none : day_refusal c.args.tally c.args.day ≡ 0 = sym c.in_ok-checked.ensures in
    rw (accepted_adds c.args.tally c.args.day none, c.one_more.ensures, c.pushed.ensures, c.pushed-2.ensures) refl
