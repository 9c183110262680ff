-- `day_tally::marks_good`: by the two tests of 24 hours, and by the hours.
use mathlib.Core.Logic.{⊎_elim}
use Rattle.std.proofs.Common.{◌≤◌, ◌<◌, ◌∙◌, arith}
use borrow.Author.Tests.{lt-leb}
use Rattle.day_tally.proofs.CheckLaws.{past_bound, past_non, marks_are}
use Rattle.day_tally.proofs.marks_good.Goals as goal
use Rattle.day_tally.proofs.marks_good.Goals.{then-bound-le-ALL_HOURS, else-bound-le-ALL_HOURS}

pub returns-then-noncompetitive-le-ALL_HOURS : goal.returns-then-noncompetitive-le-ALL_HOURS
returns-then-noncompetitive-le-ALL_HOURS c = let h = c.if-noncompetitive-le-ALL_HOURS.true in marks_are _ _ h.0 h.1

pub returns-else-noncompetitive-le-ALL_HOURS : goal.returns-else-noncompetitive-le-ALL_HOURS
returns-else-noncompetitive-le-ALL_HOURS c =
    let b = c.args.bound in
    let n = c.args.noncompetitive in
    elim c.if-bound-le-ALL_HOURS.branch [
      | then-bound-le-ALL_HOURS w ↦ w.t-4-is
          ∙ ⊎_elim (λ (h : (b ≤ 16777215) × (16777215 < n)). lt-leb n 16777215 h.1 ∙ past_non b n h.0 h.1) (λ h. absurd (omega arith)) c.if-noncompetitive-le-ALL_HOURS.either
      | else-bound-le-ALL_HOURS w ↦ w.t-4-is ∙ lt-leb b 16777215 w.if-bound-le-ALL_HOURS.false ∙ past_bound b n w.if-bound-le-ALL_HOURS.false
    ]
