-- `day_tally::checked`: by the number and by the marks.
use mathlib.Core.Bool.{true, false}
use mathlib.Core.Path.{sym, ◌∙◌}
use Rattle.day_tally.proofs.CheckLaws.{not_later, by_marks}
use Rattle.day_tally.proofs.checked.Goals as goal

pub returns-then-not-is_later : goal.returns-then-not-is_later
returns-then-not-is_later c = not_later _ _ (sym c.is_later.ensures ∙ c.if-not-is_later.true)

pub returns-then-not-marks_good : goal.returns-then-not-marks_good
returns-then-not-marks_good c =
    by_marks _ _ false (sym c.is_later.ensures ∙ c.if-not-is_later.false) (sym c.marks_good.ensures ∙ c.if-not-marks_good.true)

pub returns : goal.returns
returns c =
    by_marks _ _ true (sym c.is_later.ensures ∙ c.if-not-is_later.false) (sym c.marks_good.ensures ∙ c.if-not-marks_good.false)
