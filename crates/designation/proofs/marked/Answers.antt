-- `designation::marked`: by the two findings.
use mathlib.Core.Bool.{Bool}
use mathlib.Core.Path.{ap, ◌∙◌}
use Rattle.rules_designation.specs.Marks.{marked_at, marked_day}
use Rattle.designation.proofs.NumberLaws.{any_bound_lem, any_non}
use Rattle.designation.proofs.marked.Goals as goal

pub returns : goal.returns
unfolding marked_day
returns c =
    let l = c.args.findings.now in
    let b = c.marked_at.ensures ∙ ap (λ (t : Bool). marked_at c.args.hour t c.args.day.bound) (c.any_within.ensures ∙ any_bound_lem l) in
    let n = c.marked_at-2.ensures ∙ ap (λ (t : Bool). marked_at c.args.hour t c.args.day.noncompetitive) (c.any_within-2.ensures ∙ any_non l) in
    rw (b, n)
