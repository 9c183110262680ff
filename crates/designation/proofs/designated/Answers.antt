-- `designation::designated`: by the hours that the two lists of masks mark.
use mathlib.Core.Path.{sym, ap₂, ◌∙◌}
use Rattle.rules_designation.specs.Designations.{is_competitive, designation}
use Rattle.designation.proofs.designated.Goals as goal

pub returns-then-is_competitive : goal.returns-then-is_competitive
unfolding designation
returns-then-is_competitive c = rw (sym (c.is_competitive.ensures ∙ ap₂ is_competitive c.hours_in.ensures c.hours_in-2.ensures) ∙ c.if-is_competitive.true)

pub returns-else-is_competitive : goal.returns-else-is_competitive
unfolding designation
returns-else-is_competitive c = rw (sym (c.is_competitive.ensures ∙ ap₂ is_competitive c.hours_in.ensures c.hours_in-2.ensures) ∙ c.if-is_competitive.false)
