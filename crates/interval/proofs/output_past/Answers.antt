-- `interval::output_past`: the four stand in the part of the slice that begins with them. Assumes nothing.
use Rattle.std.proofs.Common.{◌∙◌}
use Rattle.rules_number.proofs.Kit.{came}
use Rattle.interval.proofs.OverLaws.{four_are, of_part, first_of_part}
use Rattle.interval.proofs.output_past.Goals as goal

pub returns : goal.returns
returns c =
    let l = c.args.s.now in
    let r = c.args.r in
    let a = c.cell_at-lmp in
    let b = c.cell_at-dispatch in
    let d = c.cell_at-available in
    let e = c.cell_at-floor in
    four_are l r _ _ _ _ (came a.result a.type_inv ∙ a.ensures ∙ first_of_part l r) (came b.result b.type_inv ∙ b.ensures ∙ of_part l r 1)
    (came d.result d.type_inv ∙ d.ensures ∙ of_part l r 2) (came e.result e.type_inv ∙ e.ensures ∙ of_part l r 3)
