-- `cutting::cut_by`: the competitive price, and what is added to it. Assumes nothing.
use Rattle.std.specs.Prelude.{Some}
use Rattle.std.proofs.Common.{ap, pos, w64}
use lib.Dec.{lit<}
use mir.ValLaws.{to_z-of_z}
use Rattle.rules_number.proofs.Kit.{le_not_lt, not_le_lt}
use Rattle.rules_number.proofs.Meant.{Meant, fits, kept, local, const, ceiled, ◌⊕◌, ◌⊖◌, ◌⊗◌}
use Rattle.rules_hour.specs.Cuts.{cut_from}
use Rattle.cutting.proofs.cut_by.Goals as goal
use Rattle.cutting.proofs.cut_by.Goals.{After-ceil_by-competitive}

module _ (c : After-ceil_by-competitive) where
  abbrev scaled : Meant
  scaled = local c.args.lmp c.requires.0 tt ⊗ const 1000000

  abbrev less : Meant
  less = kept scaled tt ⊖ local c.args.component c.requires.1.0 tt

  abbrev competitive : Meant
  competitive = ceiled 1000000 (lit< tt) (kept less tt) c.ceil_by-competitive.ensures

  abbrev floor : Meant
  floor = kept competitive tt ⊕ local c.args.parameter c.requires.1.1 tt

pub overflow_add-result : goal.overflow_add-result
overflow_add-result c = fits (floor (goal.at.overflow_add-result c).After-ceil_by-competitive) tt

pub returns-then-dispatch-le0 : goal.returns-then-dispatch-le0
unfolding cut_from
returns-then-dispatch-le0 c =
    let f = to_z-of_z w64 c.args.dispatch c.ranges.dispatch in
    rw (le_not_lt c.args.dispatch (pos 0) (simp f at c.if-dispatch-le0.true))

pub returns-then-component-le0 : goal.returns-then-component-le0
unfolding cut_from
returns-then-component-le0 c =
    let fd = to_z-of_z w64 c.args.dispatch c.ranges.dispatch in
    let fc = to_z-of_z w64 c.args.component c.ranges.component in
    rw (not_le_lt c.args.dispatch (pos 0) (simp fd at c.if-dispatch-le0.false), le_not_lt c.args.component (pos 0) (simp fc at c.if-component-le0.true))

pub returns : goal.returns
unfolding cut_from
returns c =
    let fd = to_z-of_z w64 c.args.dispatch c.ranges.dispatch in
    let fc = to_z-of_z w64 c.args.component c.ranges.component in
    rw (not_le_lt c.args.dispatch (pos 0) (simp fd at c.if-dispatch-le0.false), not_le_lt c.args.component (pos 0) (simp fc at c.if-component-le0.false))
    (ap Some (kept (floor (goal.at.returns c).After-ceil_by-competitive) tt).same)
