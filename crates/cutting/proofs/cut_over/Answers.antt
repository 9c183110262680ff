-- `cutting::cut_over`: nothing is asked where the resource is not dispatched. Assumes nothing.
use Rattle.std.proofs.Common.{◌≡◌, ◌≤◌, pos, arith, rules}
use Rattle.std.specs.Prelude.{nat_abs}
use Rattle.rules_number.proofs.Kit.{came, le_not_lt}
use Rattle.rules_number.proofs.Meant.{local}
use Rattle.rules_number.proofs.RangeLaws.{abs_range, abs_in}
use Rattle.rules_interval.specs.Intervals.{dispatch_at, lmp_at}
use Rattle.rules_hour.specs.Cuts.{cut_from}
use Rattle.interval.specs.Over.{lent_interval}
use Rattle.cutting.specs.Entering.{component_over}
use Rattle.cutting.proofs.CellLaws.{price_over, dispatch_over}
use Rattle.cutting.proofs.EnteringLaws.{component_size}
use Rattle.cutting.proofs.cut_over.Goals as goal
use Rattle.cutting.proofs.cut_over.Goals.{After-output_at-output}

module _ (c : After-output_at-output) where
  lmp-is : c.output_at-output.result.lmp ≡ lmp_at (lent_interval c.args.asked.now) c.args.r
  lmp-is = price_over c.args.asked.now.outputs.now c.args.r (omega (arith, c.requires.0, c.requires.1.few)) c.output_at-output.result c.output_at-output.ensures

  dispatch-is : c.output_at-output.result.dispatch ≡ dispatch_at (lent_interval c.args.asked.now) c.args.r
  dispatch-is = dispatch_over c.args.asked.now.outputs.now c.args.r (omega (arith, c.requires.0, c.requires.1.few)) c.output_at-output.result c.output_at-output.ensures

  low : nat_abs c.output_at-output.result.lmp ≤ 100000000
  low = rw lmp-is (abs_range 100000000 (lmp_at (lent_interval c.args.asked.now) c.args.r) (c.requires.1.lmp_in c.args.r c.requires.0))

pub component_over-requires : goal.component_over-requires
component_over-requires c = c.requires.1.addable c.args.r c.requires.0

pub cut_by-requires : goal.cut_by-requires
cut_by-requires c =
    let o = (goal.at.cut_by-requires c).After-output_at-output in
    let is : c.component_over.result ≡ component_over c.args.asked.now.factors.now c.args.asked.now.shadow.now c.args.entering.now c.args.r = c.component_over.ensures in
    let small : nat_abs c.component_over.result ≤ 3200000000000000 = rw is (component_size _ _ _ _ (c.requires.1.addable c.args.r c.requires.0)) in (
      rw (local c.output_at-output.result.lmp (low o) tt).same (low o),
      (rw (local c.component_over.result small tt).same small, rw (local c.args.asked.now.parameter (abs_in 100 c.args.asked.now.parameter c.requires.1.parameter_in) tt).same (abs_in 100 c.args.asked.now.parameter c.requires.1.parameter_in)),
    )

pub returns-then-output-le0 : goal.returns-then-output-le0
unfolding cut_from
returns-then-output-le0 c =
    let o = (goal.at.returns-then-output-le0 c).After-output_at-output in
    let v = lent_interval c.args.asked.now in
    rw (le_not_lt (dispatch_at v c.args.r) (pos 0) (rw (dispatch-is o) at (simp (came c.output_at-output.result.dispatch (search rules)) at c.if-output-le0.true)))

pub returns : goal.returns
returns c =
    let o = (goal.at.returns c).After-output_at-output in
    let x = c.output_at-output.result in
    let p = c.args.asked.now.parameter in
    let fd = came x.dispatch (search rules) in
    let fl = (local x.lmp (low o) tt).same in
    let fc = came c.component_over.result c.component_over.type_inv in
    let fp = (local p (abs_in 100 p c.requires.1.parameter_in) tt).same in
    rw (fd, fl, fc, fp, c.component_over.ensures, dispatch-is o, lmp-is o) at c.cut_by.ensures
