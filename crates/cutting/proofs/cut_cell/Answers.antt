-- `cutting::cut_cell`: the mark and the floor price are put. Assumes nothing.
use Rattle.std.specs.Prelude.{Some}
use Rattle.std.proofs.Common.{◌≡◌, rules}
use Rattle.rules_number.proofs.Kit.{came}
use Rattle.rules_mitigation.specs.Mitigation.{lowered}
use Rattle.rules_state.specs.States.{floor_of, price_of}
use Rattle.rules_state.specs.Takes.{cut_cell}
use Rattle.cutting.proofs.CellLaws.{cut_made}
use Rattle.cutting.proofs.cut_cell.Goals as goal

pub returns-in_default : goal.returns-in_default
unfolding cut_cell
returns-in_default c = rw c.in_default.is

pub returns : goal.returns
returns c =
    let fr = came c.lowered_to.result c.lowered_to.type_inv in
    let left : c.lowered_to.result ≡ price_of (lowered (floor_of c.cell_at-mark.result c.cell_at-before.result).price (Some c.in-Some.price)) = search rules in
    rw c.in-Some.is
    (cut_made c.args.from c.args.r c.in-Some.price c.args.state.now c.put.new.cells c.put-2.new.cells c.cell_at-mark.result c.cell_at-before.result c.lowered_to.result c.cell_at-mark.ensures
    c.cell_at-before.ensures left c.put.ensures (simp fr at c.put-2.ensures))
