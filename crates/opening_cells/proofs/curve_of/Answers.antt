-- `opening_cells::curve_of`.
use Prim.Native.Nat.{◌+◌, ◌*◌, ◌^◌, ◌<◌}
use mathlib.Core.Path.{◌≡◌, sym, ap, ◌∙◌}
use native.Mathlib.Numerals.{add-one}
use native.Mathlib.Omega.{arith}
use mir.Facts.{to_z_pos}
use mir.Syntax.{w64}
use mir.Val.{to_z}
use lib.IntN.{pos}
use lib.Signed.{mag}
use Rattle.std.proofs.Common.{rules}
use Rattle.rules_number.proofs.Kit.{rd, came}
use Rattle.rules_library.specs.Slices.{cell_at}
use Rattle.rules_state.specs.States.{cell_of}
use Rattle.opening_cells.proofs.CellLaws.{cell_max}
use Rattle.opening_cells.proofs.StepLaws.{cells_before, cells_next, cells_after_lem}
use Rattle.opening_cells.proofs.curve_of.Goals as goal

pub loop-k-init : goal.loop-k-init
loop-k-init c =
    let f : rd c.args.raw.now.start ≡ c.args.raw.now.start = search rules in
    let m : mag c.args.raw.now.start < 2 ^ 63 = search rules in
    let e = came c.max.result c.max.type_inv ∙ rw f at c.max.ensures ∙ cell_max c.args.raw.now.start m in
    let g : to_z w64 c.args.raw.now.count ≡ cell_of c.args.raw.now.count = to_z_pos w64 {n = c.args.raw.now.count} (omega arith) ∙ ap pos (omega arith) in
    rw (e, g) (sym (cells_before c.args.raw.now.start c.args.raw.now.count c.args.raw.now.steps.now (omega arith)))

pub loop-k-preserved : goal.loop-k-preserved
loop-k-preserved c =
    let k = c.loop-k.k in
    let x = cell_at c.args.raw.now.steps.now (2 * k) in
    let y = cell_at c.args.raw.now.steps.now (2 * k + 1) in
    let m : mag x < 2 ^ 63 = search rules in
    let e = came c.max-in-loop-k.result c.max-in-loop-k.type_inv ∙ rw (came x m) at c.max-in-loop-k.ensures ∙ cell_max x m in
    let g : rd y ≡ y = search rules in
    rw (e, g, c.loop-k.invariant, add-one k) (cells_next c.args.raw.now.start c.args.raw.now.count c.args.raw.now.steps.now (omega arith) k (omega arith))

pub returns : goal.returns
returns c =
    let e : c.loop-k.k ≡ c.args.raw.now.count = omega arith in
    rw e at c.loop-k.invariant ∙ cells_after_lem c.args.raw.now.start c.args.raw.now.count c.args.raw.now.steps.now (omega arith)
