-- `cost::split_at`: no segment before the one reached is split. Assumes nothing.
use Rattle.std.proofs.Common.{◌≡◌, ◌+◌, ◌*◌, ◌&&◌, sym, ap₂, ◌∙◌, arith, rules}
use lib.Signed.{lt_z}
use Rattle.rules_number.proofs.Kit.{rd, came}
use Rattle.rules_cost.proofs.SplitLaws.{first_none, first_is}
use Rattle.rules_library.specs.Slices.{cell_at}
use Rattle.cost.specs.Cells.{splits_at}
use Rattle.cost.proofs.split_at.Goals as goal

pub returns-then-lies_inside : goal.returns-then-lies_inside
returns-then-lies_inside c =
    let a = c.args in
    let i = c.loop-i.i in
    let from : rd (cell_at a.points.now (2 * i)) ≡ cell_at a.points.now (2 * i) = search rules in
    let to : rd (cell_at a.points.now (2 * i + 2)) ≡ cell_at a.points.now (2 * i + 2) = search rules in
    let k = came a.k c.ranges.k.sfits in
    let test : c.lies_inside.result ≡ splits_at a.points.now a.k i = c.lies_inside.ensures ∙ ap₂ ◌&&◌ (ap₂ lt_z from k) (ap₂ lt_z k to) in
    sym (first_is (splits_at a.points.now a.k) a.n i (omega arith) (sym test ∙ c.if-lies_inside.true) (λ j h. rw k at (c.loop-i.invariant.none j h)))

pub returns : goal.returns
returns c =
    let k = came c.args.k c.ranges.k.sfits in
    sym (first_none (splits_at c.args.points.now c.args.k) c.args.n (λ j h. rw k at (c.loop-i.invariant.none j (omega arith))))
