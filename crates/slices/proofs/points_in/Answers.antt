-- `slices::points_in` meets its contract. Assumes nothing.
use Rattle.std.proofs.Common.{◌≡◌, ℤ, refl, ◌∙◌, arith}
use Rattle.rules_number.specs.Over.{listed, padded}
use Rattle.rules_number.proofs.Kit.{came}
use Rattle.rules_cost.specs.Costs.{most_points}
use Rattle.rules_cost.specs.declared.Point.{Point}
use Rattle.rules_library.specs.Slices.{raw_point_at}
use Rattle.rules_library.proofs.SliceLaws.{filled_next, filled}
use Rattle.slices.proofs.points_in.Invariants.{blank}
use Rattle.slices.proofs.points_in.Goals as goal

by_cells : {a a' b b' : ℤ} → a ≡ a' → b ≡ b' → ◌≡◌ {A = Point} (record { mw = a; heat = b }) (record { mw = a'; heat = b' })
by_cells e f = cc

pub loop-i-init : goal.loop-i-init
unfolding padded listed
loop-i-init c = refl

pub loop-i-preserved : goal.loop-i-preserved
loop-i-preserved c =
    filled_next most_points blank (raw_point_at c.args.s.now) c.loop-i.point-items c.loop-i.i _ (omega arith) c.loop-i.invariant
    (by_cells (came c.cell_at.result c.cell_at.type_inv ∙ c.cell_at.ensures) (came c.cell_at-in-loop-i.result c.cell_at-in-loop-i.type_inv ∙ c.cell_at-in-loop-i.ensures))

pub returns : goal.returns
returns c = filled most_points blank (raw_point_at c.args.s.now) c.loop-i.point-items c.loop-i.i (omega arith) (omega arith) c.loop-i.invariant
