-- `opening_cells::owners_known`: a portfolio that is not known ends the walk.
use mathlib.Core.Bool.{Bool, true, false}
use mathlib.Core.List.{List}
use mathlib.Core.Path.{◌≡◌, refl, sym, ◌∙◌}
use Prim.Native.Nat.{ℕ, ◌*◌}
use native.Mathlib.Omega.{arith}
use mir.Syntax.{w64}
use mir.ValLaws.{to_z_pos}
use lib.IntN.{ℤ, pos}
use Rattle.rules_number.specs.Over.{all_to}
use Rattle.rules_number.proofs.Kit.{came, le_not_lt, not_le_lt, lt_not_le, not_lt_le}
use Rattle.rules_number.proofs.OverLaws.{all_next, all_fails}
use Rattle.rules_opening.specs.Openings.{is_known}
use Rattle.rules_library.specs.Slices.{cell_at}
use Rattle.rules_state.specs.Layout.{block_room}
use Rattle.opening_cells.proofs.owners_known.Goals as goal

-- the portfolio of resource r, and the test of it
abbrev owner : List ℤ → ℕ → ℤ
owner blocks r = cell_at blocks (block_room * r)

abbrev good : List ℤ → ℕ → ℕ → Bool
good blocks portfolios r = is_known portfolios (owner blocks r)

pub loop-r-init : goal.loop-r-init
unfolding all_to
loop-r-init c = refl

pub returns-then-portfolio-lt0 : goal.returns-then-portfolio-lt0
returns-then-portfolio-lt0 c =
    let read = came c.cell_at-portfolio.result c.cell_at-portfolio.type_inv ∙ c.cell_at-portfolio.ensures in
    let e : good c.args.blocks.now c.args.portfolios c.loop-r.r ≡ false = rw (lt_not_le (owner c.args.blocks.now c.loop-r.r) (pos 0) (rw (read) at c.if-portfolio-lt0.true)) in
    sym (all_fails (good c.args.blocks.now c.args.portfolios) c.args.n c.loop-r.r (omega arith) e)

pub returns-then-known-portfolio : goal.returns-then-known-portfolio
returns-then-known-portfolio c =
    let read = came c.cell_at-portfolio.result c.cell_at-portfolio.type_inv ∙ c.cell_at-portfolio.ensures in
    let f = to_z_pos w64 c.args.portfolios (omega arith) in
    let z = owner c.args.blocks.now c.loop-r.r in
    let e : good c.args.blocks.now c.args.portfolios c.loop-r.r ≡ false =
    rw (not_lt_le z (pos 0) (rw (read) at c.if-portfolio-lt0.false), le_not_lt (pos c.args.portfolios) z (rw (read, f) at c.if-known-portfolio.true)) in
    sym (all_fails (good c.args.blocks.now c.args.portfolios) c.args.n c.loop-r.r (omega arith) e)

pub loop-r-preserved : goal.loop-r-preserved
loop-r-preserved c =
    let read = came c.cell_at-portfolio.result c.cell_at-portfolio.type_inv ∙ c.cell_at-portfolio.ensures in
    let f = to_z_pos w64 c.args.portfolios (omega arith) in
    let z = owner c.args.blocks.now c.loop-r.r in
    let e : good c.args.blocks.now c.args.portfolios c.loop-r.r ≡ true =
    rw (not_lt_le z (pos 0) (rw (read) at c.if-portfolio-lt0.false), not_le_lt (pos c.args.portfolios) z (rw (read, f) at c.if-known-portfolio.false)) in
    all_next (good c.args.blocks.now c.args.portfolios) c.loop-r.r c.loop-r.invariant e
