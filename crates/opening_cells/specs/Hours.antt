-- The cells of an hour by the blocks of its resources.
use mathlib.Core.List.{List, ◌++◌, flat_map}
use Rattle.std.specs.Prelude.{ℕ, ℤ, pos}
use Rattle.std.proofs.lemmas.List.Edits.{sets}
use Rattle.rules_number.specs.Order.{nat_of}
use Rattle.rules_number.specs.Over.{listed}
use Rattle.rules_curve.specs.Refusals.{each_to}
use Rattle.rules_opening.specs.Openings.{market_of}
use Rattle.rules_opening.specs.Resources.{resource_refusal, row_of}
use Rattle.rules_hour.specs.Hours.{fresh_standing}
use Rattle.rules_pass.specs.Passes.{fresh_quarter}
use Rattle.rules_state.specs.Layout.{rows_from}
use Rattle.rules_state.specs.Openings.{block_of, resource_in, opening_in}
use Rattle.rules_opening.specs.declared.Opening.{Opening}
use Rattle.opening_cells.specs.declared.LentOpening.{LentOpening}
use Rattle.opening_cells.specs.declared.LentCurve.{LentCurve}
use Rattle.rules_curve.specs.declared.RawCurve.{RawCurve}
use Rattle.rules_library.specs.Slices.{raw_bid}
use Rattle.rules_state.specs.States.{standing_cells, quarter_cells, market_cells, row_cells}

-- a curve that is lent
abbrev pub lent_curve : LentCurve → RawCurve
lent_curve g = raw_bid g.start g.count g.steps.now

-- the refusal of resource r
abbrev pub refusal_of : ℕ → List ℤ → ℕ → ℕ
refusal_of month blocks r = resource_refusal month (resource_in (block_of blocks r))

-- the rows of the first n resources
abbrev pub rows_of : List ℤ → ℕ → List ℤ
rows_of blocks n = flat_map row_cells (listed (λ r. row_of (resource_in (block_of blocks r))) n)

-- a fresh standing, a fresh quarter hour, and who owns what
abbrev pub fresh_of : ℕ → List ℤ → ℕ → List ℤ → List ℤ
fresh_of portfolios sellers resources blocks =
    standing_cells fresh_standing ++ quarter_cells fresh_quarter ++ market_cells (market_of (opening_in (pos 0) portfolios sellers resources blocks))

-- the cells s with these and the rows put into them
abbrev pub hour_of : ℕ → List ℤ → ℕ → List ℤ → List ℤ → List ℤ
hour_of portfolios sellers resources blocks s = sets (sets s 0 (fresh_of portfolios sellers resources blocks)) rows_from (rows_of blocks resources)

-- ---- of lent slices: the opening, its resources' first refusal, and the cells s with its hour put into them
abbrev pub lent_opening : LentOpening → Opening
lent_opening g = opening_in g.month g.portfolios g.sellers.now g.resources g.blocks.now

abbrev pub rows_refusal : LentOpening → ℕ
rows_refusal g = each_to (refusal_of (nat_of g.month) g.blocks.now) g.resources

abbrev pub hour_in : LentOpening → List ℤ → List ℤ
hour_in g s = hour_of g.portfolios g.sellers.now g.resources g.blocks.now s
