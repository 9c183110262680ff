-- `market_cells::row_in` meets its contract. Assumes nothing.
use Rattle.std.proofs.Common.{◌≡◌, sym, ◌∙◌, arith}
use lib.ListN.{get_or-eq_default}
use Rattle.rules_number.proofs.OverLaws.{listed_length, listed_at}
use Rattle.rules_curve.specs.declared.Curve.{Curve}
use Rattle.rules_opening.specs.Resources.{blank_row}
use Rattle.rules_opening.specs.declared.Row.{Row}
use Rattle.rules_state.specs.Layout.{most_resources}
use Rattle.rules_state.specs.States.{row_in, rows_in}
use Rattle.market_cells.proofs.row_in.Goals as goal

by_fields : {b b' d d' : Curve} → b ≡ b' → d ≡ d' → ◌≡◌ {A = Row} (record { bid = b; default = d }) (record { bid = b'; default = d' })
by_fields e f = cc

pub returns-then-r-ge-MAX_RESOURCES : goal.returns-then-r-ge-MAX_RESOURCES
unfolding rows_in
returns-then-r-ge-MAX_RESOURCES c =
    c.blank_row.ensures ∙ sym (get_or-eq_default (rows_in c.args.state.now) blank_row (omega (arith, c.if-r-ge-MAX_RESOURCES.true, listed_length (row_in c.args.state.now) most_resources)))

pub returns : goal.returns
unfolding rows_in row_in
returns c =
    by_fields c.curve_in.ensures c.curve_in-2.ensures ∙ sym (listed_at (row_in c.args.state.now) blank_row most_resources c.args.r c.if-r-ge-MAX_RESOURCES.false)
