-- `path::constraint::offer_into`: the tally's amounts are the row of the constraint. Assumes nothing.
use Rattle.std.proofs.Common.{◌≡◌, ◌+◌, ◌-◌, ◌*◌, ◌≤◌, ◌∷◌, ap, ◌∙◌, arith}
use Rattle.std.specs.Prelude.{ℤ}
use Rattle.std.proofs.lemmas.List.Edits.{sets}
use Rattle.rules_number.proofs.Kit.{came}
use Rattle.rules_number.proofs.TestLaws.{above, not_above}
use Rattle.path.specs.Offered.{offered_row}
use Rattle.path.specs.Tallies.{Tallied, tallied, sold_of}
use Rattle.path.proofs.JudgeLaws.{supply_few}
use Rattle.path.proofs.OfferLaws.{tallied_within, row_is, row_none}
use Rattle.path.proofs.constraint.offer_into.Goals as goal
use Rattle.path.proofs.constraint.offer_into.Goals.{After-tally_of-tally}

module _ (c : After-tally_of-tally) where
  abbrev tally : Tallied
  tally = tallied c.tally_of-tally.result c.tally_of-tally.new.offers

  supplied : tally.supply ≤ 64000000000000
  supplied = supply_few c.cell_at-shadow.result c.args.sellers.now c.args.asked.now.factors.now c.args.asked.now.outputs.now c.args.asked.now.resources c.args.c c.requires tally c.tally_of-tally.ensures

  within : tally.demand ≤ tally.supply
  within = tallied_within c.cell_at-shadow.result c.args.sellers.now c.args.asked.now.factors.now c.args.asked.now.outputs.now c.args.asked.now.resources c.args.c c.requires tally c.tally_of-tally.ensures

  row : (tally.supply + 1 - tally.demand) ∷ tally.offers ≡ offered_row (sold_of c.cell_at-shadow.result c.args.sellers.now c.args.asked.now.factors.now c.args.asked.now.outputs.now c.args.asked.now.resources c.args.c)
  row =
      row_is c.cell_at-shadow.result c.args.sellers.now c.args.asked.now.factors.now c.args.asked.now.outputs.now c.args.asked.now.resources c.args.c c.requires tally c.tally_of-tally.ensures
      (above c.cell_at-shadow.result (rw (came c.cell_at-shadow.result c.cell_at-shadow.type_inv) at c.if-shadow-le0.false))

pub returns-then-shadow-le0 : goal.returns-then-shadow-le0
returns-then-shadow-le0 c =
    let z = not_above c.cell_at-shadow.result (rw (came c.cell_at-shadow.result c.cell_at-shadow.type_inv) at c.if-shadow-le0.true) in
    c.put_offers.ensures ∙ ap (sets c.args.offered.now (17 * c.args.c)) (row_none c.cell_at-shadow.result c.args.sellers.now c.args.asked.now.factors.now c.args.asked.now.outputs.now c.args.asked.now.resources c.args.c c.requires z)
    ∙ ap (λ (x : ℤ). sets c.args.offered.now (17 * c.args.c) (offered_row (sold_of x c.args.sellers.now c.args.asked.now.factors.now c.args.asked.now.outputs.now c.args.asked.now.resources c.args.c))) c.cell_at-shadow.ensures

pub overflow_add-lack : goal.overflow_add-lack
overflow_add-lack c = omega (arith, supplied (goal.at.overflow_add-lack c).After-tally_of-tally)

pub overflow_sub-lack : goal.overflow_sub-lack
overflow_sub-lack c = omega (arith, within (goal.at.overflow_sub-lack c).After-tally_of-tally)

pub returns : goal.returns
returns c = c.put_offers-2.ensures ∙ ap (sets c.args.offered.now (17 * c.args.c)) (row (goal.at.returns c).After-tally_of-tally)
    ∙ ap (λ (x : ℤ). sets c.args.offered.now (17 * c.args.c) (offered_row (sold_of x c.args.sellers.now c.args.asked.now.factors.now c.args.asked.now.outputs.now c.args.asked.now.resources c.args.c))) c.cell_at-shadow.ensures
