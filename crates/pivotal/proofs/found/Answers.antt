-- `pivotal::found`: what the offers tell, and what is found over them. Assumes nothing.
use Rattle.std.proofs.Common.{rules}
use Rattle.std.specs.Result.{result_unwrap_or}
use mathlib.Core.Path.{◌≡◌, sym, ap, ◌∙◌}
use Prim.Native.Nat.{ℕ, ◌<◌}
use native.Mathlib.Omega.{arith}
use lib.ListN.{replicate}
use lib.Seq.{sets}
use Rattle.rules_curve.specs.Refusals.{outcome_number}
use Rattle.rules_curve.proofs.RefusalLaws.{refused_number}
use Rattle.rules_interval.specs.Intervals.{interval_refusal}
use Rattle.rules_interval.specs.declared.Interval.{Interval}
use Rattle.rules_interval.proofs.IntervalLaws.{in_limits}
use Rattle.rules_path.specs.declared.Market.{Market}
use Rattle.rules_pivotal.specs.Pivotals.{any_binds, none_found, pivotal_refusal, pivotal_of}
use Rattle.rules_pivotal.proofs.Jointly.{tried_in_budget}
use Rattle.rules_state.specs.States.{market_in}
use Rattle.rules_state.specs.Takes.{if_accepted}
use Rattle.interval.specs.Over.{lent_interval}
use Rattle.path.specs.Offered.{offered_cells}
use Rattle.pivotal.specs.Rows.{pivotal_on}
use Rattle.pivotal.proofs.AnswerLaws.{refused_before, refused_26, accepted, accepted_is, refused_none}
use Rattle.pivotal.proofs.RowLaws.{pivotal_same, floor_ok, held}
use Rattle.pivotal.proofs.found.Goals as goal
use Rattle.pivotal.proofs.found.Goals.{In_ok-offered_into, After-any_binds, After-found_in}

-- what the offers tell where they are taken
rows-are : (c : In_ok-offered_into) → c.offered_into.new.offered ≡ sets (replicate 544 0) 0 (offered_cells (market_in c.args.state.now) (lent_interval c.args.asked.now))
rows-are c =
    c.offered_into.ensures.offered
    ∙ ap (λ (n : ℕ). if_accepted n (sets (replicate 544 0) 0 (offered_cells (market_in c.args.state.now) (lent_interval c.args.asked.now))) (replicate 544 0)) (sym c.in_ok-offered_into.ensures.number)

bound-is : (c : After-any_binds) → c.any_binds.result ≡ any_binds (market_in c.args.state.now) (lent_interval c.args.asked.now)
unfolding any_binds
bound-is c = c.any_binds.ensures

pub returns-in_err-offered_into-clause-number : goal.returns-in_err-offered_into-clause-number
returns-in_err-offered_into-clause-number c =
    let m = market_in c.args.state.now in
    let v = lent_interval c.args.asked.now in
    let k : 0 < interval_refusal m.resources v = rw (sym c.in_err-offered_into.ensures.number) (refused_number c.in_err-offered_into.field-0.0) in
    let x : outcome_number c.from_residual.result ≡ interval_refusal m.resources v = search rules in
    x ∙ refused_before m v c.args.budget k

pub returns-in_err-offered_into-clause-found : goal.returns-in_err-offered_into-clause-found
returns-in_err-offered_into-clause-found c =
    let m = market_in c.args.state.now in
    let v = lent_interval c.args.asked.now in
    let k : 0 < interval_refusal m.resources v = rw (sym c.in_err-offered_into.ensures.number) (refused_number c.in_err-offered_into.field-0.0) in
    let x : result_unwrap_or c.from_residual.result none_found ≡ none_found = search rules in
    x ∙ refused_none m v c.args.budget (interval_refusal m.resources v) k (refused_before m v c.args.budget k)

pub returns-then-not-any_binds-clause-number : goal.returns-then-not-any_binds-clause-number
returns-then-not-any_binds-clause-number c =
    refused_26 (market_in c.args.state.now) (lent_interval c.args.asked.now) c.args.budget (sym c.in_ok-offered_into.ensures.number)
    (sym (bound-is (goal.at.returns-then-not-any_binds-clause-number c).After-any_binds) ∙ c.if-not-any_binds.true)

pub returns-then-not-any_binds-clause-found : goal.returns-then-not-any_binds-clause-found
returns-then-not-any_binds-clause-found c =
    let m = market_in c.args.state.now in
    let v = lent_interval c.args.asked.now in
    refused_none m v c.args.budget 26 (omega arith)
    (refused_26 m v c.args.budget (sym c.in_ok-offered_into.ensures.number) (sym (bound-is (goal.at.returns-then-not-any_binds-clause-found c).After-any_binds) ∙ c.if-not-any_binds.true))

pub found_in-requires : goal.found_in-requires
found_in-requires c =
    let m = market_in c.args.state.now in
    let v = lent_interval c.args.asked.now in
    let e = sym c.in_ok-offered_into.ensures.number in
    let r = rows-are (goal.at.found_in-requires c).In_ok-offered_into in (
      (in_limits m.resources v e).constraints,
      (c.net_sellers-sellers.ensures.1, (held m v c.offered_into.new.offered e r, rw c.net_sellers-sellers.ensures.0 (floor_ok m v c.offered_into.new.offered e r))),
    )

-- what is found is what the definition gives
module _ (c : After-found_in) (rows : c.offered_into.new.offered ≡ sets (replicate 544 0) 0 (offered_cells (market_in c.args.state.now) (lent_interval c.args.asked.now)))
    (bound : c.any_binds.result ≡ any_binds (market_in c.args.state.now) (lent_interval c.args.asked.now)) where
  abbrev m : Market
  m = market_in c.args.state.now

  abbrev v : Interval
  v = lent_interval c.args.asked.now

  number : pivotal_refusal m v ≡ 0
  number = accepted m v c.args.budget (sym c.in_ok-offered_into.ensures.number) (sym bound ∙ c.if-not-any_binds.false)

  is : c.found_in.result ≡ pivotal_of m v c.args.budget
  is =
      c.found_in.ensures ∙ ap (λ (k : ℕ). pivotal_on c.offered_into.new.offered c.args.asked.now.constraints k c.args.budget) c.net_sellers-sellers.ensures.0
      ∙ pivotal_same m v c.offered_into.new.offered (sym c.in_ok-offered_into.ensures.number) rows c.args.budget ∙ accepted_is m v c.args.budget number

pub returns-clause-number : goal.returns-clause-number
returns-clause-number c =
    let p = goal.at.returns-clause-number c in
    sym (number c (rows-are p.In_ok-offered_into) (bound-is p.After-any_binds))

pub returns-clause-found : goal.returns-clause-found
returns-clause-found c =
    let p = goal.at.returns-clause-found c in
    is c (rows-are p.In_ok-offered_into) (bound-is p.After-any_binds)

-- so no more is tried than the budget
pub returns-clause-in_budget : goal.returns-clause-in_budget
returns-clause-in_budget c =
    let p = goal.at.returns-clause-in_budget c in
    rw (is c (rows-are p.In_ok-offered_into) (bound-is p.After-any_binds)) (tried_in_budget (market_in c.args.state.now) (lent_interval c.args.asked.now) c.args.budget)
