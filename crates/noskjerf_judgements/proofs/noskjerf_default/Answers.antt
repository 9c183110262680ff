-- `noskjerf_judgements::noskjerf_default` meets its contract. Assumes nothing.
use mathlib.Core.Path.{ap, ◌∙◌}
use Rattle.std.specs.Result.{result_unwrap_or}
use Rattle.rules_curve.specs.Curves.{unless_refused, blank_curve}
use Rattle.rules_curve.specs.Refusals.{outcome_number}
use Rattle.rules_cost.specs.Costs.{cost_refusal, cost_curve}
use Rattle.rules_cost.specs.declared.Costs.{Costs}
use Rattle.rules_library.specs.Slices.{costs_in}
use Rattle.put_slices.proofs.PutLaws.{Answered, put_same}
use Rattle.noskjerf_judgements.proofs.DefaultLaws.{put_costs}
use Rattle.noskjerf_judgements.proofs.noskjerf_default.Goals as goal

written : (c : goal.After-prices-1)
    → Answered c.args.edges.now c.args.prices.now (cost_refusal (costs_in c.args.count c.args.points.now c.args.charges.now)) (cost_curve (costs_in c.args.count c.args.points.now c.args.charges.now))
    c.put_checked.result c.put_checked.new.edges c.put_checked.new.prices
written c =
    let r = c.put_checked in
    let d = c.default_curve-checked in
    let i = c.costs_in.ensures in
    let costs = costs_in c.args.count c.args.points.now c.args.charges.now in
    put_costs c.args.edges.now c.args.prices.now costs r.result r.new.edges r.new.prices
    (put_same c.args.edges.now c.args.prices.now (outcome_number d.result) (cost_refusal costs) (result_unwrap_or d.result blank_curve) (unless_refused (cost_refusal costs) (cost_curve costs))
    (d.ensures.number ∙ ap cost_refusal i) (d.ensures.curve ∙ ap (λ (k : Costs). unless_refused (cost_refusal k) (cost_curve k)) i) r.result r.new.edges r.new.prices
    (r.ensures.answer, (r.ensures.edges, r.ensures.prices)))

pub returns-clause-edges : goal.returns-clause-edges
returns-clause-edges c = (written c).1.0

pub returns-clause-prices : goal.returns-clause-prices
returns-clause-prices c = (written c).1.1
