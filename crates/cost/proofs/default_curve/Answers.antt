-- `cost::default_curve`: the costs go into numbers and the curve comes back from its cells. Assumes nothing.
use Rattle.std.proofs.Common.{◌<◌, sym, subst, ℕ, ◌∙◌}
use Rattle.std.proofs.lemmas.Result.{err_from_is_err_and}
use Rattle.rules_cost.specs.Costs.{cost_refusal, cost_curve}
use Rattle.rules_curve.proofs.Answered.{refused_alone}
use Rattle.rules_curve.proofs.RefusalLaws.{refused_number}
use Rattle.cost.proofs.CellLaws.{default_back}
use Rattle.cost.proofs.NumberLaws.{costs_again}
use Rattle.cost.proofs.default_curve.Goals as goal

pub returns-in_err-default_cells : goal.returns-in_err-default_cells
returns-in_err-default_cells c =
    let a = c.args.costs in
    let again = costs_again a c.numbers_of-numbers.result c.charges_of-charges.result c.numbers_of-numbers.ensures c.charges_of-charges.ensures in
    let e = rw again at c.in_err-default_cells.ensures.number in
    let some : 0 < cost_refusal a = subst (λ (n : ℕ). 0 < n) e (refused_number _) in
    let p = err_from_is_err_and c.from_residual.result c.from_residual.ensures.1 in
    rw (p.1, p.2) (record { number = e; curve = sym (refused_alone (cost_refusal a) (cost_curve a) some) })

pub returns : goal.returns
returns c =
    let a = c.args.costs in
    let again = costs_again a c.numbers_of-numbers.result c.charges_of-charges.result c.numbers_of-numbers.ensures c.charges_of-charges.ensures in
    record {
      number = rw again at c.in_ok-default_cells.ensures.number;
      curve = c.curve_in.ensures ∙ default_back a _ (rw again at c.default_cells.ensures.cells);
    }
