-- `put_slices::put_checked`: one answer for each way out. Assumes nothing.
use Rattle.std.proofs.Common.{negsuc, refl, sym, ap, ◌∙◌}
use Rattle.std.specs.Result.{result_unwrap_or}
use Rattle.rules_curve.specs.Curves.{blank_curve}
use Rattle.rules_curve.specs.Refusals.{outcome_number}
use Rattle.rules_curve.proofs.RefusalLaws.{told_number}
use Rattle.put_slices.proofs.PutLaws.{Answered, few_edges, few_prices, refused, written}
use Rattle.put_slices.proofs.put_checked.Goals as goal
use Rattle.put_slices.proofs.put_checked.Goals.{then-edges-lt-EDGES-via-then-edges-lt-EDGES, then-edges-lt-EDGES-via-else-edges-lt-EDGES+then-prices-lt-PRICES}

pub returns-then-edges-lt-EDGES : goal.returns-then-edges-lt-EDGES
returns-then-edges-lt-EDGES c =
    let e = c.args.edges.now in
    let p = c.args.prices.now in
    let n = outcome_number c.args.checked in
    let curve = result_unwrap_or c.args.checked blank_curve in
    let x : Answered e p n curve (negsuc 0) e p = elim c.then-edges-lt-EDGES.branch [
      | then-edges-lt-EDGES-via-then-edges-lt-EDGES w ↦ few_edges e p n curve w.if-edges-lt-EDGES.true
      | then-edges-lt-EDGES-via-else-edges-lt-EDGES+then-prices-lt-PRICES w ↦ few_prices e p n curve w.if-edges-lt-EDGES.false w.if-prices-lt-PRICES.true
    ] in
    record { answer = x.0; edges = x.1.0; prices = x.1.1 }

pub returns-in-Err-clause-edges : goal.returns-in-Err-clause-edges
returns-in-Err-clause-edges c =
    let few = told_number c.in-Err.refusal c.refusal_number.result c.refusal_number.ensures in
    let told = ap outcome_number c.in-Err.is ∙ sym c.refusal_number.ensures in
    (refused c.args.edges.now c.args.prices.now _ _ c.if-edges-lt-EDGES.false c.if-prices-lt-PRICES.false c.refusal_number.result few.0 told).1.0

pub returns-in-Err-clause-prices : goal.returns-in-Err-clause-prices
returns-in-Err-clause-prices c =
    let few = told_number c.in-Err.refusal c.refusal_number.result c.refusal_number.ensures in
    let told = ap outcome_number c.in-Err.is ∙ sym c.refusal_number.ensures in
    (refused c.args.edges.now c.args.prices.now _ _ c.if-edges-lt-EDGES.false c.if-prices-lt-PRICES.false c.refusal_number.result few.0 told).1.1

pub returns-in-Ok-clause-edges : goal.returns-in-Ok-clause-edges
returns-in-Ok-clause-edges c =
    rw c.in-Ok.is
    (c.put_default.ensures.edges ∙ (written c.args.edges.now c.args.prices.now 0 c.in-Ok.curve c.if-edges-lt-EDGES.false c.if-prices-lt-PRICES.false refl).1.0)

pub returns-in-Ok-clause-prices : goal.returns-in-Ok-clause-prices
returns-in-Ok-clause-prices c =
    rw c.in-Ok.is
    (c.put_default.ensures.prices ∙ (written c.args.edges.now c.args.prices.now 0 c.in-Ok.curve c.if-edges-lt-EDGES.false c.if-prices-lt-PRICES.false refl).1.1)
