-- `curve_cells::put_steps`: where it starts, one more step, and the end. Assumes nothing.
use Rattle.std.proofs.Common.{ℕ, ◌≡◌, ◌+◌, ℤ, length, get_or, refl, sym, ap, ◌∙◌, arith, rules}
use native.Mathlib.Nat.{zero-add}
use lib.ListN.{set, length-set}
use Rattle.rules_number.proofs.Kit.{rd}
use Rattle.rules_curve.specs.Curves.{blank_step}
use Rattle.rules_curve.specs.declared.Step.{Step}
use Rattle.cells.proofs.PutLaws.{begins, goes_on, ends}
use Rattle.curve_cells.proofs.put_steps.Goals as goal

abbrev end_of : Step → ℕ
end_of s = s.end

abbrev price_of : Step → ℤ
price_of s = s.price

pub loop-k-init : goal.loop-k-init
loop-k-init c =
    let a = c.args in
    record { same_edges = refl; same_prices = refl; ends_left = begins end_of a.steps.now a.edges.now 2; prices_left = begins price_of a.steps.now a.prices.now 0 }

pub loop-k-preserved : goal.loop-k-preserved
loop-k-preserved c =
    let a = c.args in
    let l = c.loop-k in
    let k = l.k in
    let x = get_or a.steps.now k blank_step in
    let price : rd x.price ≡ x.price = search rules in
    record {
      same_edges = ap length c.put.ensures ∙ length-set l.edges (2 + k) x.end ∙ l.invariant.same_edges;
      same_prices = ap length c.put-in-loop-k.ensures ∙ length-set l.prices k (rd x.price) ∙ l.invariant.same_prices;
      ends_left = goes_on end_of a.steps.now a.edges.now 2 blank_step l.edges k _ x.end l.invariant.ends_left c.loop-k-test.true c.put.ensures refl;
      prices_left = goes_on price_of a.steps.now a.prices.now 0 blank_step l.prices k _ (rd x.price) l.invariant.prices_left c.loop-k-test.true (c.put-in-loop-k.ensures ∙ ap (λ (j : ℕ). set l.prices j (rd x.price)) (sym (zero-add k))) price;
    }

pub returns-clause-edges : goal.returns-clause-edges
returns-clause-edges c = ends end_of c.args.steps.now c.args.edges.now 2 c.loop-k.edges c.loop-k.k c.loop-k.invariant.ends_left (omega arith)

pub returns-clause-prices : goal.returns-clause-prices
returns-clause-prices c = ends price_of c.args.steps.now c.args.prices.now 0 c.loop-k.prices c.loop-k.k c.loop-k.invariant.prices_left (omega arith)
