-- `cost::prices_good`: each test is that of its field. Assumes nothing.
use Rattle.std.proofs.Common.{◌≡◌, pos, sym, ap, ◌∙◌, rules}
use Rattle.rules_number.specs.Order.{in_range}
use Rattle.rules_cost.specs.Costs.{prices_in_range}
use Rattle.rules_library.specs.Slices.{cell_at, costs_in}
use Rattle.cost.proofs.prices_good.Goals as goal

pub returns-then-not-within : goal.returns-then-not-within
unfolding prices_in_range costs_in
returns-then-not-within c n points =
    let gas : c.within.result ≡ in_range (pos 0) (pos 1000000) (cell_at c.args.charges.now 0) = c.within.ensures ∙ ap (in_range (pos 0) (pos 1000000)) (search rules) in
    simp (sym gas ∙ c.if-not-within.true)

pub returns-then-not-within-2 : goal.returns-then-not-within-2
unfolding prices_in_range costs_in
returns-then-not-within-2 c n points =
    let gas : c.within.result ≡ in_range (pos 0) (pos 1000000) (cell_at c.args.charges.now 0) = c.within.ensures ∙ ap (in_range (pos 0) (pos 1000000)) (search rules) in
    let rate : c.within-2.result ≡ in_range (pos 0) (pos 200000) (cell_at c.args.charges.now 1) = c.within-2.ensures ∙ ap (in_range (pos 0) (pos 200000)) (search rules) in
    simp (sym gas ∙ c.if-not-within.false, sym rate ∙ c.if-not-within-2.true)

pub returns-then-not-within-3 : goal.returns-then-not-within-3
unfolding prices_in_range costs_in
returns-then-not-within-3 c n points =
    let gas : c.within.result ≡ in_range (pos 0) (pos 1000000) (cell_at c.args.charges.now 0) = c.within.ensures ∙ ap (in_range (pos 0) (pos 1000000)) (search rules) in
    let rate : c.within-2.result ≡ in_range (pos 0) (pos 200000) (cell_at c.args.charges.now 1) = c.within-2.ensures ∙ ap (in_range (pos 0) (pos 200000)) (search rules) in
    let allowance : c.within-3.result ≡ in_range (pos 0) (pos 10000000) (cell_at c.args.charges.now 2) = c.within-3.ensures ∙ ap (in_range (pos 0) (pos 10000000)) (search rules) in
    simp (sym gas ∙ c.if-not-within.false, sym rate ∙ c.if-not-within-2.false, sym allowance ∙ c.if-not-within-3.true)

pub returns : goal.returns
unfolding prices_in_range costs_in
returns c n points =
    let gas : c.within.result ≡ in_range (pos 0) (pos 1000000) (cell_at c.args.charges.now 0) = c.within.ensures ∙ ap (in_range (pos 0) (pos 1000000)) (search rules) in
    let rate : c.within-2.result ≡ in_range (pos 0) (pos 200000) (cell_at c.args.charges.now 1) = c.within-2.ensures ∙ ap (in_range (pos 0) (pos 200000)) (search rules) in
    let allowance : c.within-3.result ≡ in_range (pos 0) (pos 10000000) (cell_at c.args.charges.now 2) = c.within-3.ensures ∙ ap (in_range (pos 0) (pos 10000000)) (search rules) in
    simp (sym gas ∙ c.if-not-within.false, sym rate ∙ c.if-not-within-2.false, sym allowance ∙ c.if-not-within-3.false) (c.charges_good.ensures n points)
