-- `cost::charges_good`: each test is that of its field. Assumes nothing.
use Rattle.std.proofs.Common.{◌≡◌, Bool, ℤ, pos, sym, ap, ◌∙◌, rules}
use Rattle.rules_number.specs.Order.{in_range}
use Rattle.rules_cost.specs.Costs.{charges_in_range}
use Rattle.rules_library.specs.Slices.{cell_at, costs_in}
use Rattle.cost.proofs.charges_good.Goals as goal

abbrev test : ℤ → Bool
test = in_range (pos 0) (pos 1000000)

pub returns-then-not-within : goal.returns-then-not-within
unfolding charges_in_range costs_in
returns-then-not-within c n points =
    let om : c.within.result ≡ test (cell_at c.args.charges.now 3) = c.within.ensures ∙ ap test (search rules) in
    simp (sym om ∙ c.if-not-within.true)

pub returns-then-not-within-2 : goal.returns-then-not-within-2
unfolding charges_in_range costs_in
returns-then-not-within-2 c n points =
    let om : c.within.result ≡ test (cell_at c.args.charges.now 3) = c.within.ensures ∙ ap test (search rules) in
    let msc : c.within-2.result ≡ test (cell_at c.args.charges.now 4) = c.within-2.ensures ∙ ap test (search rules) in
    simp (sym om ∙ c.if-not-within.false, sym msc ∙ c.if-not-within-2.true)

pub returns-then-not-within-3 : goal.returns-then-not-within-3
unfolding charges_in_range costs_in
returns-then-not-within-3 c n points =
    let om : c.within.result ≡ test (cell_at c.args.charges.now 3) = c.within.ensures ∙ ap test (search rules) in
    let msc : c.within-2.result ≡ test (cell_at c.args.charges.now 4) = c.within-2.ensures ∙ ap test (search rules) in
    let soc : c.within-3.result ≡ test (cell_at c.args.charges.now 5) = c.within-3.ensures ∙ ap test (search rules) in
    simp (sym om ∙ c.if-not-within.false, sym msc ∙ c.if-not-within-2.false, sym soc ∙ c.if-not-within-3.true)

pub returns : goal.returns
unfolding charges_in_range costs_in
returns c n points =
    let om : c.within.result ≡ test (cell_at c.args.charges.now 3) = c.within.ensures ∙ ap test (search rules) in
    let msc : c.within-2.result ≡ test (cell_at c.args.charges.now 4) = c.within-2.ensures ∙ ap test (search rules) in
    let soc : c.within-3.result ≡ test (cell_at c.args.charges.now 5) = c.within-3.ensures ∙ ap test (search rules) in
    let fee : c.within-4.result ≡ test (cell_at c.args.charges.now 6) = c.within-4.ensures ∙ ap test (search rules) in
    simp (sym om ∙ c.if-not-within.false, sym msc ∙ c.if-not-within-2.false, sym soc ∙ c.if-not-within-3.false) fee
