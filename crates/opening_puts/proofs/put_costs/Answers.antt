-- `opening_puts::put_costs`: the numbers put in turn are those of the costs. Assumes nothing.
use Rattle.std.proofs.Common.{◌≡◌, ◌+◌, length, ap, ◌∙◌, rules}
use lib.ListN.{set}
use Rattle.rules_number.proofs.Kit.{rd}
use Rattle.rules_cost.specs.Costs.{most_points}
use Rattle.opening_puts.specs.Blocks.{point_numbers}
use Rattle.opening_puts.proofs.PutLaws.{pair_exact, cost_put}
use Rattle.opening_puts.proofs.put_costs.Goals as goal

pub returns-clause-blocks : goal.returns-clause-blocks
returns-clause-blocks c =
    let a = c.args in
    let x = a.costs in
    let eleven : length x.points ≡ most_points = search rules in
    let gas : rd x.gas ≡ x.gas = search rules in
    let rate : rd x.rate ≡ x.rate = search rules in
    let allowance : rd x.allowance ≡ x.allowance = search rules in
    let om : rd x.om ≡ x.om = search rules in
    let msc : rd x.msc ≡ x.msc = search rules in
    let soc : rd x.soc ≡ x.soc = search rules in
    let fee : rd x.fee ≡ x.fee = search rules in
    let points = c.put_pairs.new.blocks in
    let two = c.put_pair.new.blocks in
    let four = c.put_pair-2.new.blocks in
    let six = c.put_pair-3.new.blocks in
    cost_put x eleven a.blocks.now _ _ _ _ six _ a.at c.put_whole.ensures (c.put_pairs.ensures point_numbers (λ x y p. search rules))
    (pair_exact points two (a.at + 23) x.gas x.rate (rd x.gas) (rd x.rate) gas rate c.put_pair.ensures)
    (pair_exact two four (a.at + 25) x.allowance x.om (rd x.allowance) (rd x.om) allowance om c.put_pair-2.ensures)
    (pair_exact four six (a.at + 27) x.msc x.soc (rd x.msc) (rd x.soc) msc soc c.put_pair-3.ensures)
    (c.put.ensures ∙ ap (set six (a.at + 29)) fee)
