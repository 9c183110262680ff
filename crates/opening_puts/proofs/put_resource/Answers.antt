-- `opening_puts::put_resource`: the numbers put in turn are those of the resource. Assumes nothing.
use Rattle.std.proofs.Common.{◌≡◌, ◌+◌, ap, ◌∙◌, rules}
use lib.ListN.{set}
use Rattle.rules_number.proofs.Kit.{rd}
use Rattle.opening_puts.specs.Blocks.{Rooms}
use Rattle.opening_puts.proofs.PutLaws.{block_put}
use Rattle.opening_puts.proofs.put_resource.Goals as goal

pub returns-clause-blocks : goal.returns-clause-blocks
returns-clause-blocks c =
    let a = c.args in
    let x = a.resource in
    let b = c.put_raw.new.blocks in
    let z = c.source_number in
    let rooms : Rooms x = record { bid = c.put_raw.ensures.room; points = c.put_costs.ensures.room; pack = c.put_raw-2.ensures.room } in
    let portfolio : rd x.portfolio ≡ x.portfolio = search rules in
    let source : rd z.result ≡ z.result = search rules in
    block_put x rooms a.blocks.now _ b _ _ _ a.at (c.put.ensures ∙ ap (set a.blocks.now a.at) portfolio)
    c.put_raw.ensures.blocks (c.put-2.ensures ∙ ap (set b (a.at + 25)) (source ∙ z.ensures)) c.put_costs.ensures.blocks c.put_raw-2.ensures.blocks
