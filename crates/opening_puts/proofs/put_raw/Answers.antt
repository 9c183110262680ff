-- `opening_puts::put_raw`: the numbers put in turn are those of the curve. Assumes nothing.
use Rattle.std.proofs.Common.{◌≡◌, ap, ◌∙◌, rules}
use lib.ListN.{set}
use Rattle.rules_number.proofs.Kit.{rd}
use Rattle.opening_puts.specs.Blocks.{step_numbers}
use Rattle.opening_puts.proofs.PutLaws.{raw_put}
use Rattle.opening_puts.proofs.put_raw.Goals as goal

pub returns-clause-blocks : goal.returns-clause-blocks
returns-clause-blocks c =
    let a = c.args in
    let start : rd a.raw.start ≡ a.raw.start = search rules in
    raw_put a.raw a.blocks.now _ _ _ a.at (c.put.ensures ∙ ap (set a.blocks.now a.at) start) c.put_whole.ensures (c.put_pairs.ensures step_numbers (λ x y p. search rules))
