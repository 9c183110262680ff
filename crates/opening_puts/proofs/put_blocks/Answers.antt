-- `opening_puts::put_blocks`: one more block, and the end. Assumes nothing.
use Rattle.std.proofs.Common.{ℕ, ◌≡◌, ◌+◌, ◌*◌, length, get_or, ap, ◌∙◌, below_more, arith, rules}
use lib.Seq.{sets, length-sets}
use Rattle.rules_opening.specs.Openings.{no_resource}
use Rattle.rules_state.specs.Layout.{most_resources, block_room}
use Rattle.cells.proofs.PutLaws.{blocks_go_on, blocks_end}
use Rattle.opening_puts.specs.Blocks.{block_numbers, Rooms}
use Rattle.opening_puts.proofs.PutLaws.{block_length, each_from}
use Rattle.opening_puts.proofs.put_blocks.Goals as goal

pub loop-r-preserved : goal.loop-r-preserved
loop-r-preserved c =
    let a = c.args in
    let l = c.loop-r in
    let many : length a.list ≡ most_resources = search rules in
    let x = get_or a.list l.r no_resource in
    let i = block_room * l.r in
    let z : i ≡ 0 + i = omega arith in
    let rooms = c.put_resource.ensures.room in
    let out = c.put_resource.ensures.blocks ∙ ap (λ (n : ℕ). sets l.blocks n (block_numbers x)) z in
    record {
      same_length = ap length out ∙ length-sets l.blocks (0 + i) (block_numbers x) ∙ l.invariant.same_length;
      rooms = below_more _ _ l.invariant.rooms rooms;
      left = blocks_go_on block_numbers block_room a.list a.blocks.now 0 no_resource l.blocks l.r _ l.invariant.left (omega (arith, many))
          (block_length x rooms) out;
    }

pub returns-clause-room : goal.returns-clause-room
returns-clause-room c =
    let n : length c.args.list ≡ most_resources = search rules in
    each_from Rooms no_resource c.args.list (λ k h. c.loop-r.invariant.rooms k (omega (arith, n)))

pub returns-clause-blocks : goal.returns-clause-blocks
returns-clause-blocks c =
    let n : length c.args.list ≡ most_resources = search rules in
    blocks_end block_numbers block_room c.args.list c.args.blocks.now 0 c.loop-r.blocks c.loop-r.r c.loop-r.invariant.left (omega (arith, n))
