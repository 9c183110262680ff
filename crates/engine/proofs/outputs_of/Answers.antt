-- `engine::outputs_of`: four numbers more are put.
use Rattle.std.proofs.Common.{arith, rules, ◌≡◌, ◌∙◌, ◌*◌, ap, length}
use lib.Seq.{length-sets}
use Rattle.rules_number.proofs.Kit.{came}
use Rattle.rules_state.specs.Layout.{most_resources}
use Rattle.engine.proofs.OutputLaws.{four, next, put_next, all_put}
use Rattle.engine.proofs.outputs_of.Goals as goal

pub loop-r-init : goal.loop-r-init
loop-r-init c = (search rules, λ r h. absurd (omega arith))

pub loop-r-preserved : goal.loop-r-preserved
loop-r-preserved c =
    let v = c.args.v.now in
    let r = c.loop-r.r in
    let i = c.loop-r.invariant in
    let put = next v.lmp v.dispatch v.available v.floor c.loop-r.outputs r _ _ _ _ (came _ c.outputs-1.given) (came _ c.outputs-in-loop-r-1.given) (came _ c.outputs-in-loop-r-2-1.given) (came _ c.outputs-in-loop-r-3-1.given) in (
      ap length put ∙ length-sets c.loop-r.outputs (4 * r) (four v.lmp v.dispatch v.available v.floor r) ∙ i.0,
      rw put (put_next v.lmp v.dispatch v.available v.floor c.loop-r.outputs r (omega arith) i.1),
    )

pub returns : goal.returns
returns c =
    let v = c.args.v.now in
    let e : c.loop-r.r ≡ most_resources = omega arith in
    all_put v.lmp v.dispatch v.available v.floor c.loop-r.outputs (rw e at c.loop-r.invariant.1)
