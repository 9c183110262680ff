-- `cutting::put_causes`: a turn puts one resource's causes more. Assumes nothing.
use Rattle.std.proofs.Common.{◌≡◌, ℕ, ◌+◌, ◌*◌, length, get_or, ap, ◌∙◌, arith}
use lib.Seq.{length-sets}
use Rattle.rules_number.proofs.OverLaws.{listed_at, listed_length}
use Rattle.rules_state.specs.Layout.{most_resources, cause_width}
use Rattle.interval.specs.Over.{lent_interval}
use Rattle.cells.proofs.PutLaws.{blocks_go_on, blocks_end}
use Rattle.cutting.specs.Entering.{cause_over}
use Rattle.cutting.proofs.CellLaws.{cause_room_lem}
use Rattle.cutting.proofs.put_causes.Invariants.{all}
use Rattle.cutting.proofs.put_causes.Goals as goal

pub loop-r-preserved : goal.loop-r-preserved
loop-r-preserved c =
    let r = c.loop-r.r in
    let f = cause_over (lent_interval c.args.asked.now) c.args.entering.now in
    let is = listed_at (λ i. i) 0 most_resources r c.loop-r-test.true in
    let z : 0 + cause_width * r ≡ cause_width * r = omega arith in
    let out = c.put_cause.ensures in (
      ap length out ∙ length-sets c.loop-r.causes (cause_width * r) (f r) ∙ c.loop-r.invariant.0,
      blocks_go_on f cause_width all c.args.causes.now 0 0 c.loop-r.causes r _ c.loop-r.invariant.1 (omega (arith, listed_length (λ (i : ℕ). i) most_resources))
          (cause_room_lem (lent_interval c.args.asked.now) c.args.entering.now (get_or all r 0)) (rw (z, is) out),
    )

pub returns : goal.returns
returns c = blocks_end _ cause_width all c.args.causes.now 0 c.loop-r.causes c.loop-r.r c.loop-r.invariant.1 (omega (arith, listed_length (λ (i : ℕ). i) most_resources))
