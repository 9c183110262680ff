-- Goals of `mitigated_cells::put_bid` that the search leaves. Assumes nothing.
use Rattle.std.proofs.Common.{◌≡◌, ◌<◌, ◌≤◌, List, length, refl, sym, ◌∙◌, arith, rules}
use Rattle.std.proofs.Math.IntN.{ℤ}
use mir.Syntax.{w64}
use mir.Val.{SFits}
use Rattle.rules_number.proofs.Kit.{rd, came}
use mathlib.Core.Path.{ap₂}
use Rattle.rules_curve.specs.Curves.{step_to, bid_steps}
use Rattle.rules_curve.specs.declared.Step.{Step}
use Rattle.rules_mitigation.specs.Mitigation.{joined}
use Rattle.rules_state.specs.States.{curve_in_cells}
use Rattle.mitigated_cells.proofs.CellWalk.{step_in, bid_length, bid_step_at}
use Rattle.mitigated_cells.proofs.PutLaws.{Ended}
use Rattle.mitigated_cells.proofs.UncutLaws.{putting_next, putting_ended}
use Rattle.mitigated_cells.proofs.put_bid.Goals as goal
use Rattle.mitigated_cells.proofs.put_bid.Goals.{After-loop-i}

abbrev bids_in : List ℤ → List Step
bids_in row = bid_steps (curve_in_cells row 0)

pub loop-i-preserved : goal.loop-i-preserved
loop-i-preserved c =
    let a = c.args in
    let l = c.loop-i in
    let h : l.i < length (bids_in a.row.now) = omega (arith, c.loop-i-test.true, c.count_in-bids.ensures, bid_length a.row.now 0) in
    let f : SFits w64 c.cell_in-price.result = search rules in
    let price : rd c.cell_in-price.result ≡ (step_in a.row.now 0 l.i).price = came c.cell_in-price.result f.sfits ∙ c.cell_in-price.ensures in
    let g = c.place-k.ensures in
    putting_next (bids_in a.row.now) a.steps.now l.steps _ l.i l.n l.invariant
    c.place-k.result c.whole_in-end.result (rd c.cell_in-price.result) h (bid_step_at a.row.now 0 l.i h ∙ ap₂ step_to (sym c.whole_in-end.ensures) (sym price))
    _ refl g.value g.result_value g.value_2 g.upper_bound

ended : (c : After-loop-i) → Ended (joined (bids_in c.args.row.now)) c.args.steps.now c.loop-i.steps c.loop-i.n
ended c =
    let a = c.args in
    let l = c.loop-i in
    let n : length (bids_in a.row.now) ≤ l.i = omega (arith, c.loop-i-test.false, c.count_in-bids.ensures, bid_length a.row.now 0) in
    putting_ended (bids_in a.row.now) a.steps.now l.steps _ l.i l.n l.invariant n

pub returns : goal.returns
returns c = let e = ended (goal.at.returns c).After-loop-i in record { count = e.count; steps = e.steps_are }
