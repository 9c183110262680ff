-- Goals of `mitigated_cells::put_steps` that the search leaves. Assumes nothing.
use Rattle.std.proofs.Common.{◌≡◌, ◌<◌, List, length, refl, sym, ◌∙◌, arith, rules}
use Rattle.std.proofs.Math.IntN.{ℤ, pos}
use mir.Syntax.{w64}
use mir.Val.{SFits}
use Rattle.rules_number.proofs.Kit.{rd, came}
use Rattle.rules_curve.specs.Curves.{steps_of, bid_steps}
use Rattle.rules_curve.specs.declared.Step.{Step}
use Rattle.rules_mitigation.specs.Mitigation.{capped, mitigated_steps}
use Rattle.mitigation.proofs.Walk.{rest_bid_end, rest_default_end}
use Rattle.rules_state.specs.Layout.{curve_room}
use Rattle.rules_state.specs.States.{curve_in_cells, floor_of}
use Rattle.mitigated_cells.proofs.PutLaws.{Ended}
use Rattle.mitigated_cells.proofs.CellWalk.{step_in, start_is, used_length, used_at, bid_length, bid_step_at, walking_start, walking_ended, walking_skip, walking_default, walking_bid}
use Rattle.mitigated_cells.proofs.put_steps.Goals as goal
use Rattle.mitigated_cells.proofs.put_steps.Goals.{At-loop-i, In-loop-i, After-loop-i, Then-defaults-j, Else-defaults-j, After-cap-price}

-- the steps of the bid and of the default curve, and the price of two
abbrev bids_in : List ℤ → List Step
bids_in row = bid_steps (curve_in_cells row 0)

abbrev defaults_in : List ℤ → List Step
defaults_in row = steps_of (curve_in_cells row curve_room)

abbrev price : ℤ → ℤ → ℤ → ℤ → ℤ
price mark floor = capped (floor_of mark floor).price

-- the bid's step, and the default curve's
in_bid : (c : Else-defaults-j) → c.loop-i.i < length (bids_in c.args.row.now)
in_bid c = omega (arith, c.loop-i-test.true, c.count_in-bids.ensures, bid_length c.args.row.now 0)

in_default : (c : Else-defaults-j) → c.loop-i.j < length (defaults_in c.args.row.now)
in_default c = omega (arith, c.if-defaults-j.false, c.count_in-defaults.ensures, used_length c.args.row.now curve_room)

pub loop-i-init : goal.loop-i-init
loop-i-init c =
    let a = c.args in
    let e : c.whole_in-at.result ≡ (curve_in_cells a.row.now 0).start = c.whole_in-at.ensures ∙ sym (start_is a.row.now 0) in
    rw e (walking_start (price (rd a.mark) (rd a.floor)) (bids_in a.row.now) (defaults_in a.row.now) (curve_in_cells a.row.now 0).start a.steps.now (pos 0))

-- the steps are put where none of the default curve is left
done : (c : Then-defaults-j) → Ended (mitigated_steps (floor_of c.args.mark c.args.floor).price (curve_in_cells c.args.row.now 0) (curve_in_cells c.args.row.now curve_room)) c.args.steps.now c.loop-i.steps c.loop-i.n
done c =
    let a = c.args in
    let l = c.loop-i in
    rw (came a.mark c.ranges.mark.sfits, came a.floor c.ranges.floor.sfits) at
    (walking_ended (price (rd a.mark) (rd a.floor)) (bids_in a.row.now) (defaults_in a.row.now) (curve_in_cells a.row.now 0).start a.steps.now
    l.steps l.at _ l.i l.j l.n l.invariant
    (rest_default_end (price (rd a.mark) (rd a.floor)) (bids_in a.row.now) (defaults_in a.row.now) l.at l.i l.j (omega (arith, c.if-defaults-j.true, c.count_in-defaults.ensures, used_length a.row.now curve_room))))

pub returns-then-defaults-j : goal.returns-then-defaults-j
returns-then-defaults-j c = let e = done (goal.at.returns-then-defaults-j c).Then-defaults-j in record { count = e.count; steps = e.steps_are }

pub loop-i-preserved-then-d-at : goal.loop-i-preserved-then-d-at
loop-i-preserved-then-d-at c =
    let e = (goal.at.loop-i-preserved-then-d-at c).Else-defaults-j in
    let a = c.args in
    let l = c.loop-i in
    walking_skip (price (rd a.mark) (rd a.floor)) (bids_in a.row.now) (defaults_in a.row.now) (curve_in_cells a.row.now 0).start a.steps.now
    l.steps l.at _ l.i l.j l.n l.invariant
    (step_in a.row.now 0 l.i) (step_in a.row.now curve_room l.j) (in_bid e) (in_default e)
    (bid_step_at a.row.now 0 l.i (in_bid e)) (used_at a.row.now curve_room l.j (in_default e))
    (omega (arith, c.if-d-at.true, c.whole_in-d.ensures))

cut_price : (c : After-cap-price) → rd c.cap-price.result ≡ price (rd c.args.mark) (rd c.args.floor) (step_in c.args.row.now 0 c.loop-i.i).price (step_in c.args.row.now curve_room c.loop-i.j).price
cut_price c =
    let f : SFits w64 c.cell_in-bid.result = search rules in
    let g : SFits w64 c.cell_in-cost.result = search rules in
    let h : SFits w64 c.cap-price.result = search rules in
    let fx = came c.cell_in-bid.result f.sfits ∙ c.cell_in-bid.ensures in
    let fy = came c.cell_in-cost.result g.sfits ∙ c.cell_in-cost.ensures in
    came c.cap-price.result h.sfits ∙ simp (fx, fy) at c.cap-price.ensures

pub loop-i-preserved-then-d-b : goal.loop-i-preserved-then-d-b
loop-i-preserved-then-d-b c =
    let e = (goal.at.loop-i-preserved-then-d-b c).Else-defaults-j in
    let p = (goal.at.loop-i-preserved-then-d-b c).After-cap-price in
    let a = c.args in
    let l = c.loop-i in
    let g = c.place-k.ensures in
    walking_default (price (rd a.mark) (rd a.floor)) (bids_in a.row.now) (defaults_in a.row.now) (curve_in_cells a.row.now 0).start a.steps.now
    l.steps l.at _ l.i l.j l.n l.invariant
    (step_in a.row.now 0 l.i) (step_in a.row.now curve_room l.j) (in_bid e) (in_default e)
    (bid_step_at a.row.now 0 l.i (in_bid e)) (used_at a.row.now curve_room l.j (in_default e))
    c.place-k.result c.min-at.result (rd c.cap-price.result) (cut_price p) (omega (arith, c.if-d-at.false, c.whole_in-d.ensures))
    _ refl g.value g.result_value g.value_2 g.upper_bound
    (omega (arith, c.if-d-b.true, c.whole_in-d.ensures, c.whole_in-b.ensures)) (omega (arith, c.if-d-b.true, c.min-at.ensures, c.whole_in-d.ensures))

pub loop-i-preserved : goal.loop-i-preserved
loop-i-preserved c =
    let e = (goal.at.loop-i-preserved c).Else-defaults-j in
    let p = (goal.at.loop-i-preserved c).After-cap-price in
    let a = c.args in
    let l = c.loop-i in
    let g = c.place-k.ensures in
    walking_bid (price (rd a.mark) (rd a.floor)) (bids_in a.row.now) (defaults_in a.row.now) (curve_in_cells a.row.now 0).start a.steps.now
    l.steps l.at _ l.i l.j l.n l.invariant
    (step_in a.row.now 0 l.i) (step_in a.row.now curve_room l.j) (in_bid e) (in_default e)
    (bid_step_at a.row.now 0 l.i (in_bid e)) (used_at a.row.now curve_room l.j (in_default e))
    c.place-k.result c.min-at.result (rd c.cap-price.result) (cut_price p) (omega (arith, c.if-d-at.false, c.whole_in-d.ensures))
    _ refl g.value g.result_value g.value_2 g.upper_bound
    (omega (arith, c.if-d-b.false, c.whole_in-d.ensures, c.whole_in-b.ensures)) (omega (arith, c.if-d-b.false, c.min-at.ensures, c.whole_in-b.ensures))

-- and where none of the bid is left
ended : (c : After-loop-i) → Ended (mitigated_steps (floor_of c.args.mark c.args.floor).price (curve_in_cells c.args.row.now 0) (curve_in_cells c.args.row.now curve_room)) c.args.steps.now c.loop-i.steps c.loop-i.n
ended c =
    let a = c.args in
    let l = c.loop-i in
    rw (came a.mark c.ranges.mark.sfits, came a.floor c.ranges.floor.sfits) at
    (walking_ended (price (rd a.mark) (rd a.floor)) (bids_in a.row.now) (defaults_in a.row.now) (curve_in_cells a.row.now 0).start a.steps.now
    l.steps l.at _ l.i l.j l.n l.invariant
    (rest_bid_end (price (rd a.mark) (rd a.floor)) (bids_in a.row.now) (defaults_in a.row.now) l.at l.i l.j (omega (arith, c.loop-i-test.false, c.count_in-bids.ensures, bid_length a.row.now 0))))

pub returns : goal.returns
returns c = let e = ended (goal.at.returns c).After-loop-i in record { count = e.count; steps = e.steps_are }
