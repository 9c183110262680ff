-- `mitigation::divided` meets its contract. Assumes nothing.
use Rattle.std.proofs.Common.{◌≡◌, ◌<◌, length, get_or, ◌∙◌, arith, rules}
use Rattle.rules_number.proofs.Kit.{rd}
use Rattle.rules_number.proofs.OverLaws.{taken_at}
use Rattle.rules_curve.specs.Curves.{steps_of, bid_steps, blank_step}
use Rattle.rules_curve.proofs.CheckLaws.{bid_at_lem}
use Rattle.rules_mitigation.specs.Mitigation.{capped, most_mitigated_steps}
use Rattle.mitigation.proofs.Walk.{walked_start, walked_skip, walked_default, walked_bid, walked_bid_end, walked_default_end}
use Rattle.mitigation.proofs.divided.Goals as goal

pub loop-i-init : goal.loop-i-init
loop-i-init c = walked_start _ _ _ _

pub returns-else-j-nd : goal.returns-else-j-nd
returns-else-j-nd c = walked_default_end _ _ _ _ _ _ _ _ _ c.loop-i.invariant (omega arith)

pub loop-i-preserved-then-d-at : goal.loop-i-preserved-then-d-at
loop-i-preserved-then-d-at c =
    let a = c.args in
    let l = c.loop-i in
    let hi : l.i < length (bid_steps a.bid) = omega arith in
    let hj : l.j < length (steps_of a.default) = omega arith in
    walked_skip _ _ _ _ _ _ _ _ _ blank_step _ _ l.invariant hi hj (bid_at_lem a.bid _ hi) (taken_at a.default.count a.default.steps _ blank_step hj) c.if-d-at.true

pub loop-i-preserved-then-d-b : goal.loop-i-preserved-then-d-b
loop-i-preserved-then-d-b c =
    let a = c.args in
    let l = c.loop-i in
    let b = get_or a.bid.steps l.i blank_step in
    let d = get_or a.default.steps l.j blank_step in
    let hi : l.i < length (bid_steps a.bid) = omega arith in
    let hj : l.j < length (steps_of a.default) = omega arith in
    let room : l.n < most_mitigated_steps = omega arith in
    let fb : rd b.price ≡ b.price = search rules in
    let fd : rd d.price ≡ d.price = search rules in
    let fr : rd c.cap-price.result ≡ c.cap-price.result = search rules in
    let cut : rd c.cap-price.result ≡ capped a.floor b.price d.price = fr ∙ simp (fb, fd) at c.cap-price.ensures in
    walked_default _ _ _ _ _ _ _ _ _ blank_step _ _ l.invariant hi hj (bid_at_lem a.bid _ hi) (taken_at a.default.count a.default.steps _ blank_step hj)
    room _ cut c.if-d-at.false c.if-d-b.true

pub loop-i-preserved : goal.loop-i-preserved
loop-i-preserved c =
    let a = c.args in
    let l = c.loop-i in
    let b = get_or a.bid.steps l.i blank_step in
    let d = get_or a.default.steps l.j blank_step in
    let hi : l.i < length (bid_steps a.bid) = omega arith in
    let hj : l.j < length (steps_of a.default) = omega arith in
    let room : l.n < most_mitigated_steps = omega arith in
    let fb : rd b.price ≡ b.price = search rules in
    let fd : rd d.price ≡ d.price = search rules in
    let fr : rd c.cap-price.result ≡ c.cap-price.result = search rules in
    let cut : rd c.cap-price.result ≡ capped a.floor b.price d.price = fr ∙ simp (fb, fd) at c.cap-price.ensures in
    walked_bid _ _ _ _ _ _ _ _ _ blank_step _ _ l.invariant hi hj (bid_at_lem a.bid _ hi) (taken_at a.default.count a.default.steps _ blank_step hj)
    room _ cut c.if-d-at.false c.if-d-b.false

pub returns-after-loop-i : goal.returns-after-loop-i
returns-after-loop-i c = walked_bid_end _ _ _ _ _ _ _ _ _ c.loop-i.invariant (omega arith)
