-- `curve_checks::edges_good` meets its contract. Assumes nothing.
use Rattle.std.proofs.Common.{◌≡◌, false, true, get_or, pos, take, refl, sym, ◌∙◌, arith, rules, to_z, w64}
use Rattle.rules_number.specs.Order.{in_range}
use Rattle.rules_number.proofs.Kit.{rd, le_not_lt, not_le_lt, lt_not_le, not_lt_le}
use Rattle.rules_curve.specs.Curves.{edge_suits}
use Rattle.rules_curve.proofs.ChainLaws.{chain_step, chain_stop, chain_end, raw_blank}
use Rattle.curve.proofs.UsedLaws.{used_taken}
use Rattle.curve_checks.proofs.edges_good.Goals as goal
use Rattle.curve_checks.proofs.edges_good.Goals.{then-step-edge-via-then-step-edge, then-step-edge-via-else-step-edge+then-step-gt-MAX_QUANTITY}

pub loop-step-init : goal.loop-step-init
loop-step-init c =
    let r = c.args.raw in
    let f : rd r.start ≡ r.start = search rules in
    let w : in_range (pos 0) (pos 1000000) r.start ≡ true = sym (simp f at c.within.ensures) ∙ c.if-not-within.false in
    rw (f, w, used_taken r.steps r.count c.used.result c.used.ensures.0) refl

pub returns-then-step-edge : goal.returns-then-step-edge
returns-then-step-edge c =
    let l = take c.used.result c.args.raw.steps in
    let i = c.loop-step.step-index in
    let x = get_or l i raw_blank in
    let p = to_z w64 c.loop-step.edge-bits in
    let f : rd x.end ≡ x.end = search rules in
    let t : edge_suits p x ≡ false = elim c.then-step-edge.branch [
      | then-step-edge-via-then-step-edge w ↦ rw (le_not_lt x.end p (simp f at w.if-step-edge.true)) refl
      | then-step-edge-via-else-step-edge+then-step-gt-MAX_QUANTITY w ↦
          rw (not_le_lt x.end p (simp f at w.if-step-edge.false), lt_not_le (pos 1000000) x.end (simp f at w.if-step-gt-MAX_QUANTITY.true)) refl
    ] in
    sym (chain_stop edge_suits (λ s. s.end) p l i raw_blank x c.loop-step-test.true refl t) ∙ c.loop-step.invariant

pub loop-step-preserved : goal.loop-step-preserved
loop-step-preserved c =
    let l = take c.used.result c.args.raw.steps in
    let i = c.loop-step.step-index in
    let x = get_or l i raw_blank in
    let p = to_z w64 c.loop-step.edge-bits in
    let f : rd x.end ≡ x.end = search rules in
    let t = not_le_lt x.end p (simp f at c.if-step-edge.false) in
    let u = not_lt_le (pos 1000000) x.end (simp f at c.if-step-gt-MAX_QUANTITY.false) in
    rw f (sym (chain_step edge_suits (λ s. s.end) p l i raw_blank x c.loop-step-test.true refl (rw (t, u) refl)) ∙ c.loop-step.invariant)

pub returns : goal.returns
returns c =
    sym (chain_end edge_suits (λ s. s.end) _ (take c.used.result c.args.raw.steps) c.loop-step.step-index (omega arith)) ∙ c.loop-step.invariant
