-- `cost::heats_good`: each heat rate is tested at its point. Assumes nothing.
use Rattle.std.proofs.Common.{◌≡◌, ◌+◌, ◌*◌, refl, sym, ap, ◌∙◌, arith, rules}
use Rattle.rules_number.specs.Over.{all_to}
use Rattle.rules_number.proofs.Kit.{rd}
use Rattle.rules_number.proofs.OverLaws.{all_next, all_fails}
use Rattle.rules_cost.specs.Costs.{heat_at, heat_in_range, heat_good}
use Rattle.rules_library.specs.Slices.{cell_at}
use Rattle.cost.proofs.NumberLaws.{costs_by, in_sight, heat_at_lem}
use Rattle.cost.proofs.heats_good.Goals as goal

pub loop-i-init : goal.loop-i-init
unfolding all_to
loop-i-init c = record { good = λ charges. refl }

pub returns-then-not-within : goal.returns-then-not-within
unfolding heat_good
returns-then-not-within c charges =
    let a = c.args in
    let i = c.loop-i.i in
    let s = costs_by a.n a.points.now charges in
    let h : rd (cell_at a.points.now (2 * i + 1)) ≡ cell_at a.points.now (2 * i + 1) = search rules in
    let e = c.within.ensures ∙ ap heat_in_range (h ∙ heat_at_lem a.n a.points.now charges i (omega arith)) in
    rw (in_sight a.n a.points.now charges) (sym (all_fails (λ j. heat_in_range (heat_at s j)) a.n i (omega arith) (sym e ∙ c.if-not-within.true)))

pub loop-i-preserved : goal.loop-i-preserved
loop-i-preserved c =
    let a = c.args in
    let i = c.loop-i.i in
    let h : rd (cell_at a.points.now (2 * i + 1)) ≡ cell_at a.points.now (2 * i + 1) = search rules in
    record {
      good = λ charges. (
          let e = c.within.ensures ∙ ap heat_in_range (h ∙ heat_at_lem a.n a.points.now charges i (omega arith)) in
          all_next (λ j. heat_in_range (heat_at (costs_by a.n a.points.now charges) j)) i (c.loop-i.invariant.good charges) (sym e ∙ c.if-not-within.false));
    }

pub returns : goal.returns
unfolding heat_good
returns c charges =
    let a = c.args in
    let n : c.loop-i.i ≡ a.n = omega arith in
    rw (in_sight a.n a.points.now charges) (sym (rw n at (c.loop-i.invariant.good charges)))
