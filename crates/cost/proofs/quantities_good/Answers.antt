-- `cost::quantities_good`: each quantity is set against the one before it. Assumes nothing.
use Rattle.std.proofs.Common.{◌≡◌, ◌*◌, ℤ, pos, true, false, refl, sym, ap, ◌∙◌, arith, rules}
use native.Mathlib.Numerals.{add-one}
use lib.Signed.{le_z}
use Rattle.rules_number.specs.Over.{all_to}
use Rattle.rules_number.proofs.Kit.{rd, not_le_lt, le_not_lt}
use Rattle.rules_number.proofs.OverLaws.{all_next}
use Rattle.rules_cost.specs.Costs.{mw_at, mw_good}
use Rattle.rules_cost.proofs.RangeLaws.{mw_before}
use Rattle.rules_library.specs.Slices.{cell_at}
use Rattle.cost.proofs.NumberLaws.{costs_by, in_sight, mw_at_lem}
use Rattle.cost.proofs.RiseLaws.{rises_at, falls, good_by}
use Rattle.cost.proofs.quantities_good.Goals as goal

pub loop-i-init : goal.loop-i-init
unfolding all_to mw_before
loop-i-init c = record { rises = λ charges. (refl, refl) }

pub returns-then-m-before : goal.returns-then-m-before
unfolding mw_good
returns-then-m-before c charges =
    let a = c.args in
    let i = c.loop-i.i in
    let s = costs_by a.n a.points.now charges in
    let m : rd (cell_at a.points.now (2 * i)) ≡ cell_at a.points.now (2 * i) = search rules in
    let t : le_z (mw_at s i) (mw_before s i) ≡ true = rw (m ∙ mw_at_lem a.n a.points.now charges i (omega arith), (c.loop-i.invariant.rises charges).1) at c.if-m-before.true in
    rw (in_sight a.n a.points.now charges) (sym (falls s a.n i (omega arith) (le_not_lt (mw_at s i) (mw_before s i) t)))

pub loop-i-preserved : goal.loop-i-preserved
unfolding mw_before
loop-i-preserved c =
    let a = c.args in
    let i = c.loop-i.i in
    let m : rd (cell_at a.points.now (2 * i)) ≡ cell_at a.points.now (2 * i) = search rules in
    record {
      rises = λ charges. (
          let s = costs_by a.n a.points.now charges in
          let q = m ∙ mw_at_lem a.n a.points.now charges i (omega arith) in
          let t : le_z (mw_at s i) (mw_before s i) ≡ false = rw (q, (c.loop-i.invariant.rises charges).1) at c.if-m-before.false in
          (all_next (rises_at s) i (c.loop-i.invariant.rises charges).0 (not_le_lt (mw_at s i) (mw_before s i) t), rw add-one q));
    }

pub returns : goal.returns
returns c charges =
    let a = c.args in
    let s = costs_by a.n a.points.now charges in
    let v = c.loop-i.invariant.rises charges in
    rw (in_sight a.n a.points.now charges) (ap (λ (z : ℤ). le_z z (pos 1000000)) v.1 ∙ good_by s c.loop-i.i (omega arith) v.0)
