-- `opening_cells::prices_good`.
use mathlib.Core.Bool.{true}
use mathlib.Core.Path.{◌≡◌, sym, ◌∙◌}
use Prim.Native.Nat.{◌<◌}
use native.Mathlib.Omega.{arith}
use mir.Syntax.{w64}
use mir.Val.{to_z}
use mir.ValLaws.{to_z-of_z}
use lib.ListN.{length}
use lib.Signed.{le_z}
use Rattle.std.proofs.Common.{rules}
use Rattle.rules_number.specs.Over.{listed}
use Rattle.rules_number.proofs.Kit.{rd, lt_not_le, not_lt_le, le_true, true_le}
use Rattle.rules_number.proofs.OverLaws.{listed_at, listed_length}
use Rattle.rules_curve.proofs.ChainLaws.{raw_blank}
use Rattle.rules_library.specs.Slices.{raw_step_at}
use Rattle.opening_cells.proofs.CellLaws.{capped_step, capped_stop, capped_end}
use Rattle.opening_cells.proofs.StepLaws.{prices_are}
use Rattle.opening_cells.proofs.prices_good.Goals as goal

pub loop-i-init : goal.loop-i-init
loop-i-init c =
    let fl = to_z-of_z w64 c.args.low c.ranges.low in
    let ft = to_z-of_z w64 c.args.top c.ranges.top in
    rw (fl, ft, c.requires.1.1) (prices_are c.args.raw.now.start c.args.raw.now.count c.args.raw.now.steps.now (omega arith) c.args.low c.args.top)

pub returns-then-price-p : goal.returns-then-price-p
returns-then-price-p c =
    let fl = to_z-of_z w64 c.args.low c.ranges.low in
    let ft = to_z-of_z w64 c.args.top c.ranges.top in
    let i = c.loop-i.i in
    let q = listed (raw_step_at c.args.raw.now.steps.now) c.args.raw.now.count in
    let x = raw_step_at c.args.raw.now.steps.now i in
    let h : i < length q = omega (arith, listed_length (raw_step_at c.args.raw.now.steps.now) c.args.raw.now.count) in
    let e = listed_at (raw_step_at c.args.raw.now.steps.now) raw_blank c.args.raw.now.count i (omega arith) in
    let g : rd x.price ≡ x.price = search rules in
    let t = lt_not_le x.price (to_z w64 c.loop-i.p-bits) (simp g at c.if-price-p.true) in
    sym (capped_stop le_z (λ s. s.price) c.args.top (to_z w64 c.loop-i.p-bits) q i raw_blank x h e t) ∙ rw (ft, fl) at c.loop-i.invariant

pub loop-i-preserved : goal.loop-i-preserved
loop-i-preserved c =
    let p = to_z w64 c.loop-i.p-bits in
    let ft = to_z-of_z w64 c.args.top c.ranges.top in
    let i = c.loop-i.i in
    let q = listed (raw_step_at c.args.raw.now.steps.now) c.args.raw.now.count in
    let x = raw_step_at c.args.raw.now.steps.now i in
    let h : i < length q = omega (arith, listed_length (raw_step_at c.args.raw.now.steps.now) c.args.raw.now.count) in
    let e = listed_at (raw_step_at c.args.raw.now.steps.now) raw_blank c.args.raw.now.count i (omega arith) in
    let g : rd x.price ≡ x.price = search rules in
    let t = not_lt_le x.price p (simp g at c.if-price-p.false) in
    let up : le_z x.price c.args.top ≡ true → le_z p c.args.top ≡ true = λ u. true_le p c.args.top (omega (arith, le_true p x.price t, le_true x.price c.args.top u)) in
    rw (g, ft) (sym (capped_step le_z (λ s. s.price) c.args.top p q i raw_blank x h e t up) ∙ rw ft at c.loop-i.invariant)

pub returns : goal.returns
returns c =
    let fl = to_z-of_z w64 c.args.low c.ranges.low in
    let ft = to_z-of_z w64 c.args.top c.ranges.top in
    let q = listed (raw_step_at c.args.raw.now.steps.now) c.args.raw.now.count in
    rw ft (sym (capped_end le_z (λ s. s.price) c.args.top (to_z w64 c.loop-i.p-bits) q c.loop-i.i (omega (arith, listed_length (raw_step_at c.args.raw.now.steps.now) c.args.raw.now.count))) ∙ rw (ft, fl) at c.loop-i.invariant)
