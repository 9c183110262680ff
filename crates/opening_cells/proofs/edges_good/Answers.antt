-- `opening_cells::edges_good`.
use mathlib.Core.Bool.{true}
use mathlib.Core.Path.{◌≡◌, sym, ◌∙◌}
use Prim.Native.Nat.{◌<◌}
use native.Mathlib.Omega.{arith}
use mir.Syntax.{w64}
use mir.Val.{to_z}
use lib.ListN.{length}
use lib.IntN.{pos}
use lib.Signed.{le_z, lt_z}
use Rattle.std.proofs.Common.{rules}
use Rattle.rules_number.specs.Over.{listed}
use Rattle.rules_number.proofs.Kit.{rd, le_not_lt, not_le_lt, lt_true, le_true, true_le, lt_not_le, not_lt_le}
use Rattle.rules_number.proofs.OverLaws.{listed_at, listed_length}
use Rattle.rules_curve.proofs.ChainLaws.{raw_blank}
use Rattle.rules_library.specs.Slices.{raw_step_at}
use Rattle.opening_cells.proofs.CellLaws.{capped_step, capped_stop, capped_end}
use Rattle.opening_cells.proofs.StepLaws.{edges_below, edges_from}
use Rattle.opening_cells.proofs.edges_good.Goals as goal

pub returns-then-raw-lt0 : goal.returns-then-raw-lt0
returns-then-raw-lt0 c =
    let f : rd c.args.raw.now.start ≡ c.args.raw.now.start = search rules in
    sym (edges_below c.args.raw.now.start c.args.raw.now.count c.args.raw.now.steps.now (omega arith) (lt_not_le c.args.raw.now.start (pos 0) (simp f at c.if-raw-lt0.true)))

pub loop-i-init : goal.loop-i-init
loop-i-init c =
    let f : rd c.args.raw.now.start ≡ c.args.raw.now.start = search rules in
    rw f (edges_from c.args.raw.now.start c.args.raw.now.count c.args.raw.now.steps.now (omega arith) (not_lt_le c.args.raw.now.start (pos 0) (simp f at c.if-raw-lt0.false)))

pub returns-then-end-p : goal.returns-then-end-p
returns-then-end-p c =
    let i = c.loop-i.i in
    let q = listed (raw_step_at c.args.raw.now.steps.now) c.args.raw.now.count in
    let x = raw_step_at c.args.raw.now.steps.now i in
    let h : i < length q = omega (arith, listed_length (raw_step_at c.args.raw.now.steps.now) c.args.raw.now.count) in
    let e = listed_at (raw_step_at c.args.raw.now.steps.now) raw_blank c.args.raw.now.count i (omega arith) in
    let g : rd x.end ≡ x.end = search rules in
    let t = le_not_lt x.end (to_z w64 c.loop-i.p-bits) (simp g at c.if-end-p.true) in
    sym (capped_stop lt_z (λ s. s.end) (pos 1000000) (to_z w64 c.loop-i.p-bits) q i raw_blank x h e t) ∙ c.loop-i.invariant

pub loop-i-preserved : goal.loop-i-preserved
loop-i-preserved c =
    let p = to_z w64 c.loop-i.p-bits in
    let i = c.loop-i.i in
    let q = listed (raw_step_at c.args.raw.now.steps.now) c.args.raw.now.count in
    let x = raw_step_at c.args.raw.now.steps.now i in
    let h : i < length q = omega (arith, listed_length (raw_step_at c.args.raw.now.steps.now) c.args.raw.now.count) in
    let e = listed_at (raw_step_at c.args.raw.now.steps.now) raw_blank c.args.raw.now.count i (omega arith) in
    let g : rd x.end ≡ x.end = search rules in
    let t = not_le_lt x.end p (simp g at c.if-end-p.false) in
    let up : le_z x.end (pos 1000000) ≡ true → le_z p (pos 1000000) ≡ true = λ u. true_le p (pos 1000000) (omega (arith, lt_true p x.end t, le_true x.end (pos 1000000) u)) in
    rw g (sym (capped_step lt_z (λ s. s.end) (pos 1000000) p q i raw_blank x h e t up) ∙ c.loop-i.invariant)

pub returns : goal.returns
returns c =
    let q = listed (raw_step_at c.args.raw.now.steps.now) c.args.raw.now.count in
    sym (capped_end lt_z (λ s. s.end) (pos 1000000) (to_z w64 c.loop-i.p-bits) q c.loop-i.i (omega (arith, listed_length (raw_step_at c.args.raw.now.steps.now) c.args.raw.now.count))) ∙ c.loop-i.invariant
