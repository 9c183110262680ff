-- `interval::row_good`: cells past the end of the slice are 0, which is in range. Assumes nothing.
use Rattle.std.proofs.Common.{◌≡◌, ◌-◌, sym, ◌∙◌, length, take, drop, length-take, length-drop, arith}
use Rattle.std.specs.Prelude.{min}
use lib.Seq.{take_all}
use Rattle.interval.proofs.RowLaws.{row_held, row_past}
use Rattle.interval.proofs.row_good.Goals as goal

pub returns-then-factors-at : goal.returns-then-factors-at
returns-then-factors-at c = row_past (drop c.args.at c.args.factors.now) c.args.m (simp length-drop (omega arith))

pub returns : goal.returns
returns c =
    let a = c.args in
    let row = drop a.at a.factors.now in
    let whole : take (length a.factors.now - a.at) row ≡ row = take_all (length a.factors.now - a.at) row (simp length-drop (omega arith)) in
    let n : length (take (length a.factors.now - a.at) row) ≡ length a.factors.now - a.at = simp (length-take, length-drop) (omega arith) in
    let held-is : c.min-held.result ≡ min (length a.factors.now - a.at) a.m = omega (arith, c.min-held.ensures, n) in
    rw whole at c.all_within.ensures ∙ sym (row_held row c.min-held.result a.m (omega (arith, held-is)) (λ i h k. simp length-drop (omega (arith, held-is))))
