use mathlib.Core.Path.{◌≡◌, ap, ◌∙◌}
use Prim.Native.Nat.{ℕ, ◌+◌, ◌-◌}
use native.Mathlib.Omega.{arith}
use borrow.Rule.Slice.PartMut.{mid_of}
use lib.IntN.{pos}
use lib.ListN.{length, replicate, length-take, length-drop}
use Rattle.path.proofs.PartLaws.{part_is}
use Rattle.path.proofs.constraint.put_none.Goals as goal

pub returns : goal.returns
returns c =
    let at = c.args.at in
    let n : length (mid_of at (at + 20 - at) c.args.verdicts.now) ≡ 20 = simp (length-take, length-drop) (omega arith) in
    part_is c.args.verdicts.now at (at + 20 - at) c.fill.new.self (replicate 20 (pos 0)) (c.fill.ensures.after (λ y h. h) ∙ ap (λ (k : ℕ). replicate k (pos 0)) n) (omega arith) (omega arith)
