use mathlib.Core.Path.{◌≡◌, ap, ◌∙◌}
use Prim.Native.Nat.{ℕ, suc, ◌+◌, ◌-◌}
use native.Mathlib.Omega.{arith}
use lib.ListN.{set, length-set}
use lib.Seq.{sets}
use Rattle.path.proofs.PartLaws.{part_is}
use Rattle.path.proofs.constraint.put_offers.Goals as goal

pub returns : goal.returns
returns c =
    let a = c.args in
    let begun = set a.offered.now a.at a.lack in
    let z : a.at + 1 ≡ suc a.at = omega arith in
    part_is begun (a.at + 1) (a.at + 17 - (a.at + 1)) c.copy_from_slice.new.self a.offers.now c.copy_from_slice.ensures.after (omega (arith, c.requires.1)) (omega (arith, length-set a.offered.now a.at a.lack))
    ∙ ap (λ (i : ℕ). sets begun i a.offers.now) z
