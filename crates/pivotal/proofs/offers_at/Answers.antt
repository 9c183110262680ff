-- `pivotal::offers_at`: the sixteen after the first of a row. Assumes nothing.
use mathlib.Core.Path.{◌≡◌, ◌∙◌}
use Prim.Native.Nat.{ℕ, ◌+◌, ◌-◌, ◌*◌}
use native.Mathlib.Omega.{arith}
use lib.ListN.{length, take, drop, length-take, length-drop}
use lib.Seq.{get_or-take, get_or-drop}
use Rattle.rules_number.proofs.ListedLaws.{listed_is}
use Rattle.pivotal.specs.Rows.{offer_at, offers_at}
use Rattle.pivotal.proofs.offers_at.Goals as goal

pub returns : goal.returns
unfolding offers_at
returns c =
    let l = c.args.rows.now in
    let from : ℕ = 17 * c.args.c + 1 in
    let n : length (take (from + 16 - from) (drop from l)) ≡ 16 = simp (length-take, length-drop) (omega arith) in
    c.copy_from_slice.ensures.after
    ∙ listed_is 0 (take (from + 16 - from) (drop from l)) (offer_at l c.args.c) 16 n (λ q h. get_or-take (from + 16 - from) (drop from l) q 0 (omega arith) ∙ get_or-drop from l q 0)
