-- `classroom::bids` meets its contract. Assumes nothing.
use Rattle.std.proofs.Common.{◌≡◌, ℕ, suc, ◌+◌, refl, ap, ◌∙◌, add-one, arith}
use Rattle.rules_number.specs.Over.{listed, padded}
use Rattle.rules_number.proofs.ListedLaws.{padded_full}
use Rattle.rules_number.proofs.OverLaws.{padded_next}
use Rattle.rules_classroom.specs.Classroom.{classroom_bid}
use Rattle.classroom.proofs.PlaceLaws.{all_places}
use Rattle.classroom.proofs.bids.Goals as goal

pub loop-k-init : goal.loop-k-init
unfolding padded listed
loop-k-init c = rw c.bid-list.ensures refl

pub loop-k-preserved : goal.loop-k-preserved
loop-k-preserved c =
    let k = c.loop-k.k in
    let e : listed classroom_bid (k + 1) ≡ listed classroom_bid (suc k) = ap (listed classroom_bid) (add-one k) in
    rw (c.loop-k.invariant, c.bid.ensures, e) (padded_next 37 (classroom_bid 0) classroom_bid k (omega arith))

pub returns : goal.returns
returns c =
    let e : c.loop-k.k ≡ 37 = omega arith in
    c.loop-k.invariant ∙ ap (λ (k : ℕ). padded 37 (classroom_bid 0) (listed classroom_bid k)) e ∙ padded_full 37 (classroom_bid 0) classroom_bid ∙ all_places
