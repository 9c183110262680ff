-- The bids by their places are those of the list. Assumes nothing.
use mathlib.Core.List.{List, flat_map, zip_with}
use mathlib.Core.Logic.{⊎_elim}
use mathlib.Core.Path.{◌≡◌, refl, sym, ap, ◌∙◌}
use Prim.Native.Nat.{ℕ, ◌<◌, ◌≤◌}
use native.Mathlib.Omega.{arith}
use borrow.Author.Tests.{le-ltb}
use lib.ListN.{get_or}
use Rattle.rules_number.specs.Over.{listed, padded}
use Rattle.rules_number.proofs.ListedLaws.{listed_is}
use Rattle.rules_number.proofs.OverLaws.{le_or_lt, listed_at}
use Rattle.rules_curve.specs.Curves.{no_pack}
use Rattle.rules_curve.specs.declared.RawCurve.{RawCurve}
use Rattle.rules_classroom.specs.Classroom.{classroom_bids, classroom_bid}
use Rattle.rules_classroom.proofs.Listed.{thirty_seven, past_last}
use Rattle.classroom.specs.Places.{bid_by, bid_at}

by_place : listed bid_at 37 ≡ classroom_bids
unfolding listed classroom_bids flat_map zip_with padded bid_by bid_at
by_place = refl

none : bid_by 0 0 0 ≡ no_pack
unfolding bid_by no_pack padded
none = refl

pub at_place : (k : ℕ) → bid_at k ≡ classroom_bid k
unfolding classroom_bid bid_at
at_place k =
    ⊎_elim
    (λ (h : 37 ≤ k). rw (le-ltb k 9 (omega arith), le-ltb k 27 (omega arith), le-ltb k 37 h) (none ∙ sym (past_last k h)))
    (λ (h : k < 37). sym (listed_at bid_at no_pack 37 k h) ∙ ap (λ (l : List RawCurve). get_or l k no_pack) by_place)
    (le_or_lt 37 k)

pub all_places : listed classroom_bid 37 ≡ classroom_bids
unfolding classroom_bid
all_places = sym (listed_is no_pack classroom_bids (λ k. get_or classroom_bids k no_pack) 37 thirty_seven (λ q h. refl))
