-- The factors of one resource stand in one part of the array. Assumes nothing.
use mathlib.Core.Bool.{Bool}
use mathlib.Core.List.{List}
use mathlib.Core.Path.{◌≡◌, ap}
use Prim.Native.Nat.{ℕ, ◌+◌, ◌*◌}
use lib.IntN.{ℤ, pos, neg_ℤ}
use lib.ListN.{drop}
use lib.Seq.{get_or-drop}
use Rattle.rules_number.specs.Order.{in_range}
use Rattle.rules_number.specs.Over.{all_to}
use Rattle.rules_number.proofs.OverLaws.{all_same}
use Rattle.rules_interval.specs.Intervals.{cell, all_within}

-- the factors of resource r on m constraints are in range
abbrev pub row_good : List ℤ → ℕ → ℕ → Bool
row_good l r m = all_to (λ c. in_range (neg_ℤ (pos 1000000)) (pos 1000000) (cell l (r * 32 + c))) m

pub row_good_lem : (l : List ℤ) (r m : ℕ) → all_within (neg_ℤ (pos 1000000)) (pos 1000000) (drop (r * 32) l) m ≡ row_good l r m
unfolding all_within
row_good_lem l r m =
    all_same (λ c. in_range (neg_ℤ (pos 1000000)) (pos 1000000) (cell (drop (r * 32) l) c)) (λ c. in_range (neg_ℤ (pos 1000000)) (pos 1000000) (cell l (r * 32 + c))) m
    (λ i h. ap (in_range (neg_ℤ (pos 1000000)) (pos 1000000)) (get_or-drop (r * 32) l i (pos 0)))
