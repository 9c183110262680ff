-- "There are 37, each listed once, and every listed one is accepted as a bid"; they are drills, in the request's order (paper 02, 2.12). Assumes nothing.
use mathlib.Core.Bool.{Bool, true, false, ◌&&◌, cond}
use mathlib.Core.List.{List, [], ◌∷◌, flat_map, zip_with, Memᴰ}
use mathlib.Core.Logic.{inl, inr, ⊎_elim}
use mathlib.Core.Path.{◌≡◌, refl, ap, subst}
use Prim.Native.Nat.{ℕ, suc, ◌<◌, ◌≤◌}
use native.Mathlib.Omega.{arith}
use borrow.Author.Tests.{le-leb, lt-leb, eqb-true}
use lib.Dec.{eqb}
use lib.IntN.{ℤ, pos}
use lib.ListN.{length, get_or-eq_default}
use lib.Signed.{lt_z}
use Rattle.rules_number.specs.Over.{all_to, padded}
use Rattle.rules_number.specs.Order.{eq_z, in_range}
use Rattle.rules_number.proofs.ExactLaws.{lt_z_exactly}
use Rattle.rules_number.proofs.Kit.{lt_of}
use Rattle.rules_number.proofs.OrderLaws.{eq_z_true, eq_z_cases}
use Rattle.rules_number.proofs.OverLaws.{never, both, tested, all_at, le_or_lt}
use Rattle.rules_curve.specs.Conditions.{edge, price}
use Rattle.rules_curve.specs.Curves.{most_steps, most_bid_steps, lowest_bid, highest_bid, lowest_default, highest_default, chain, curve_refusal, bid_refusal, default_refusal, no_pack}
use Rattle.rules_curve.specs.declared.RawCurve.{RawCurve}
use Rattle.rules_classroom.specs.Classroom.{classroom_bids, classroom_bid}
use Rattle.rules_classroom.specs.Meaning.{Drill, Smaller, in_turn, Before}

-- "There are 37"
pub thirty_seven : length classroom_bids ≡ 37
unfolding classroom_bids flat_map zip_with padded
thirty_seven = refl

-- ---- a test of each bid, and what it says
of_each : (f : RawCurve → Bool) → all_to (λ k. f (classroom_bid k)) 37 ≡ true → (k : ℕ) → k < 37 → f (classroom_bid k) ≡ true
of_each f e k h = all_at (λ k. f (classroom_bid k)) 37 e k h

-- "start 0, ends among 100, 200, 300 and prices among 0, 10000, 20000"
among : ℤ → List ℤ → Bool
among x [] = false
among x (y ∷ l) = cond (eq_z x y) true (among x l)

among_is : (x : ℤ) (l : List ℤ) → among x l ≡ true → Memᴰ x l
unfolding among
among_is x [] e = never e
among_is x (y ∷ l) e = ⊎_elim (λ q. Memᴰ.head q) (λ n. Memᴰ.tail (among_is x l (rw n at e))) (eq_z_cases x y)

drill_step : RawCurve → ℕ → Bool
drill_step b i = among (edge b (suc i)) (pos 100 ∷ pos 200 ∷ pos 300 ∷ []) && among (price b i) (pos 0 ∷ pos 10000 ∷ pos 20000 ∷ [])

drill : RawCurve → Bool
drill b = eq_z b.start (pos 0) && all_to (drill_step b) b.count

drill_is : (b : RawCurve) → drill b ≡ true → Drill b
unfolding drill drill_step
drill_is b e =
    let t = both _ _ e in
    let step : (i : ℕ) → i < b.count → (among (edge b (suc i)) _ ≡ true) × (among (price b i) _ ≡ true) = λ i h. both _ _ (all_at (drill_step b) b.count t.1 i h) in
    record { starts = eq_z_true _ _ t.0; ends = λ i h. among_is _ _ (step i h).0; prices = λ i h. among_is _ _ (step i h).1 }

tested_drills : all_to (λ k. drill (classroom_bid k)) 37 ≡ true
unfolding classroom_bid classroom_bids flat_map zip_with padded all_to drill drill_step among
tested_drills = refl

-- nothing else is listed
pub listed_only : (k : ℕ) → k < 37 → Drill (classroom_bid k)
listed_only k h = drill_is (classroom_bid k) (of_each drill tested_drills k h)

-- ---- the order
smaller : List ℤ → List ℤ → Bool
smaller [] m = false
smaller (x ∷ l) [] = false
smaller (x ∷ l) (y ∷ m) = cond (lt_z x y) true (eq_z x y && smaller l m)

smaller_is : (l m : List ℤ) → smaller l m ≡ true → Smaller l m
unfolding smaller
smaller_is [] m e = never e
smaller_is (x ∷ l) [] e = never e
smaller_is (x ∷ l) (y ∷ m) e =
    ⊎_elim
    (λ h. inl ((lt_z_exactly x y).0 h))
    (λ h. let t = both (eq_z x y) (smaller l m) (rw h at e) in inr (eq_z_true x y t.0, smaller_is l m t.1))
    (tested (lt_z x y))

before : ℕ → ℕ → Bool
before i j = smaller (in_turn (classroom_bid i)) (in_turn (classroom_bid j))

tested_order : all_to (λ j. all_to (λ i. before i j) j) 37 ≡ true
unfolding classroom_bid classroom_bids flat_map zip_with padded all_to before smaller
tested_order = refl

-- "Generate them by step count, then by the list of ends, then by the list of prices, smaller first": each bid stands before every later one
pub in_order : (i j : ℕ) → i < j → j < 37 → Before (classroom_bid i) (classroom_bid j)
unfolding before
in_order i j h k = smaller_is _ _ (all_at (λ i. before i j) j (all_at (λ j. all_to (λ i. before i j) j) 37 tested_order j k) i h)

not_smaller : (l : List ℤ) → Smaller l l → ⊥
not_smaller [] s = s
not_smaller (x ∷ l) (inl h) = let z = lt_of h in omega arith
not_smaller (x ∷ l) (inr h) = not_smaller l h.1

-- "each listed once": no bid stands before itself
pub once : (i j : ℕ) → i < j → j < 37 → classroom_bid i ≡ classroom_bid j → ⊥
once i j h k e = not_smaller (in_turn (classroom_bid j)) (subst (λ (b : RawCurve). Before b (classroom_bid j)) e (in_order i j h k))

-- ---- "every listed one is accepted as a bid": in every month
passes : ℕ → ℤ → ℤ → Bool
passes most low top = all_to (λ k. eqb (curve_refusal most low top (classroom_bid k)) 0) 37

passed : (most : ℕ) (low top : ℤ) → passes most low top ≡ true → (k : ℕ) → k < 37 → curve_refusal most low top (classroom_bid k) ≡ 0
unfolding passes
passed most low top e k h = eqb-true _ 0 (of_each (λ b. eqb (curve_refusal most low top b) 0) e k h)

to_12 : passes most_bid_steps lowest_bid (pos 5000000) ≡ true
unfolding passes classroom_bid classroom_bids flat_map zip_with padded all_to curve_refusal chain in_range
to_12 = refl

to_24 : passes most_bid_steps lowest_bid (pos 7500000) ≡ true
unfolding passes classroom_bid classroom_bids flat_map zip_with padded all_to curve_refusal chain in_range
to_24 = refl

from_25 : passes most_bid_steps lowest_bid (pos 10000000) ≡ true
unfolding passes classroom_bid classroom_bids flat_map zip_with padded all_to curve_refusal chain in_range
from_25 = refl

in_month : (month : ℕ) → passes most_bid_steps lowest_bid (highest_bid month) ≡ true
in_month month =
    ⊎_elim
    (λ h. rw (le-leb month 12 h) to_12)
    (λ h. ⊎_elim (λ k. rw (lt-leb month 12 h, le-leb month 24 k) to_24) (λ k. rw (lt-leb month 12 h, lt-leb month 24 k) from_25) (le_or_lt month 24))
    (le_or_lt month 12)

pub all_accepted : (month k : ℕ) → k < 37 → bid_refusal month (classroom_bid k) ≡ 0
all_accepted month = passed most_bid_steps lowest_bid (highest_bid month) (in_month month)

-- the same as a default curve, whose form a call in numbers gives it; past the last there is no bid, which is 1
as_default : passes most_steps lowest_default highest_default ≡ true
unfolding passes classroom_bid classroom_bids flat_map zip_with padded all_to curve_refusal chain in_range
as_default = refl

pub all_written : (k : ℕ) → k < 37 → default_refusal (classroom_bid k) ≡ 0
all_written = passed most_steps lowest_default highest_default as_default

pub past_last : (k : ℕ) → 37 ≤ k → classroom_bid k ≡ no_pack
unfolding classroom_bid
past_last k h = get_or-eq_default classroom_bids no_pack (omega (arith, thirty_seven))

pub none_written : (k : ℕ) → 37 ≤ k → default_refusal (classroom_bid k) ≡ 1
unfolding curve_refusal no_pack
none_written k h = ap default_refusal (past_last k h)
