-- Numbers are checked four at once, and shadow prices and a row of factors as far as the slice goes: cells past its end are 0, and 0 is in range. Assumes nothing.
use mathlib.Core.Bool.{Bool, true, false, ◌&&◌}
use mathlib.Core.List.{List}
use mathlib.Core.Path.{◌≡◌, refl, sym, ap, ◌∙◌}
use mathlib.Core.Logic.{⊎_elim}
use Prim.Native.Nat.{ℕ, zero, suc, ◌+◌, ◌≤◌, ◌<◌, zero-le}
use native.Mathlib.Nat.{le_refl}
use native.Mathlib.Omega.{arith}
use lib.IntN.{ℤ, pos, neg_ℤ}
use lib.ListN.{length, get_or-eq_default}
use Rattle.rules_number.specs.Order.{in_range}
use Rattle.rules_number.specs.Over.{all_to}
use Rattle.rules_number.proofs.OverLaws.{last_or_before}
use Rattle.rules_interval.specs.Intervals.{all_within}

-- tests that pass add nothing
and_true : (a b : Bool) → b ≡ true → (a && b) ≡ a
and_true true b e = e
and_true false b e = refl

all_longer : (f : ℕ → Bool) (k n : ℕ) → k ≤ n → ((i : ℕ) → k ≤ i → i < n → f i ≡ true) → all_to f n ≡ all_to f k
unfolding all_to
all_longer f k zero l h = let e : k ≡ 0 = omega arith in rw e
all_longer f k (suc n) l h =
    ⊎_elim (λ e. rw e)
    (λ m. and_true (all_to f n) (f n) (h n (omega arith) (le_refl (suc n))) ∙ all_longer f k n (omega arith) (λ i a b. h i a (omega arith)))
    (last_or_before k (suc n) (omega arith))

-- one more test that passes
pub all_kept : (f : ℕ → Bool) (n : ℕ) → f n ≡ true → all_to f n ≡ all_to f (n + 1)
all_kept f n e = sym (all_longer f n (n + 1) (omega arith) (λ i a b. let z : i ≡ n = omega arith in rw z e))

-- ---- four tests at once
pub all_four : (f : ℕ → Bool) (i : ℕ) (r : Bool) → all_to f i ≡ true → r ≡ all_to (λ k. f (i + k)) 4 → all_to f (i + 4) ≡ r
unfolding all_to
all_four f i r a e =
    let n : i + 4 ≡ suc (suc (suc (suc i))) = omega arith in
    let z : i + 0 ≡ i = omega arith in
    let one : i + 1 ≡ suc i = omega arith in
    let two : i + 2 ≡ suc (suc i) = omega arith in
    let three : i + 3 ≡ suc (suc (suc i)) = omega arith in
    rw (e, n, a, z, one, two, three)

pub last_decides : (f : ℕ → Bool) → f 0 ≡ true → f 1 ≡ true → f 2 ≡ true → f 3 ≡ all_to f 4
unfolding all_to
last_decides f a b c = rw (a, b, c)

-- a test that fails is not made good by later ones
pub all_short : (f : ℕ → Bool) (k n : ℕ) → k ≤ n → all_to f k ≡ false → all_to f n ≡ false
unfolding all_to
all_short f k zero l e = let z : k ≡ 0 = omega arith in rw z at e
all_short f k (suc n) l e = ⊎_elim (λ z. rw z at e) (λ m. rw (all_short f k n (omega arith) e)) (last_or_before k (suc n) (omega arith))

-- ---- as far as a slice goes
-- where 0 is in range, numbers past the end are
pub held : (lo hi : ℤ) (l : List ℤ) (k n : ℕ) → in_range lo hi (pos 0) ≡ true → k ≤ n → ((i : ℕ) → k ≤ i → i < n → length l ≤ i) → all_within lo hi l n ≡ all_within lo hi l k
unfolding all_within
held lo hi l k n z h past = all_longer _ k n h (λ i a b. ap (in_range lo hi) (get_or-eq_default l (pos 0) (past i a b)) ∙ z)

-- whether the first n numbers lie between a million and minus a million
abbrev million : List ℤ → ℕ → Bool
million l n = all_within (neg_ℤ (pos 1000000)) (pos 1000000) l n

pub row_held : (l : List ℤ) (k n : ℕ) → k ≤ n → ((i : ℕ) → k ≤ i → i < n → length l ≤ i) → million l n ≡ million l k
unfolding in_range
row_held l k n h past = held (neg_ℤ (pos 1000000)) (pos 1000000) l k n refl h past

pub row_past : (l : List ℤ) (n : ℕ) → length l ≤ 0 → true ≡ million l n
unfolding all_within all_to
row_past l n h = sym (row_held l 0 n zero-le (λ i a b. omega arith))

pub prices_held : (l : List ℤ) (k n : ℕ) → k ≤ n → ((i : ℕ) → k ≤ i → i < n → length l ≤ i) → all_within (pos 0) (pos 100000000) l n ≡ all_within (pos 0) (pos 100000000) l k
unfolding in_range
prices_held l k n h past = held (pos 0) (pos 100000000) l k n refl h past
