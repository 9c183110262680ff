-- Sums over 0, .., n - 1.
use mathlib.Core.Path.{◌≡◌, refl, ap}
use Prim.Native.Nat.{ℕ, zero, suc, ◌+◌, ◌*◌, ◌≤◌, ◌<◌, zero-le}
use native.Mathlib.Nat.{le_refl, add-le-add}
use native.Mathlib.Numerals.{add-one}
use native.Mathlib.Omega.{arith}
use Rattle.rules_number.specs.Over.{sum_to}

pub sum_next : (f : ℕ → ℕ) (n : ℕ) → sum_to f (n + 1) ≡ sum_to f n + f n
unfolding sum_to
sum_next f n = ap (sum_to f) (add-one n)

pub sum_add : (f g : ℕ → ℕ) (n : ℕ) → sum_to (λ i. f i + g i) n ≡ sum_to f n + sum_to g n
unfolding sum_to
sum_add f g zero = refl
sum_add f g (suc n) = omega (arith, sum_add f g n)

pub sum_mono : (f g : ℕ → ℕ) → ((i : ℕ) → f i ≤ g i) → (n : ℕ) → sum_to f n ≤ sum_to g n
unfolding sum_to
sum_mono f g h zero = le_refl 0
sum_mono f g h (suc n) = add-le-add (sum_mono f g h n) (h n)

-- a sum of n amounts, none above b
pub sum_le : (f : ℕ → ℕ) (b n : ℕ) → ((i : ℕ) → i < n → f i ≤ b) → sum_to f n ≤ n * b
unfolding sum_to
sum_le f b zero h = zero-le
sum_le f b (suc n) h = omega (arith, sum_le f b n (λ i l. h i (omega arith)), h n (omega arith))
