-- The least of a number and a list of numbers, and what it is to be the least or the highest.
use mathlib.Core.List.{List, [], ◌∷◌, Memᴰ}
use Rattle.std.specs.Prelude.{◌⊎◌, ◌≡◌, ℕ, ◌≤◌, ℤ, ◌≤ℤ◌}
use Rattle.rules_number.specs.Order.{min_z}

unfoldable pub least : ℤ → List ℤ → ℤ
least x [] = x
least x (y ∷ l) = least (min_z x y) l

-- p is the least of x and the entries of l: above none of them, and one of them
pub record IsLeast (x : ℤ) (l : List ℤ) (p : ℤ) : Type 0 where
  pub at_most_first : p ≤ℤ x
  pub at_most_each : (y : ℤ) → Memᴰ y l → p ≤ℤ y
  pub attained : (p ≡ x) ⊎ Memᴰ p l

-- z is the highest of f 0, .., f n: below none of them, and one of them
pub record IsHighest (f : ℕ → ℤ) (n : ℕ) (z : ℤ) : Type 0 where
  pub at_least_each : (i : ℕ) → i ≤ n → f i ≤ℤ z
  pub at : ℕ
  pub among : at ≤ n
  pub attained : z ≡ f at
