-- The unrounded prices of the steps, worked out (paper 02, 2.14). So there are such amounts.
use Rattle.std.specs.Prelude.{Bool, cond, ℕ, zero, suc, ℤ, pos, ◌*ℤ◌}
use Rattle.std.specs.Int.Signed.{le_z}
use Rattle.rules_number.specs.Order.{max_z}
use Rattle.rules_cost.specs.Conditions.{h, PMax}
use Rattle.rules_cost.specs.Costs.{segment_at, end_at, width_at}
use Rattle.rules_cost.specs.declared.Costs.{Costs}
use Rattle.rules_rounding.specs.Ratios.{Ratio, whole}
use Rattle.rules_rounding.specs.Unrounded.{exact_slope, exact_adder}

abbrev pub le_q : Ratio → Ratio → Bool
le_q x y = le_z (x.num *ℤ pos y.den) (y.num *ℤ pos x.den)

abbrev pub min_q : Ratio → Ratio → Ratio
min_q x y = cond (le_q x y) x y

abbrev pub max_q : Ratio → Ratio → Ratio
max_q x y = cond (le_q x y) y x

-- the highest of f 0, .., f n
unfoldable pub highest_q : (ℕ → Ratio) → ℕ → Ratio
highest_q f zero = f zero
highest_q f (suc n) = max_q (highest_q f n) (f (suc n))

-- R of a part of segment i that ends at `to`
abbrev pub exact_rate : Costs → ℕ → ℤ → Ratio
exact_rate c i to = cond (le_z (pos 5 *ℤ to) (pos 4 *ℤ PMax c)) (min_q (exact_slope c i) (whole (max_z (h c i) (h c (suc i))))) (exact_slope c i)

-- R, M and the price of step t, and that price raised
unfoldable pub exact_rate_at : Costs → ℕ → Ratio
exact_rate_at c t = exact_rate c (segment_at c t) (end_at c t)

unfoldable pub exact_price : Costs → ℕ → Ratio
exact_price c t = exact_adder c (highest_q (exact_rate_at c) t) (exact_rate_at c t) (width_at c t)

unfoldable pub exact_raised : Costs → ℕ → Ratio
exact_raised c t = highest_q (exact_price c) t
