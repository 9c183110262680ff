-- "All else the same, the price tables too, a larger hub count or horizon never lowers it" (paper 02, 2.8): whether refused or not. Assumes nothing.
use mathlib.Core.List.{List}
use mathlib.Core.Path.{sym, subst}
use Prim.Native.Nat.{ℕ, ◌+◌, ◌-◌, ◌≤◌}
use native.Mathlib.Omega.{arith}
use lib.IntN.{ℤ, pos, ◌*ℤ◌}
use lib.Signed.{◌≤ℤ◌, ≤ℤ_refl}
use Rattle.rules_number.specs.Ceil.{ceil_div}
use Rattle.rules_number.specs.Over.{highest_to}
use Rattle.rules_number.proofs.CeilSize.{ceil_ge, ceil_lt}
use Rattle.rules_number.proofs.HighestLaws.{highest_is_highest}
use Rattle.rules_number.proofs.Kit.{var, lit, sub, mul, le_by, le_of, le_from, lt_from, ≤ℤ_trans}
use Rattle.rules_number.proofs.OrderLaws.{max_mono}
use Rattle.rules_hydro.specs.Hydros.{hub_price, largest_at, largest_over, gas_floor, short_term_price, long_term, hydro_price}
use Rattle.rules_hydro.specs.Meaning.{SameButSize}
use Rattle.rules_hydro.specs.declared.Hydro.{Hydro}

-- the highest of more, each at least as high
highest_more : (f g : ℕ → ℤ) (m n : ℕ) → ((i : ℕ) → f i ≤ℤ g i) → m ≤ n → highest_to f m ≤ℤ highest_to g n
highest_more f g m n each h =
    let a = highest_is_highest f m in
    let b = highest_is_highest g n in
    let c = a.among in
    subst (λ (z : ℤ). z ≤ℤ highest_to g n) (sym a.attained) (≤ℤ_trans (each a.at) (b.at_least_each a.at (omega arith)))

over_more : (prices : List ℤ) (h k m n : ℕ) → h ≤ k → m ≤ n → largest_over prices h m ≤ℤ largest_over prices k n
unfolding largest_over largest_at
over_more prices h k m n a b =
    highest_more (λ i. highest_to (hub_price prices i) (m + 1)) (λ i. highest_to (hub_price prices i) (n + 1)) (h - 1) (k - 1)
    (λ i. highest_more (hub_price prices i) (hub_price prices i) (m + 1) (n + 1) (λ j. ≤ℤ_refl (hub_price prices i j)) (omega arith)) (omega arith)

-- 11/10 of more, up
tenths_more : (a b : ℤ) → a ≤ℤ b → ceil_div (pos 11 *ℤ a) 10 ≤ℤ ceil_div (pos 11 *ℤ b) 10
tenths_more a b h =
    let c = ceil_div (pos 11 *ℤ a) 10 in
    let d = ceil_div (pos 11 *ℤ b) 10 in
    le_by (var c) (var d)
    (omega (
      arith,
      le_of h,
      lt_from (mul (sub (var c) (lit 1)) (lit 10)) (mul (lit 11) (var a)) (ceil_lt (pos 11 *ℤ a) 10 (omega arith)),
      le_from (mul (lit 11) (var b)) (mul (var d) (lit 10)) (ceil_ge (pos 11 *ℤ b) 10 (omega arith)),
    ))

-- hub count and horizon together
pub hydro_more : (x y : Hydro) → SameButSize x y → x.hubs ≤ y.hubs → x.horizon ≤ y.horizon → hydro_price x ≤ℤ hydro_price y
unfolding hydro_price long_term
hydro_more x y same hubs horizon =
    let floor = gas_floor y.heat y.gas in
    let short = short_term_price y.prices in
    rw (same.heat, same.gas, same.prices)
    (max_mono {a = floor} {c = floor} (≤ℤ_refl floor) (max_mono {a = short} {c = short} (≤ℤ_refl short) (tenths_more _ _ (over_more y.prices x.hubs y.hubs x.horizon y.horizon hubs horizon))))
