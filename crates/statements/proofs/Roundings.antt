-- Paper 02, 2.14, in full as far as rounding goes: how far it raises a default price that is worked out from costs, split segments included. Assumes nothing.
use Rattle.std.specs.Prelude.{Some}
use mathlib.Core.Logic.{◌⊎◌, inl, inr, ⊎_elim, ◌↔◌}
use mathlib.Core.Path.{◌≡◌}
use Prim.Native.Nat.{ℕ, suc, ◌*◌, ◌≤◌, ◌<◌}
use native.Mathlib.Omega.{arith}
use lib.IntN.{ℤ, pos, ◌+ℤ◌, ◌-ℤ◌, ◌*ℤ◌}
use lib.Signed.{◌≤ℤ◌, ◌<ℤ◌}
use Rattle.rules_number.specs.Order.{max_z}
use Rattle.rules_number.proofs.Kit.{var, lit, add, mul, le_from, le_by, lt_from, lt_by}
use Rattle.rules_curve.specs.Curves.{steps_of, quote}
use Rattle.rules_curve.specs.declared.Curve.{Curve}
use Rattle.rules_cost.specs.Meaning.{IsDefaultCurve}
use Rattle.rules_cost.specs.Costs.{cost_refusal}
use Rattle.rules_cost.specs.declared.Costs.{Costs}
use Rattle.rules_rounding.specs.Ratios as rules
use Rattle.rules_rounding.specs.Ratios.{Ratio, IsSmaller, IsLargest}
use Rattle.rules_rounding.specs.Unrounded.{ExactRate, ExactPrice, ExactRaised}
use Rattle.rules_rounding.specs.Bound.{Rounded}
use Rattle.rules_rounding.specs.Exact.{exact_raised}
use Rattle.rules_rounding.proofs.Stands.{exact_stands}
use Rattle.rules_rounding.proofs.Bounded.{rounding_bounded}
use Rattle.rules_rounding.proofs.Quantities.{default_price_bounded}
use Rattle.statements.proofs.Plain.{Whole}
use Rattle.statements.proofs.Refusals.{h, w, n, PMax}
use Rattle.statements.proofs.DefaultCurves.{step, edge_of, IsDefault, default_by_lem}

-- "Unrounded amounts stand as pairs of whole numbers, a numerator over a denominator above 0, compared by cross products": x <= y, and x is y
abbrev AtMost : Ratio → Ratio → Type 0
AtMost x y = (x.num *ℤ pos y.den) ≤ℤ (y.num *ℤ pos x.den)

abbrev Is : Ratio → Ratio → Type 0
Is x y = (0 < x.den) × (x.num *ℤ pos y.den ≡ y.num *ℤ pos x.den)

-- a / b, a / b + c / d, and a / b × n / d
abbrev Over : ℤ → ℕ → Ratio
Over a b = record { num = a; den = b }

abbrev Plus : Ratio → Ratio → Ratio
Plus x y = Over (x.num *ℤ pos y.den +ℤ y.num *ℤ pos x.den) (x.den * y.den)

abbrev Times : Ratio → ℤ → ℕ → Ratio
Times x n d = Over (x.num *ℤ n) (x.den * d)

-- z is the largest of f 0, .., f i
abbrev Largest : (ℕ → Ratio) → ℕ → Ratio → Type 0
Largest f i z = ((j : ℕ) → j ≤ i → AtMost (f j) z) × ((j : ℕ) × (j ≤ i) × Is z (f j))

-- "R = n / w .. If 5 × m' <= 4 × PMax, R is at most the larger of h and h'", not rounded, with n and w of the whole segment and the end of the part
abbrev Rate : Costs → ℕ → ℤ → Ratio → Type 0
Rate c i to R =
    let slope = Over (n c i) (Whole (w c i)) in
    let larger = Over (max_z (h c i) (h c (suc i))) 1 in
    ((pos 5 *ℤ to) ≤ℤ (pos 4 *ℤ PMax c) → AtMost R slope × AtMost R larger × (Is R slope ⊎ Is R larger)) × ((pos 4 *ℤ PMax c) <ℤ (pos 5 *ℤ to) → Is R slope)

-- x is the step price of step t, not rounded: "fuel = M × gas / 1000 .. greenhouse = R × rate × allowance / 1,000,000,000 .. fee part = 100 × fee / w .. cost = fuel + greenhouse + om + msc +
-- soc + fee part; step price = 11 × cost / 10", w the part's own width
pub record Unrounded (c : Costs) (edge : ℕ → ℤ) (segment : ℕ → ℕ) (t : ℕ) (x : Ratio) : Type 0 where
  pub R : ℕ → Ratio
  pub rates : (j : ℕ) → j ≤ t → Rate c (segment j) (edge (suc j)) (R j)
  -- "M is the largest R so far, from the left."
  pub M : Ratio
  pub largest : Largest R t M
  pub price : let fuel = Times M c.gas 1000 in
      let greenhouse = Times (R t) (c.rate *ℤ c.allowance) 1000000000 in
      let part = Over (pos 100 *ℤ c.fee) (Whole (edge (suc t) -ℤ edge t)) in
      Is x (Times (Plus (Plus (Plus (Plus (Plus fuel greenhouse) (Over c.om 1)) (Over c.msc 1)) (Over c.soc 1)) part) (pos 11) 10)

-- "Last, each step price is raised to the largest before it"
abbrev UnroundedRaised : Costs → (ℕ → ℤ) → (ℕ → ℕ) → ℕ → Ratio → Type 0
UnroundedRaised c edge segment t x = (prices : ℕ → Ratio) × ((j : ℕ) → j ≤ t → Unrounded c edge segment j (prices j)) × Largest prices t x

-- the price x "is never lower" than y = a / b, "and is higher by less than 11/10 × (gas / 1000 + rate × allowance / 1,000,000,000 + 3) + 1": a <= x × b, and both times 10,000,000,000 × b
abbrev Bounded : Costs → ℤ → Ratio → Type 0
Bounded c x y =
    (y.num ≤ℤ (x *ℤ pos y.den))
    × ((pos 10000000000 *ℤ x *ℤ pos y.den)
    <ℤ (pos 10000000000 *ℤ y.num +ℤ (pos 11 *ℤ (pos 1000000 *ℤ c.gas +ℤ c.rate *ℤ c.allowance +ℤ pos 3000000000) +ℤ pos 10000000000) *ℤ pos y.den))

-- ---- from the theorems
is_is : {x y : Ratio} → rules.Is y x ↔ Is x y
is_is = ((λ i. (i.den_above_0, i.equal)), λ i. record { den_above_0 = i.0; equal = i.1 })

largest_is : {f : ℕ → Ratio} {i : ℕ} {z : Ratio} → IsLargest f i z ↔ Largest f i z
largest_is = ((λ l. (l.at_least_each, (l.at, l.among, is_is.0 l.attained))), λ l. record { at_least_each = l.0; at = l.1.0; among = l.1.1; attained = is_is.1 l.1.2 })

smaller_is : {a b x : Ratio} → IsSmaller a b x ↔ (AtMost x a × AtMost x b × (Is x a ⊎ Is x b))
smaller_is = (
  (λ s. (s.at_most_first, s.at_most_second, ⊎_elim (λ i. inl (is_is.0 i)) (λ i. inr (is_is.0 i)) s.attained)),
  λ s. record { at_most_first = s.0; at_most_second = s.1; attained = ⊎_elim (λ i. inl (is_is.1 i)) (λ i. inr (is_is.1 i)) s.2 },
)

module _ (c : Costs) where
  rate_is : (i : ℕ) (to : ℤ) (R : Ratio) → ExactRate c i to R ↔ Rate c i to R
  rate_is i to R = ((λ r. ((λ l. smaller_is.0 (r.limited l)), λ l. is_is.0 (r.unlimited l))), λ r. record { limited = λ l. smaller_is.1 (r.0 l); unlimited = λ l. is_is.1 (r.1 l) })

  price_is : (edge : ℕ → ℤ) (segment : ℕ → ℕ) (t : ℕ) (x : Ratio) → ExactPrice c edge segment t x ↔ Unrounded c edge segment t x
  price_is edge segment t x = (
    (λ p. record { R = p.R; rates = λ j l. (rate_is (segment j) (edge (suc j)) (p.R j)).0 (p.rates j l); M = p.M; largest = largest_is.0 p.largest; price = is_is.0 p.price_is }),
    λ p. record { R = p.R; rates = λ j l. (rate_is (segment j) (edge (suc j)) (p.R j)).1 (p.rates j l); M = p.M; largest = largest_is.1 p.largest; price_is = is_is.1 p.price },
  )

  raised_is : (edge : ℕ → ℤ) (segment : ℕ → ℕ) (t : ℕ) (x : Ratio) → ExactRaised c edge segment t x ↔ UnroundedRaised c edge segment t x
  raised_is edge segment t x = (
    (λ r. (r.prices, (λ j l. (price_is edge segment j (r.prices j)).0 (r.priced j l)), largest_is.0 r.largest)),
    λ r. record { prices = r.0; priced = λ j l. (price_is edge segment j (r.0 j)).1 (r.1 j l); largest = largest_is.1 r.2 },
  )

  bounded_is : (x : ℤ) (y : Ratio) → Rounded c x y → Bounded c x y
  bounded_is x y r =
      let a = var c.gas in
      let b = var (c.rate *ℤ c.allowance) in
      let gas = add (mul a (lit 1000000000)) (mul b (lit 1000)) in
      let bound = add (mul (mul (add (mul gas (lit 1)) (mul (lit 3) (lit 1000000000000))) (lit 11)) (lit 1)) (mul (lit 1) (lit 10000000000000)) in
      let less = lt_from (mul (var x) (lit (y.den * 10000000000000))) (mul (add (mul (var y.num) (lit 10000000000000)) (mul bound (lit y.den))) (lit 1)) r.less in (
        le_by (var y.num) (mul (var x) (lit y.den)) (omega (arith, le_from (mul (var y.num) (lit 1)) (mul (var x) (lit y.den)) r.never_lower)),
        lt_by (mul (mul (lit 10000000000) (var x)) (lit y.den))
            (add (mul (lit 10000000000) (var y.num)) (mul (add (mul (lit 11) (add (add (mul (lit 1000000) a) b) (lit 3000000000))) (lit 10000000000)) (lit y.den)))
            (omega (arith, less)),
      )

-- ---- of costs that are taken and their default curve
module _ (c : Costs) (e : cost_refusal c ≡ 0) (k : Curve) (d : IsDefault c k) where
  curve : IsDefaultCurve c k
  curve = (default_by_lem c k d).0

  amounts_are : (t : ℕ) (x : Ratio) → ExactRaised c (edge_of k) curve.segment t x ↔ UnroundedRaised c (edge_of k) d.0 t x
  unfolding curve
  amounts_are t x = rw (default_by_lem c k d).1 (raised_is c (edge_of k) d.0 t x)

  -- there are such amounts
  pub unrounded_stands : (t : ℕ) → t < k.count → (x : Ratio) × UnroundedRaised c (edge_of k) d.0 t x
  unrounded_stands t l = (exact_raised c t, (amounts_are t (exact_raised c t)).0 (exact_stands c e k curve t l))

  -- and each price of a step is within the bound
  pub steps_bounded : (t : ℕ) → t < k.count → (x : Ratio) → UnroundedRaised c (edge_of k) d.0 t x → Bounded c (step k t).price x
  steps_bounded t l x r = bounded_is c (step k t).price x (rounding_bounded c e k curve t l x ((amounts_are t x).1 r))

  -- so is that of a quantity, which lies in one of them
  pub quantities_bounded : (q : ℕ) (price : ℤ) → quote k.start (steps_of k) q ≡ Some price
      → (t : ℕ) × (t < k.count) × (edge_of k t ≤ℤ pos q) × (pos q <ℤ edge_of k (suc t)) × ((x : Ratio) → UnroundedRaised c (edge_of k) d.0 t x → Bounded c price x)
  quantities_bounded q price i =
      let b = default_price_bounded c e k curve q price i in
      (b.at, b.among, b.from, b.below, λ x r. bounded_is c price x (b.rounded x ((amounts_are b.at x).1 r)))
