-- Curves and the price of a quantity (paper 01, Curve; 39.6.1.1, 39.6.1.4).
use Rattle.std.specs.Prelude.{Bool, true, false, ◌&&◌, cond, List, [], ◌∷◌, map, ℕ, zero, suc, leb, ltb, ℤ, pos, neg_ℤ, length, take, Option, Some, None}
use Rattle.std.specs.Int.Signed.{lt_z, le_z}
use Rattle.rules_number.specs.Order.{in_range, nat_of}
use Rattle.rules_number.specs.Over.{padded}
use Rattle.rules_curve.specs.Refusals.{unless, ◌then◌}
use Rattle.rules_curve.specs.Conditions.{no_step}
use Rattle.rules_curve.specs.declared.RawStep.{RawStep}
use Rattle.rules_curve.specs.declared.RawCurve.{RawCurve}
use Rattle.rules_curve.specs.declared.Step.{Step}
use Rattle.rules_curve.specs.declared.Curve.{Curve}

abbrev pub step_to : ℕ → ℤ → Step
step_to e p = record { end = e; price = p }

abbrev pub blank_step : Step
blank_step = step_to 0 (pos 0)

-- the most steps of a bid, and of a default curve: the room of any curve
abbrev pub most_bid_steps : ℕ
most_bid_steps = 10

abbrev pub most_steps : ℕ
most_steps = 11

-- the steps that a curve uses
abbrev pub steps_of : Curve → List Step
steps_of c = take c.count c.steps

-- those of a bid, of which it has at most ten: one past them doesn't count
abbrev pub bid_steps : Curve → List Step
bid_steps c = take most_bid_steps (steps_of c)

abbrev pub raw_steps : RawCurve → List RawStep
raw_steps c = take c.count c.steps

-- the price of quantity q: that of the first step that ends above it
unfoldable pub price_at : List Step → ℕ → ℤ
price_at [] q = pos 0
price_at (s ∷ l) q =
    let later = price_at l q in
    cond (ltb q s.end) s.price later

-- the same as an answer: a quantity has a price only between the curve's start and its end
unfoldable pub quote_from : List Step → ℕ → Option ℤ
quote_from [] q = None
quote_from (s ∷ l) q =
    let later = quote_from l q in
    cond (ltb q s.end) (Some s.price) later

abbrev pub quote : ℕ → List Step → ℕ → Option ℤ
quote start l q = cond (ltb q start) None (quote_from l q)

-- where a curve that starts at p ends
abbrev pub end_of : ℕ → List Step → ℕ
end_of p [] = p
end_of p (s ∷ l) = end_of s.end l

-- ---- prices: least and highest
-- the highest bid price, by month since the rule took effect (39.6.1.1)
abbrev pub highest_bid : ℕ → ℤ
highest_bid month = cond (leb month 12) (pos 5000000) (cond (leb month 24) (pos 7500000) (pos 10000000))

-- the lowest bid price (39.6.1.4)
abbrev pub lowest_bid : ℤ
lowest_bid = neg_ℤ (pos 1500000)

-- the range of a default curve's prices
abbrev pub highest_default : ℤ
highest_default = pos 1000000000

abbrev pub lowest_default : ℤ
lowest_default = neg_ℤ (pos 1000000000)

-- ---- checks 1 to 3
-- each element of a list suits the key of the one before it, the first the key p
unfoldable pub chain : {A : Type 0} → (ℤ → A → Bool) → (A → ℤ) → ℤ → List A → Bool
chain suits key p [] = true
chain suits key p (s ∷ l) =
    let later = chain suits key (key s) l in
    cond (suits p s) later false

-- 1: the step count is 1 to the most
abbrev pub count_good : ℕ → RawCurve → Bool
count_good most c = leb 1 c.count && leb c.count most

-- 2: the start is 0 to 1,000,000, and the ends rise from it to at most 1,000,000
abbrev pub edge_suits : ℤ → RawStep → Bool
edge_suits p s = lt_z p s.end && le_z s.end (pos 1000000)

abbrev pub edges_good : RawCurve → Bool
edges_good c = in_range (pos 0) (pos 1000000) c.start && chain edge_suits (λ s. s.end) c.start (raw_steps c)

-- 3: the prices never fall, from low to top
abbrev pub price_suits : ℤ → ℤ → RawStep → Bool
price_suits top p s = le_z p s.price && le_z s.price top

abbrev pub prices_good : ℤ → ℤ → RawCurve → Bool
prices_good low top c = chain (price_suits top) (λ s. s.price) low (raw_steps c)

-- the lowest number that applies to a curve of so many steps at most, with prices from low to top
unfoldable pub curve_refusal : ℕ → ℤ → ℤ → RawCurve → ℕ
curve_refusal most low top c = unless (count_good most c) 1 then unless (edges_good c) 2 then unless (prices_good low top c) 3

-- a bid, by month, and a default curve from a pack
abbrev pub bid_refusal : ℕ → RawCurve → ℕ
bid_refusal month c = curve_refusal most_bid_steps lowest_bid (highest_bid month) c

abbrev pub default_refusal : RawCurve → ℕ
default_refusal c = curve_refusal most_steps lowest_default highest_default c

-- ---- the curve of what was read
-- the curve that starts at s and has the steps l, with blank steps past them
abbrev pub curve_with : ℕ → List Step → Curve
curve_with s l = record { start = s; count = length l; steps = padded most_steps blank_step l }

unfoldable pub blank_curve : Curve
blank_curve = curve_with 0 []

abbrev pub step_of : RawStep → Step
step_of s = step_to (nat_of s.end) s.price

unfoldable pub curve_of : RawCurve → Curve
curve_of c = curve_with (nat_of c.start) (map step_of (raw_steps c))

-- a refusal returns its number alone: the curve is blank
abbrev pub unless_refused : ℕ → Curve → Curve
unless_refused zero c = c
unless_refused (suc n) c = blank_curve

-- the curve that starts at s and has the steps l, as it would be read, and the one of no step: what a refusal leaves of a default curve that is made for a pack
abbrev pub raw_with : ℤ → List RawStep → RawCurve
raw_with s l = record { start = s; count = length l; steps = padded most_steps no_step l }

unfoldable pub no_pack : RawCurve
no_pack = raw_with (pos 0) []

abbrev pub pack_unless : ℕ → RawCurve → RawCurve
pack_unless zero c = c
pack_unless (suc n) c = no_pack

-- the curve that a check hands back, blank where it is refused
abbrev pub checked_curve : ℕ → ℤ → ℤ → RawCurve → Curve
checked_curve most low top c = unless_refused (curve_refusal most low top c) (curve_of c)

abbrev pub checked_bid : ℕ → RawCurve → Curve
checked_bid month c = checked_curve most_bid_steps lowest_bid (highest_bid month) c

abbrev pub checked_default : RawCurve → Curve
checked_default c = checked_curve most_steps lowest_default highest_default c
