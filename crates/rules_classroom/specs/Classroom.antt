-- The bids of the drills, in their order (paper 02, 2.12).
use mathlib.Core.List.{List, [], ◌∷◌, ◌++◌, map, flat_map, zip_with}
use Rattle.std.specs.Prelude.{ℕ, zero, suc, ℤ, pos, get_or}
use Rattle.rules_curve.specs.Curves.{raw_with, no_pack}
use Rattle.rules_curve.specs.declared.RawStep.{RawStep}
use Rattle.rules_curve.specs.declared.RawCurve.{RawCurve}

-- "ends among 100, 200, 300 and prices among 0, 10000, 20000"
abbrev pub drill_ends : List ℤ
drill_ends = pos 100 ∷ pos 200 ∷ pos 300 ∷ []

abbrev pub drill_prices : List ℤ
drill_prices = pos 0 ∷ pos 10000 ∷ pos 20000 ∷ []

-- the lists of n numbers of l, each after the one before it in l
abbrev pub rising : ℕ → List ℤ → List (List ℤ)
rising zero l = [] ∷ []
rising (suc n) [] = []
rising (suc n) (x ∷ l) = map (λ k. x ∷ k) (rising n l) ++ rising (suc n) l

-- "never falling": the same, where a number may be taken again
abbrev pub never_falling : ℕ → List ℤ → List (List ℤ)
never_falling zero l = [] ∷ []
never_falling (suc n) [] = []
never_falling (suc n) (x ∷ l) = map (λ k. x ∷ k) (never_falling n (x ∷ l)) ++ never_falling (suc n) l

-- "start 0", with these ends and prices
abbrev pub bid_step : ℤ → ℤ → RawStep
bid_step e p = record { end = e; price = p }

abbrev pub bid_of : List ℤ → List ℤ → RawCurve
bid_of es ps = raw_with (pos 0) (zip_with bid_step es ps)

-- the bids of n steps: "by the list of ends, then by the list of prices, smaller first"
abbrev pub bids_of : ℕ → List RawCurve
bids_of n = flat_map (λ es. map (bid_of es) (never_falling n drill_prices)) (rising n drill_ends)

-- "by step count": three ends allow three
unfoldable pub classroom_bids : List RawCurve
classroom_bids = bids_of 1 ++ bids_of 2 ++ bids_of 3

-- bid k of the list; past the last the curve with no step
unfoldable pub classroom_bid : ℕ → RawCurve
classroom_bid k = get_or classroom_bids k no_pack
