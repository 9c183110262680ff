-- The fewest net sellers whose full withholding leaves every binding constraint of an interval short (paper 02, 2.11).
use Rattle.std.specs.Prelude.{Bool, false, not, ◌||◌, cond, ℕ, zero, suc, max, ◌+◌, ltb, eqb, None, Some}
use Rattle.rules_number.specs.Over.{sum_to, all_to}
use Rattle.rules_curve.specs.Refusals.{unless, ◌then◌}
use Rattle.rules_interval.specs.Intervals.{interval_refusal}
use Rattle.rules_interval.specs.declared.Interval.{Interval}
use Rattle.rules_path.specs.Judgements.{path_in}
use Rattle.rules_path.specs.Paths.{Path, at, binds, demand, supply, withholdable, offers, top, total}
use Rattle.rules_path.specs.declared.Market.{Market}
use Rattle.rules_mask.specs.Masks.{is_in, set_of}
use Rattle.rules_pivotal.specs.Searches.{searched}
use Rattle.rules_pivotal.specs.declared.Found.{Found}
use Rattle.rules_pivotal.specs.declared.Pivotal.{Pivotal}

-- all net sellers, as one number
unfoldable pub net_sellers : Market → ℕ
net_sellers m = set_of (λ p. eqb (at m.seller p) 1) 16

-- "full withholding": all that each member of a set can withhold
unfoldable pub withheld_by : Path → ℕ → ℕ
withheld_by d s = sum_to (λ p. cond (is_in p s) (withholdable d p) 0) d.portfolios

-- so much withheld leaves a constraint short, supply less withheld being below demand; one that doesn't bind may be left as it is
unfoldable pub leaves_short : Path → ℕ → Bool
leaves_short d w = not (binds d) || ltb (supply d) (demand d + w)

-- the same of a set
abbrev pub is_short : Path → ℕ → Bool
is_short d s = leaves_short d (withheld_by d s)

-- "leaves every binding constraint of an interval short"
unfoldable pub works_in : Market → Interval → ℕ → Bool
works_in m v s = all_to (λ c. is_short (path_in m v c) s) v.constraints

-- ---- the floor
-- the k sellers that can withhold most leave it short
abbrev pub suffices : Path → ℕ → Bool
suffices d k = leaves_short d (total (top k (offers d) d.portfolios))

-- the least of 0, .., n - 1 of which f holds, else n
unfoldable pub first_to : (ℕ → Bool) → ℕ → ℕ
first_to f zero = 0
first_to f (suc n) = cond (ltb (first_to f n) n) (first_to f n) (cond (f n) n (suc n))

-- the count that a constraint alone needs
unfoldable pub need_of : Path → ℕ
need_of d = first_to (suffices d) d.portfolios

-- the largest of f 0, .., f (n - 1)
unfoldable pub most_to : (ℕ → ℕ) → ℕ → ℕ
most_to f zero = 0
most_to f (suc n) = max (most_to f n) (f n)

-- "a floor: the largest count that one constraint alone needs"
unfoldable pub floor_of : Market → Interval → ℕ
floor_of m v = most_to (λ c. need_of (path_in m v c)) v.constraints

-- ---- the result
-- "the result is none, with 0 sets tried and floor 0"
abbrev pub none_found : Pivotal
none_found = record { best = None; tried = 0; floor = 0 }

abbrev pub found_with : Found → ℕ → Pivotal
found_with f floor = record { best = Some f.best; tried = f.tried; floor = floor }

-- "If all net sellers together can't, no set of them can, and the result is none [..] Otherwise that whole set is the first best."
unfoldable pub pivotal_in : Market → Interval → ℕ → Pivotal
pivotal_in m v budget = cond (works_in m v (net_sellers m)) (found_with (searched (works_in m v) (net_sellers m) budget) (floor_of m v)) none_found

-- f holds of one of 0, .., n - 1
unfoldable pub any_to : (ℕ → Bool) → ℕ → Bool
any_to f zero = false
any_to f (suc n) = any_to f n || f n

-- ---- "26, no constraint binds, after 13 to 16; 12 never applies here"
unfoldable pub any_binds : Market → Interval → Bool
any_binds m v = any_to (λ c. binds (path_in m v c)) v.constraints

unfoldable pub pivotal_refusal : Market → Interval → ℕ
pivotal_refusal m v = interval_refusal m.resources v then unless (any_binds m v) 26

-- a refusal returns its number alone
abbrev pub pivotal_unless : ℕ → Pivotal → Pivotal
pivotal_unless zero r = r
pivotal_unless (suc n) r = none_found

unfoldable pub pivotal_of : Market → Interval → ℕ → Pivotal
pivotal_of m v budget = pivotal_unless (pivotal_refusal m v) (pivotal_in m v budget)
