-- What an hour is opened from (paper 01, Refused, by place: 9, then 10, then each resource in number order: bid, costs or pack, 11).
use Rattle.std.specs.Prelude.{Bool, ◌&&◌, List, [], ℕ, zero, suc, leb, ℤ, pos, get_or, replicate}
use Rattle.std.specs.Int.Signed.{le_z, lt_z}
use Rattle.rules_number.specs.Order.{in_range, nat_of}
use Rattle.rules_number.specs.Over.{all_to, listed, padded}
use Rattle.rules_curve.specs.Refusals.{unless, ◌then◌, each_to}
use Rattle.rules_curve.specs.declared.RawCurve.{RawCurve}
use Rattle.rules_cost.specs.declared.Costs.{Costs}
use Rattle.rules_interval.specs.Intervals.{cell}
use Rattle.rules_path.specs.declared.Market.{Market}
use Rattle.rules_opening.specs.Resources.{blank_row, resource_refusal, row_of}
use Rattle.rules_opening.specs.declared.Row.{Row}
use Rattle.rules_opening.specs.declared.Source.TheVariants as source
use Rattle.rules_opening.specs.declared.Resource.{Resource}
use Rattle.rules_opening.specs.declared.Opening.{Opening}

-- ---- the data
-- what a read past the end of an array gives
abbrev pub no_raw : RawCurve
no_raw = record { start = pos 0; count = 0; steps = [] }

abbrev pub no_costs : Costs
no_costs = record { count = 0; points = []; gas = pos 0; rate = pos 0; allowance = pos 0; om = pos 0; msc = pos 0; soc = pos 0; fee = pos 0 }

abbrev pub no_resource : Resource
no_resource = record { portfolio = pos 0; bid = no_raw; source = source.Costs; costs = no_costs; pack = no_raw }

-- resource r, and the mark of portfolio p
abbrev pub resource_at : Opening → ℕ → Resource
resource_at o r = get_or o.list r no_resource

abbrev pub seller_at : Opening → ℕ → ℤ
seller_at o p = get_or o.sellers p (pos 0)

-- the portfolios of the first n of a list of resources, and 0 past them
unfoldable pub owners_in : List Resource → ℕ → List ℤ
owners_in list n = padded 64 (pos 0) (listed (λ r. (get_or list r no_resource).portfolio) n)

-- the first n of an array of numbers as whole numbers, in an array of `room` cells, and 0 past them
unfoldable pub wholes : ℕ → List ℤ → ℕ → List ℕ
wholes room numbers n = padded room 0 (listed (λ k. nat_of (cell numbers k)) n)

-- ---- the checks
-- 9: month, portfolio and resource count
abbrev pub counts_within : ℤ → ℕ → ℕ → Bool
counts_within month portfolios resources = in_range (pos 1) (pos 1200) month && (leb 1 portfolios && leb portfolios 16 && (leb 1 resources && leb resources 64))

abbrev pub counts_good : Opening → Bool
counts_good o = counts_within o.month o.portfolios o.resources

-- 10: each seller is 0 or 1, and each resource's portfolio is known
abbrev pub is_mark : ℤ → Bool
is_mark seller = in_range (pos 0) (pos 1) seller

abbrev pub is_known : ℕ → ℤ → Bool
is_known portfolios owner = le_z (pos 0) owner && lt_z owner (pos portfolios)

unfoldable pub sellers_good : Opening → Bool
sellers_good o = all_to (λ p. is_mark (seller_at o p)) o.portfolios

unfoldable pub owners_good : Opening → Bool
owners_good o = all_to (λ r. is_known o.portfolios (resource_at o r).portfolio) o.resources

abbrev pub members_good : Opening → Bool
members_good o = sellers_good o && owners_good o

-- 9, then 10, then each resource in number order
unfoldable pub opening_refusal : Opening → ℕ
opening_refusal o =
    unless (counts_good o) 9 then unless (members_good o) 10 then each_to (λ r. resource_refusal (nat_of o.month) (resource_at o r)) o.resources

-- ---- what a fresh hour is made of
-- who owns what: portfolios that are not declared are net buyers
unfoldable pub market_of : Opening → Market
market_of o = record {
  resources = o.resources;
  portfolio = padded 64 0 (listed (λ r. nat_of (resource_at o r).portfolio) o.resources);
  seller = padded 16 0 (listed (λ p. nat_of (seller_at o p)) o.portfolios);
}

-- a row for each resource
abbrev pub rows_of : Opening → List Row
rows_of o = padded 64 blank_row (listed (λ r. row_of (resource_at o r)) o.resources)

-- a refusal returns its number alone: market and rows are blank
abbrev pub blank_market : Market
blank_market = record { resources = 0; portfolio = replicate 64 0; seller = replicate 16 0 }

abbrev pub blank_rows : List Row
blank_rows = replicate 64 blank_row

abbrev pub market_unless : ℕ → Market → Market
market_unless zero m = m
market_unless (suc n) m = blank_market

abbrev pub rows_unless : ℕ → List Row → List Row
rows_unless zero rows = rows
rows_unless (suc n) rows = blank_rows
