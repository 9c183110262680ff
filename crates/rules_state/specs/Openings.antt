-- What an hour is opened from, in numbers: the marks of the portfolios, and a block of 80 numbers for each resource.
use Rattle.std.specs.Prelude.{List, ℕ, zero, suc, ◌+◌, ◌*◌, ℤ, pos, negsuc, drop}
use Rattle.rules_number.specs.Order.{nat_of}
use Rattle.rules_number.specs.Over.{listed}
use Rattle.rules_curve.specs.declared.RawCurve.{RawCurve}
use Rattle.rules_opening.specs.declared.Source.{Source}
use Rattle.rules_opening.specs.declared.Source.TheVariants as source
use Rattle.rules_opening.specs.declared.Resource.{Resource}
use Rattle.rules_opening.specs.declared.Opening.{Opening}
use Rattle.rules_library.specs.Slices.{cell_at, raw_bid, costs_in}
use Rattle.rules_state.specs.Layout.{most_resources, most_portfolios, block_room}

-- the first n numbers of a slice: those past its end are 0
abbrev pub numbers_in : List ℤ → ℕ → List ℤ
numbers_in l n = listed (cell_at l) n

-- the block of resource r
unfoldable pub block_of : List ℤ → ℕ → List ℤ
block_of blocks r = listed (λ k. cell_at blocks (block_room * r + k)) block_room

-- 0 costs, any other number a pack
abbrev pub source_of : ℤ → Source
source_of (pos zero) = source.Costs
source_of (pos (suc n)) = source.Pack
source_of (negsuc n) = source.Pack

-- a curve of a block: its start, its number of steps, and end and price of eleven steps in turn
abbrev pub raw_from : List ℤ → ℕ → RawCurve
raw_from b from = raw_bid (cell_at b from) (nat_of (cell_at b (from + 1))) (drop (from + 2) b)

-- portfolio; bid; source; number of points, quantity and heat rate of eleven points in turn; the seven charges; the pack's curve
unfoldable pub resource_in : List ℤ → Resource
resource_in b = record {
  portfolio = cell_at b 0;
  bid = raw_from b 1;
  source = source_of (cell_at b 25);
  costs = costs_in (nat_of (cell_at b 26)) (drop 27 b) (drop 49 b);
  pack = raw_from b 56;
}

unfoldable pub opening_in : ℤ → ℕ → List ℤ → ℕ → List ℤ → Opening
opening_in month portfolios sellers resources blocks = record {
  month = month;
  portfolios = portfolios;
  sellers = numbers_in sellers most_portfolios;
  resources = resources;
  list = listed (λ r. resource_in (block_of blocks r)) most_resources;
}
