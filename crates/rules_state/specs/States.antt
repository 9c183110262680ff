-- An hour in cells: the hour that a list of numbers stands for, whatever it holds, and the numbers of an hour.
use mathlib.Core.List.{List, ◌∷◌, ◌++◌, map, flat_map}
use Rattle.std.specs.Prelude.{ℕ, zero, suc, ◌+◌, ◌*◌, ℤ, pos, negsuc, None, Option, Some}
use Rattle.rules_number.specs.Order.{nat_of}
use Rattle.rules_number.specs.Over.{listed}
use Rattle.rules_curve.specs.Curves.{most_steps, step_to}
use Rattle.rules_curve.specs.declared.Curve.{Curve}
use Rattle.rules_path.specs.declared.Market.{Market}
use Rattle.rules_opening.specs.declared.Row.{Row}
use Rattle.rules_hour.specs.declared.Floor.{Floor}
use Rattle.rules_hour.specs.declared.Standing.{Standing}
use Rattle.rules_pass.specs.Passes.{RealTimeHour}
use Rattle.rules_pass.specs.declared.Quarter.{Quarter}
use Rattle.rules_page.specs.Pages.{printable}
use Rattle.rules_library.specs.Slices.{cell_at}
use Rattle.rules_state.specs.Layout.{most_resources, most_portfolios, quarter_from, market_from, rows_from, curve_room, room_of_row}

-- ---- from cells: a cell past the end is 0, and a negative one is 0 where a number can't be negative
-- a cut mark and a floor price: 0 is uncut, any other mark is cut
abbrev pub floor_of : ℤ → ℤ → Floor
floor_of (pos zero) price = record { price = None }
floor_of (pos (suc n)) price = record { price = Some price }
floor_of (negsuc n) price = record { price = Some price }

-- the marks from a cell on, and then the prices
unfoldable pub floors_in : List ℤ → ℕ → List Floor
floors_in l from = listed (λ r. floor_of (cell_at l (from + r)) (cell_at l (from + most_resources + r))) most_resources

unfoldable pub standing_in : List ℤ → Standing
standing_in l = record { accepted = nat_of (cell_at l 0); floors = floors_in l 1 }

unfoldable pub quarter_in : List ℤ → Quarter
quarter_in l = record { passes = nat_of (cell_at l quarter_from); floors = floors_in l (quarter_from + 1) }

-- n whole numbers from a cell on
unfoldable pub wholes_in : List ℤ → ℕ → ℕ → List ℕ
wholes_in l from n = listed (λ i. nat_of (cell_at l (from + i))) n

unfoldable pub market_in : List ℤ → Market
market_in l = record {
  resources = nat_of (cell_at l market_from);
  portfolio = wholes_in l (market_from + 1) most_resources;
  seller = wholes_in l (market_from + 1 + most_resources) most_portfolios;
}

-- the curve from a cell on; steps past its count are read and mean nothing
unfoldable pub curve_in_cells : List ℤ → ℕ → Curve
curve_in_cells l from = record {
  start = nat_of (cell_at l (from + 1));
  count = nat_of (cell_at l from);
  steps = listed (λ k. step_to (nat_of (cell_at l (from + 2 + k))) (cell_at l (from + 2 + most_steps + k))) most_steps;
}

-- where row r begins
abbrev pub row_from : ℕ → ℕ
row_from r = rows_from + room_of_row * r

unfoldable pub row_in : List ℤ → ℕ → Row
row_in l r = record { bid = curve_in_cells l (row_from r); default = curve_in_cells l (row_from r + curve_room) }

unfoldable pub rows_in : List ℤ → List Row
rows_in l = listed (row_in l) most_resources

abbrev pub hour_in : List ℤ → RealTimeHour
hour_in l = record { hour = record { market = market_in l; rows = rows_in l; standing = standing_in l }; quarter = quarter_in l }

-- ---- to cells
-- a whole number as a cell: one past 63 bits as the largest number of 63 bits
abbrev pub cell_of : ℕ → ℤ
cell_of n = pos (printable n)

-- the cut mark, and the floor price: 0 where there is none
abbrev pub mark_of : Option ℤ → ℤ
mark_of None = pos 0
mark_of (Some l) = pos 1

abbrev pub price_of : Option ℤ → ℤ
price_of None = pos 0
price_of (Some l) = l

unfoldable pub floors_cells : List Floor → List ℤ
floors_cells floors = map (λ x. mark_of x.price) floors ++ map (λ x. price_of x.price) floors

abbrev pub standing_cells : Standing → List ℤ
standing_cells s = cell_of s.accepted ∷ floors_cells s.floors

abbrev pub quarter_cells : Quarter → List ℤ
quarter_cells k = cell_of k.passes ∷ floors_cells k.floors

unfoldable pub market_cells : Market → List ℤ
market_cells m = cell_of m.resources ∷ map cell_of m.portfolio ++ map cell_of m.seller

unfoldable pub curve_cells : Curve → List ℤ
curve_cells c = cell_of c.count ∷ cell_of c.start ∷ map (λ s. cell_of s.end) c.steps ++ map (λ s. s.price) c.steps

unfoldable pub row_cells : Row → List ℤ
row_cells x = curve_cells x.bid ++ curve_cells x.default

unfoldable pub state_cells : RealTimeHour → List ℤ
state_cells h =
    standing_cells h.hour.standing ++ quarter_cells h.quarter ++ market_cells h.hour.market ++ flat_map row_cells h.hour.rows
