-- Where the numbers of an hour stand in the slice that the caller keeps. Cells count from 0.
use Rattle.std.specs.Prelude.{ℕ, ◌+◌, ◌*◌, min}
use Rattle.rules_curve.specs.Curves.{most_steps}

abbrev pub most_resources : ℕ
most_resources = 64

abbrev pub most_portfolios : ℕ
most_portfolios = 16

abbrev pub most_constraints : ℕ
most_constraints = 32

-- ---- the state
-- the standing, and the quarter hour after it: a count, then the cut mark of each resource, then the floor price of each
abbrev pub counted_room : ℕ
counted_room = 1 + most_resources + most_resources

abbrev pub quarter_from : ℕ
quarter_from = counted_room

-- the market: the number of resources, the portfolio of each, the mark of each portfolio
abbrev pub market_from : ℕ
market_from = quarter_from + counted_room

-- the rows: bid and default curve of each resource. A curve is its number of steps, its start, the end of each step, the price of each
abbrev pub rows_from : ℕ
rows_from = market_from + 1 + most_resources + most_portfolios

abbrev pub curve_room : ℕ
curve_room = 2 + 2 * most_steps

abbrev pub room_of_row : ℕ
room_of_row = 2 * curve_room

abbrev pub state_room : ℕ
state_room = rows_from + most_resources * room_of_row

-- how many of them an hour of n resources needs; one of more than it may have, as many as one of 64
abbrev pub hour_room : ℕ → ℕ
hour_room n = rows_from + room_of_row * min n most_resources

-- ---- what calls read and write
-- one resource of an opening
abbrev pub block_room : ℕ
block_room = 80

-- a verdict: finding, demand, left, sellers named, and what each portfolio withholds; the verdicts of an interval
abbrev pub verdict_width : ℕ
verdict_width = 4 + most_portfolios

abbrev pub verdict_room : ℕ
verdict_room = most_constraints * verdict_width

-- why: cut mark, component, competitive price and floor price of each resource
abbrev pub cause_width : ℕ
cause_width = 4

abbrev pub cause_room : ℕ
cause_room = most_resources * cause_width
