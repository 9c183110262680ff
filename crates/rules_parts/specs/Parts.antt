-- Paper 01, Text: the two kinds of part, read into what the engine takes.
use Rattle.std.specs.Prelude.{ℕ, suc, ◌+◌, ◌*◌, List, [], ◌∷◌, map, Bool, cond, ◌&&◌, length, set, replicate, leb, ltb, ℤ, pos, Option, Some}
use Rattle.std.specs.Int.Signed.{le_z, lt_z}
use Rattle.rules_number.specs.Order.{nat_of}
use Rattle.rules_curve.specs.declared.RawStep.{RawStep}
use Rattle.rules_curve.specs.declared.RawCurve.{RawCurve}
use Rattle.rules_cost.specs.declared.Point.{Point}
use Rattle.rules_cost.specs.declared.Costs.{Costs}
use Rattle.rules_interval.specs.declared.Interval.{Interval}
use Rattle.rules_opening.specs.declared.Source.TheVariants as source
use Rattle.rules_opening.specs.declared.Resource.{Resource}
use Rattle.rules_opening.specs.declared.Opening.{Opening}
use Rattle.rules_text.specs.Numbers.{Line, Row, bytes, same}
use Rattle.rules_text.specs.Tables.{Reader, found, ◌▷◌, due, headed, cell, single, run, rows, counted, grouped, pairs, each}
use Rattle.rules_text.specs.Offsets.{kept}
use Rattle.rules_curve.specs.Curves.{most_steps}
use Rattle.rules_cost.specs.Costs.{most_points}

-- ---- the first six tables
abbrev pub step_of : Row → RawStep
step_of x = record { end = cell 1 x; price = cell 2 x }

-- a bid's start and its step lines
abbrev pub bid_of : ℤ → List Row → RawCurve
bid_of start xs = record { start = start; count = length xs; steps = kept most_steps (step_of []) (map step_of xs) }

abbrev pub point_of : Row → Point
point_of x = record { mw = cell 1 x; heat = cell 2 x }

-- a resource's point lines and its cost line
abbrev pub costs_of : List Row → Row → Costs
costs_of xs x = record {
  count = length xs;
  points = kept most_points (point_of []) (map point_of xs);
  gas = cell 1 x;
  rate = cell 2 x;
  allowance = cell 3 x;
  om = cell 4 x;
  msc = cell 5 x;
  soc = cell 6 x;
  fee = cell 7 x;
}

-- a resource's line, its steps, its points and its cost line; a text has no packs
abbrev pub resource_of : Row → List Row → List Row → Row → Resource
resource_of x steps points costs = record {
  portfolio = cell 1 x;
  bid = bid_of (cell 2 x) steps;
  source = source.Costs;
  costs = costs_of points costs;
  pack = bid_of (pos 0) [];
}

unfoldable pub resources_of : List Row → List (List Row) → List (List Row) → List Row → List Resource
resources_of [] ss ps cs = []
resources_of (x ∷ xs) [] ps cs = []
resources_of (x ∷ xs) (s ∷ ss) [] cs = []
resources_of (x ∷ xs) (s ∷ ss) (p ∷ ps) [] = []
resources_of (x ∷ xs) (s ∷ ss) (p ∷ ps) (c ∷ cs) = resource_of x s p c ∷ resources_of xs ss ps cs

-- counts are those of the lines; arrays keep the lines for which they have room
unfoldable pub opening_of : ℤ → List Row → List Row → List (List Row) → List (List Row) → List Row → Opening
opening_of month portfolios resources steps points costs = record {
  month = month;
  portfolios = length portfolios;
  sellers = kept 16 (pos 0) (map (cell 1) portfolios);
  resources = length resources;
  list = kept 64 (resource_of [] [] [] []) (resources_of resources steps points costs);
}

-- "the first six are one part"; "Costs have one line for each resource, month and parameter one line"
unfoldable pub read_opening : Reader Opening
read_opening =
    headed "month\n" (due single) ▷ λ month.
    headed "portfolio seller\n" (counted 2) ▷ λ portfolios.
    headed "resource portfolio start\n" (counted 3) ▷ λ resources.
    headed "resource end price\n" (grouped pairs (length resources) 0) ▷ λ steps.
    headed "resource mw heat\n" (grouped pairs (length resources) 0) ▷ λ points.
    headed "resource gas rate allowance om msc soc fee\n" (each 8 (length resources) 0) ▷ λ costs.
    found (opening_of month portfolios resources steps points costs)

-- ---- "the last four another that repeats for each interval"
-- whether a value is one of n ids "declared in the same part"
unfoldable pub is_declared : ℕ → ℤ → Bool
is_declared n z = le_z (pos 0) z && lt_z z (pos n)

-- the place of (resource, constraint) among the pairs in rising order, where there are m constraints
abbrev pub place : ℕ → ℕ → ℕ → ℕ
place m r c = r * m + c

abbrev pub place_of : ℕ → Row → ℕ
place_of m x = place m (nat_of (cell 0 x)) (nat_of (cell 1 x))

-- whether a line is a factor of n resources and m constraints at place i or after it
unfoldable pub is_factor : ℕ → ℕ → ℕ → Row → Bool
is_factor n m i x = is_declared n (cell 0 x) && (is_declared m (cell 1 x) && leb i (place_of m x))

-- "Factors strictly rise by (resource, constraint)": each lies after the place of the one before
unfoldable pub factor_rows : ℕ → ℕ → List Line → List Row
factor_rows n m = run 3 (is_factor n m) (λ i x. suc (place_of m x)) 0

-- the cell of a factor in an array of 2048: past its end where there is no room
abbrev pub factor_cell : ℕ → ℕ → ℕ
factor_cell r c = cond (ltb r 64 && ltb c 32) (r * 32 + c) 2048

abbrev pub with_factor : List ℤ → Row → List ℤ
with_factor a x = set a (factor_cell (nat_of (cell 0 x)) (nat_of (cell 1 x))) (cell 2 x)

-- factors stored one by one
unfoldable pub with_factors : List ℤ → List Row → List ℤ
with_factors a [] = a
with_factors a (x ∷ xs) = with_factors (with_factor a x) xs

-- "an absent one is 0"
unfoldable pub interval_of : List Row → List Row → List Row → ℤ → Interval
interval_of constraints resources factors parameter = record {
  constraints = length constraints;
  shadow = kept 32 (pos 0) (map (cell 1) constraints);
  resources = length resources;
  lmp = kept 64 (pos 0) (map (cell 1) resources);
  dispatch = kept 64 (pos 0) (map (cell 2) resources);
  available = kept 64 (pos 0) (map (cell 3) resources);
  floor = kept 64 (pos 0) (map (cell 4) resources);
  factors = with_factors (replicate 2048 (pos 0)) factors;
  parameter = parameter;
}

-- ---- "Parameter "-" alone is missing"; `missing` is what it means then
unfoldable pub parameter_by : ℤ → Line → Option ℤ
parameter_by missing l = cond (same (bytes "-\n") l) (Some missing) (single l)

unfoldable pub read_interval_by : ℤ → Reader Interval
read_interval_by missing =
    headed "constraint shadow\n" (counted 2) ▷ λ constraints.
    headed "resource lmp dispatch available floor\n" (counted 5) ▷ λ resources.
    headed "resource constraint factor\n" (rows (factor_rows (length resources) (length constraints))) ▷ λ factors.
    headed "parameter\n" (due (parameter_by missing)) ▷ λ parameter.
    found (interval_of constraints resources factors parameter)

-- paper 02, 2.5: "Missing now means 0"
abbrev pub missing_parameter : ℤ
missing_parameter = pos 0

abbrev pub parameter_of : Line → Option ℤ
parameter_of = parameter_by missing_parameter

abbrev pub read_interval : Reader Interval
read_interval = read_interval_by missing_parameter
