-- What is read from lent slices of numbers, and what is written to them.
use Rattle.std.specs.Prelude.{ℕ, zero, suc, ◌+◌, ◌*◌, Bool, cond, ◌&&◌, List, ◌∷◌, map, leb, ℤ, pos, negsuc, length, get_or}
use Rattle.std.proofs.lemmas.List.Edits.{sets}
use Rattle.rules_number.specs.Over.{listed}
use Rattle.rules_curve.specs.declared.RawStep.{RawStep}
use Rattle.rules_curve.specs.declared.RawCurve.{RawCurve}
use Rattle.rules_curve.specs.declared.Curve.{Curve}
use Rattle.rules_cost.specs.Costs.{most_points, cost_refusal, cost_curve}
use Rattle.rules_cost.specs.declared.Point.{Point}
use Rattle.rules_cost.specs.declared.Costs.{Costs}
use Rattle.rules_curve.specs.Curves.{most_steps, steps_of}

-- the number at an index; past the end it is 0
abbrev pub cell_at : List ℤ → ℕ → ℤ
cell_at l i = get_or l i (pos 0)

-- ---- a bid
-- step k of a list that has end and price of each in turn
abbrev pub raw_step_at : List ℤ → ℕ → RawStep
raw_step_at l k = record { end = cell_at l (2 * k); price = cell_at l (2 * k + 1) }

-- a curve has room for eleven
abbrev pub steps_in : List ℤ → List RawStep
steps_in l = listed (raw_step_at l) most_steps

-- the bid with that start, count and list
abbrev pub raw_bid : ℤ → ℕ → List ℤ → RawCurve
raw_bid start count steps = record { start = start; count = count; steps = steps_in steps }

-- ---- costs
-- point k of a list that has quantity and average heat rate of each in turn
abbrev pub raw_point_at : List ℤ → ℕ → Point
raw_point_at l k = record { mw = cell_at l (2 * k); heat = cell_at l (2 * k + 1) }

-- costs have room for eleven
abbrev pub points_in : List ℤ → List Point
points_in l = listed (raw_point_at l) most_points

-- the costs with that count, list of points and list of charges
unfoldable pub costs_in : ℕ → List ℤ → List ℤ → Costs
costs_in count points charges = record {
  count = count;
  points = points_in points;
  gas = cell_at charges 0;
  rate = cell_at charges 1;
  allowance = cell_at charges 2;
  om = cell_at charges 3;
  msc = cell_at charges 4;
  soc = cell_at charges 5;
  fee = cell_at charges 6;
}

-- ---- a default curve
-- a curve as two lists: the number of steps that it uses, the start and the ends; and the prices. A count past its room uses all
abbrev pub edges_of : Curve → List ℕ
edges_of c = length (steps_of c) ∷ c.start ∷ map (λ s. s.end) c.steps

abbrev pub prices_of : Curve → List ℤ
prices_of c = map (λ s. s.price) c.steps

-- how many numbers they are: count, start and each end; each price
abbrev pub edge_count : ℕ
edge_count = 2 + most_steps

abbrev pub price_count : ℕ
price_count = most_steps

-- whether two lent slices have room for them
abbrev pub is_room : List ℕ → List ℤ → Bool
is_room edges prices = leb edge_count (length edges) && leb price_count (length prices)

-- an answer: the number of the refusal, 0 where there is none, or -1 where the room is too small
abbrev pub answer_of : Bool → ℕ → ℤ
answer_of room n = cond room (pos n) (negsuc 0)

abbrev pub put_answer : List ℕ → List ℤ → ℕ → ℤ
put_answer edges prices n = answer_of (is_room edges prices) n

-- a slice is written only where the answer is 0
abbrev pub if_written : {A : Type 0} → ℤ → List A → List A → List A
if_written (pos zero) written before = written
if_written (pos (suc n)) written before = before
if_written (negsuc n) written before = before

-- the two slices after a curve with the number of its refusal
unfoldable pub edges_with : List ℕ → List ℤ → ℕ → Curve → List ℕ
edges_with edges prices n curve = if_written (put_answer edges prices n) (sets edges 0 (edges_of curve)) edges

unfoldable pub prices_with : List ℕ → List ℤ → ℕ → Curve → List ℤ
prices_with edges prices n curve = if_written (put_answer edges prices n) (sets prices 0 (prices_of curve)) prices

-- the same of the default curve from costs
abbrev pub default_answer : List ℕ → List ℤ → Costs → ℤ
default_answer edges prices c = put_answer edges prices (cost_refusal c)

abbrev pub edges_after : List ℕ → List ℤ → Costs → List ℕ
edges_after edges prices c = edges_with edges prices (cost_refusal c) (cost_curve c)

abbrev pub prices_after : List ℕ → List ℤ → Costs → List ℤ
prices_after edges prices c = prices_with edges prices (cost_refusal c) (cost_curve c)
