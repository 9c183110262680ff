-- Paper 01, Text, the other way round: the text of an opening and of an interval, table by table as the page shows them, and what is to be read from it.
use Rattle.std.specs.Prelude.{ℕ, ◌/◌, ◌%◌, ◌^◌, ◌<◌, ◌≤◌, ◌≡◌, List, [], ◌∷◌, ◌++◌, map, cond, ◌&&◌, ◌⊎◌, eqb, length, take, ℤ, pos, Option, Some, None}
use Rattle.rules_number.specs.Over.{listed, padded}
use Rattle.rules_curve.specs.declared.RawStep.{RawStep}
use Rattle.rules_curve.specs.declared.RawCurve.{RawCurve}
use Rattle.rules_cost.specs.declared.Point.{Point}
use Rattle.rules_interval.specs.declared.Interval.{Interval}
use Rattle.rules_opening.specs.declared.Source.TheVariants as source
use Rattle.rules_opening.specs.declared.Resource.{Resource}
use Rattle.rules_opening.specs.declared.Opening.{Opening}
use Rattle.rules_text.specs.Numbers.{Line, Row, bytes}
use Rattle.rules_text.specs.Printing.{line_text}
use Rattle.rules_text.specs.Spelled.{counted_rows, grouped_rows, together, table_lines, Every, Small}
use Rattle.rules_curve.specs.Curves.{most_steps}
use Rattle.rules_cost.specs.Costs.{most_points}

-- ---- what an opening says
pub record GivenResource : Type 0 where
  pub portfolio : ℤ
  pub start : ℤ
  pub steps : List RawStep
  pub points : List Point
  pub gas : ℤ
  pub rate : ℤ
  pub allowance : ℤ
  pub om : ℤ
  pub msc : ℤ
  pub soc : ℤ
  pub fee : ℤ

pub record GivenOpening : Type 0 where
  pub month : ℤ
  pub sellers : List ℤ
  pub resources : List GivenResource

-- the values of its lines past the id, in the order of the names
abbrev pub seller_row : ℤ → Row
seller_row seller = seller ∷ []

abbrev pub resource_row : GivenResource → Row
resource_row r = r.portfolio ∷ r.start ∷ []

abbrev pub step_row : RawStep → Row
step_row s = s.end ∷ s.price ∷ []

abbrev pub point_row : Point → Row
point_row p = p.mw ∷ p.heat ∷ []

abbrev pub cost_row : GivenResource → Row
cost_row r = r.gas ∷ r.rate ∷ r.allowance ∷ r.om ∷ r.msc ∷ r.soc ∷ r.fee ∷ []

abbrev pub step_rows : GivenResource → List Row
step_rows r = map step_row r.steps

abbrev pub point_rows : GivenResource → List Row
point_rows r = map point_row r.points

unfoldable pub opening_lines : GivenOpening → List Line
opening_lines o =
    table_lines (bytes "month\n") ((o.month ∷ []) ∷ [])
    ++ (table_lines (bytes "portfolio seller\n") (counted_rows seller_row 0 o.sellers)
    ++ (table_lines (bytes "resource portfolio start\n") (counted_rows resource_row 0 o.resources)
    ++ (table_lines (bytes "resource end price\n") (together (grouped_rows step_rows 0 o.resources))
    ++ (table_lines (bytes "resource mw heat\n") (together (grouped_rows point_rows 0 o.resources))
    ++ table_lines (bytes "resource gas rate allowance om msc soc fee\n") (counted_rows cost_row 0 o.resources)))))

unfoldable pub opening_text : GivenOpening → List ℕ
opening_text o = together (opening_lines o)

-- ---- and what the engine is to get: counts are those of the lines, however many they are
-- an array of n cells: the first n of l, and b in each cell past them
abbrev pub array_of : {A : Type 0} → ℕ → A → List A → List A
array_of n b l = padded n b (take n l)

abbrev pub zero_step : RawStep
zero_step = record { end = pos 0; price = pos 0 }

abbrev pub zero_point : Point
zero_point = record { mw = pos 0; heat = pos 0 }

abbrev pub curve_is : ℤ → List RawStep → RawCurve
curve_is start steps = record { start = start; count = length steps; steps = array_of most_steps zero_step steps }

abbrev pub resource_is : GivenResource → Resource
resource_is r = record {
  portfolio = r.portfolio;
  bid = curve_is r.start r.steps;
  source = source.Costs;
  costs = record {
    count = length r.points;
    points = array_of most_points zero_point r.points;
    gas = r.gas;
    rate = r.rate;
    allowance = r.allowance;
    om = r.om;
    msc = r.msc;
    soc = r.soc;
    fee = r.fee;
  };
  pack = curve_is (pos 0) [];
}

abbrev pub zero_resource : GivenResource
zero_resource = record { portfolio = pos 0; start = pos 0; steps = []; points = []; gas = pos 0; rate = pos 0; allowance = pos 0; om = pos 0; msc = pos 0; soc = pos 0; fee = pos 0 }

unfoldable pub opening_is : GivenOpening → Opening
opening_is o = record {
  month = o.month;
  portfolios = length o.sellers;
  sellers = array_of 16 (pos 0) o.sellers;
  resources = length o.resources;
  list = array_of 64 (resource_is zero_resource) (map resource_is o.resources);
}

-- ---- what an interval says
pub record GivenOutput : Type 0 where
  pub lmp : ℤ
  pub dispatch : ℤ
  pub available : ℤ
  pub floor : ℤ

pub record GivenFactor : Type 0 where
  pub resource : ℕ
  pub constraint : ℕ
  pub factor : ℤ

pub record GivenInterval : Type 0 where
  pub shadows : List ℤ
  pub outputs : List GivenOutput
  pub factors : List GivenFactor
  -- none where the parameter is missing
  pub parameter : Option ℤ

abbrev pub shadow_row : ℤ → Row
shadow_row shadow = shadow ∷ []

abbrev pub output_row : GivenOutput → Row
output_row o = o.lmp ∷ o.dispatch ∷ o.available ∷ o.floor ∷ []

abbrev pub factor_row : GivenFactor → Row
factor_row f = pos f.resource ∷ pos f.constraint ∷ f.factor ∷ []

-- "Parameter "-" alone is missing"
abbrev pub parameter_line : Option ℤ → Line
parameter_line None = bytes "-\n"
parameter_line (Some z) = line_text (z ∷ [])

-- paper 02, 2.5: "Missing now means 0"
abbrev pub parameter_is : Option ℤ → ℤ
parameter_is None = pos 0
parameter_is (Some z) = z

unfoldable pub interval_lines : GivenInterval → List Line
interval_lines i =
    table_lines (bytes "constraint shadow\n") (counted_rows shadow_row 0 i.shadows)
    ++ (table_lines (bytes "resource lmp dispatch available floor\n") (counted_rows output_row 0 i.outputs)
    ++ (table_lines (bytes "resource constraint factor\n") (map factor_row i.factors)
    ++ (bytes "parameter\n" ∷ parameter_line i.parameter ∷ [])))

unfoldable pub interval_text : GivenInterval → List ℕ
interval_text i = together (interval_lines i)

-- the factor of resource r and constraint c: "an absent one is 0"
unfoldable pub factor_of : List GivenFactor → ℕ → ℕ → ℤ
factor_of [] r c = pos 0
factor_of (f ∷ fs) r c = let more = factor_of fs r c in cond (eqb f.resource r && eqb f.constraint c) f.factor more

unfoldable pub interval_is : GivenInterval → Interval
interval_is i = record {
  constraints = length i.shadows;
  shadow = array_of 32 (pos 0) i.shadows;
  resources = length i.outputs;
  lmp = array_of 64 (pos 0) (map (λ o. o.lmp) i.outputs);
  dispatch = array_of 64 (pos 0) (map (λ o. o.dispatch) i.outputs);
  available = array_of 64 (pos 0) (map (λ o. o.available) i.outputs);
  floor = array_of 64 (pos 0) (map (λ o. o.floor) i.outputs);
  factors = listed (λ q. factor_of i.factors (q / 32) (q % 32)) 2048;
  parameter = parameter_is i.parameter;
}

-- the values of a resource are small
pub record ResourceSmall (r : GivenResource) : Type 0 where
  pub resource : Every Small (resource_row r)
  pub steps : Every (λ s. Every Small (step_row s)) r.steps
  pub points : Every (λ p. Every Small (point_row p)) r.points
  pub costs : Every Small (cost_row r)

pub record OpeningSmall (o : GivenOpening) : Type 0 where
  pub month : Small o.month
  pub sellers : Every Small o.sellers
  pub resources : Every ResourceSmall o.resources

-- and so are its ids
pub record OpeningFits (o : GivenOpening) : Type 0 where
  pub small : OpeningSmall o
  pub portfolios : length o.sellers ≤ 10 ^ 12
  pub resources : length o.resources ≤ 10 ^ 12

-- "Factors strictly rise by (resource, constraint)"
pub record Before (f g : GivenFactor) : Type 0 where
  pub rises : (f.resource < g.resource) ⊎ ((f.resource ≡ g.resource) × (f.constraint < g.constraint))

pub data Rising : List GivenFactor → Type 0 where
  empty : Rising []
  single : {f : GivenFactor} → Rising (f ∷ [])
  next : {f g : GivenFactor} {l : List GivenFactor} → Before f g → Rising (g ∷ l) → Rising (f ∷ g ∷ l)

-- a factor of n resources and m constraints
pub record FactorFits (n m : ℕ) (f : GivenFactor) : Type 0 where
  pub resource : f.resource < n
  pub constraint : f.constraint < m
  pub factor : Small f.factor

-- the values of an interval are small, and its factors in order
pub record IntervalSmall (i : GivenInterval) : Type 0 where
  pub shadows : Every Small i.shadows
  pub outputs : Every (λ o. Every Small (output_row o)) i.outputs
  pub factor : Every (FactorFits (length i.outputs) (length i.shadows)) i.factors
  pub factors : Rising i.factors
  pub parameter : (z : ℤ) → i.parameter ≡ Some z → Small z

-- and its ids are small
pub record IntervalFits (i : GivenInterval) : Type 0 where
  pub small : IntervalSmall i
  pub constraints : length i.shadows ≤ 10 ^ 12
  pub resources : length i.outputs ≤ 10 ^ 12
