-- A resource as opening takes it (paper 01, Refused, by place: "bid, costs (or the pack's curve), 11").
use Rattle.std.specs.Prelude.{Bool, ◌&&◌, ℕ, zero, suc, leb}
use Rattle.rules_curve.specs.Refusals.{unless, ◌then◌}
use Rattle.rules_curve.specs.Curves.{steps_of, end_of, curve_of, blank_curve, bid_refusal, default_refusal}
use Rattle.rules_curve.specs.declared.Curve.{Curve}
use Rattle.rules_cost.specs.Costs.{cost_refusal, cost_curve}
use Rattle.rules_opening.specs.declared.Source.{Source}
use Rattle.rules_opening.specs.declared.Source.TheVariants as source
use Rattle.rules_opening.specs.declared.Resource.{Resource}
use Rattle.rules_opening.specs.declared.Row.{Row}

-- the default curve of a resource, from its costs or from its pack
abbrev pub default_by : Source → Resource → Curve
default_by source.Costs x = cost_curve x.costs
default_by source.Pack x = curve_of x.pack

-- costs 4 to 8, or the pack's curve 1 to 3
abbrev pub source_refusal : Source → Resource → ℕ
source_refusal source.Costs x = cost_refusal x.costs
source_refusal source.Pack x = default_refusal x.pack

-- 11: the bid lies inside its default curve
unfoldable pub lies_inside : Curve → Curve → Bool
lies_inside bid default = leb default.start bid.start && leb (end_of bid.start (steps_of bid)) (end_of default.start (steps_of default))

-- one resource in a month: bid, costs or pack, 11
unfoldable pub resource_refusal : ℕ → Resource → ℕ
resource_refusal month x =
    bid_refusal month x.bid
    then source_refusal x.source x
    then unless (lies_inside (curve_of x.bid) (default_by x.source x)) 11

-- ---- the row
-- a resource's row: its bid and its default curve
unfoldable pub row_of : Resource → Row
row_of x = record { bid = curve_of x.bid; default = default_by x.source x }

-- a refusal returns its number alone: the row is blank
abbrev pub blank_row : Row
blank_row = record { bid = blank_curve; default = blank_curve }

abbrev pub row_unless : ℕ → Row → Row
row_unless zero x = x
row_unless (suc n) x = blank_row
