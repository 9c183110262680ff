-- Costs as numbers, and where a default curve starts and ends.
use Rattle.std.specs.Prelude.{Bool, ◌&&◌, List, [], ◌∷◌, ℕ, ◌+◌, ◌*◌, ℤ}
use Rattle.std.specs.Int.Signed.{lt_z}
use Rattle.rules_curve.specs.Curves.{steps_of, end_of}
use Rattle.rules_curve.specs.declared.Curve.{Curve}
use Rattle.rules_cost.specs.declared.Point.{Point}
use Rattle.rules_cost.specs.declared.Costs.{Costs}
use Rattle.rules_library.specs.Slices.{cell_at}
use Rattle.cost.specs.declared.Ends.{Ends}

-- gas, rate, allowance, om, msc, soc and fee
abbrev pub charge_count : ℕ
charge_count = 7

abbrev pub charges_of : Costs → List ℤ
charges_of c = c.gas ∷ c.rate ∷ c.allowance ∷ c.om ∷ c.msc ∷ c.soc ∷ c.fee ∷ []

abbrev pub point_of : ℤ → ℤ → Point
point_of mw heat = record { mw = mw; heat = heat }

-- k lies strictly inside segment i, of points with quantity and heat rate of each in turn
abbrev pub splits_at : List ℤ → ℤ → ℕ → Bool
splits_at points k i = lt_z (cell_at points (2 * i)) k && lt_z k (cell_at points (2 * i + 2))

-- where a curve starts and ends
abbrev pub ends_of : Curve → Ends
ends_of c = record { start = c.start; end = end_of c.start (steps_of c) }
