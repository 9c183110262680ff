-- What a pass must be like, in the words of paper 02, 2.1.
use Rattle.std.specs.Prelude.{List, ◌∷◌, ℕ, ◌<◌}
use Rattle.rules_curve.specs.Demands.{Demand, ◌asks◌}
use Rattle.rules_interval.specs.Conditions.{interval_demands}
use Rattle.rules_interval.specs.declared.Interval.{Interval}

-- "19, no interval accepted yet or three passes accepted since the last, tested before 13"; then 13 to 16, for an hour of n resources
abbrev pub pass_demands : ℕ → ℕ → ℕ → Interval → List Demand
pass_demands accepted passes n v = (19 asks ((0 < accepted) × (passes < 3))) ∷ interval_demands n v
