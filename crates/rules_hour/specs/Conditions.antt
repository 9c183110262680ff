-- What an interval call must be like, in paper 01's words (Refused, by place: 12 to 16).
use Rattle.std.specs.Prelude.{List, ◌∷◌, ℕ, ◌<◌}
use Rattle.rules_curve.specs.Demands.{Demand, ◌asks◌}
use Rattle.rules_interval.specs.Conditions.{interval_demands}
use Rattle.rules_interval.specs.declared.Interval.{Interval}

-- 12: "four already accepted"; then 13 to 16, for an hour of n resources
abbrev pub call_demands : ℕ → ℕ → Interval → List Demand
call_demands accepted n v = (12 asks (accepted < 4)) ∷ interval_demands n v
