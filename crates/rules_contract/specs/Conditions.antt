-- What two parts must be like to be joined, in the request's words (paper 02, 2.9).
use Rattle.std.specs.Prelude.{List, [], ◌∷◌, ◌≡◌, ◌+◌, ◌≤◌}
use Rattle.rules_curve.specs.Conditions.{edge, Counted, Edged, DefaultPriced}
use Rattle.rules_curve.specs.Demands.{Demand, ◌asks◌}
use Rattle.rules_curve.specs.declared.RawCurve.{RawCurve}

-- "Each part passes a default curve's checks first. It adds 23, the second part doesn't start at the first one's last end; 24, over 11 steps together; both after 3."
abbrev pub contract_demands : RawCurve → RawCurve → List Demand
contract_demands a b =
    (1 asks (Counted 11 a × Counted 11 b))
    ∷ (2 asks (Edged a × Edged b))
    ∷ (3 asks (DefaultPriced a × DefaultPriced b))
    ∷ (23 asks (edge a a.count ≡ b.start))
    ∷ (24 asks (a.count + b.count ≤ 11))
    ∷ []
