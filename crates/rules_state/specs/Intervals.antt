-- An interval in numbers. The factor of resource r on constraint c stands at 32 r + c.
use Rattle.std.specs.Prelude.{List, ℕ, ◌+◌, ◌*◌, ℤ}
use Rattle.rules_number.specs.Over.{listed}
use Rattle.rules_interval.specs.Intervals.{interval_of}
use Rattle.rules_interval.specs.declared.Interval.{Interval}
use Rattle.rules_library.specs.Slices.{cell_at}
use Rattle.rules_state.specs.Layout.{most_resources, most_constraints}
use Rattle.rules_state.specs.Openings.{numbers_in}

-- number k of the four of each resource: locational price, dispatch, available, floor
abbrev pub outputs_in : List ℤ → ℕ → List ℤ
outputs_in outputs k = listed (λ r. cell_at outputs (4 * r + k)) most_resources

unfoldable pub interval_in : ℕ → List ℤ → ℕ → List ℤ → List ℤ → ℤ → Interval
interval_in constraints shadow resources outputs factors parameter =
    interval_of constraints (numbers_in shadow most_constraints) resources (outputs_in outputs 0) (outputs_in outputs 1) (outputs_in outputs 2) (outputs_in outputs 3)
    (numbers_in factors (most_resources * most_constraints)) parameter
