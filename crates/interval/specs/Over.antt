-- An interval's numbers as they are lent: locational price, dispatch, available and floor of each resource in turn.
use Rattle.std.specs.Prelude.{List, ℕ, ◌+◌, ◌*◌, ℤ}
use Rattle.rules_interval.specs.Intervals.{interval_of}
use Rattle.rules_interval.specs.declared.Interval.{Interval}
use Rattle.rules_library.specs.Slices.{cell_at}
use Rattle.rules_state.specs.Intervals.{outputs_in}
use Rattle.interval.specs.declared.LentInterval.{LentInterval}
use Rattle.interval.specs.declared.Output.{Output}

-- the interval of lists as they are lent: four outputs of each resource in turn
abbrev pub interval_over : ℕ → List ℤ → ℕ → List ℤ → List ℤ → ℤ → Interval
interval_over constraints shadow resources outputs factors parameter =
    interval_of constraints shadow resources (outputs_in outputs 0) (outputs_in outputs 1) (outputs_in outputs 2) (outputs_in outputs 3) factors parameter

-- and of lent slices
abbrev pub lent_interval : LentInterval → Interval
lent_interval v = interval_over v.constraints v.shadow.now v.resources v.outputs.now v.factors.now v.parameter

-- the four of resource r
abbrev pub output_at : List ℤ → ℕ → Output
output_at outputs r =
    record { lmp = cell_at outputs (4 * r); dispatch = cell_at outputs (4 * r + 1); available = cell_at outputs (4 * r + 2); floor = cell_at outputs (4 * r + 3) }
