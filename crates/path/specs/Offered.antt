-- What net sellers can withhold on the constraints of an interval, in numbers: seventeen of each constraint.
use Rattle.std.specs.Prelude.{cond, ℕ, ◌+◌, ◌-◌, ◌*◌, replicate}
use mathlib.Core.List.{List, ◌∷◌, flat_map}
use Rattle.rules_number.specs.Over.{listed}
use Rattle.rules_interval.specs.declared.Interval.{Interval}
use Rattle.rules_path.specs.Judgements.{path_in}
use Rattle.rules_path.specs.Paths.{Path, binds, demand, supply, offers}
use Rattle.rules_path.specs.declared.Market.{Market}

abbrev pub offer_width : ℕ
offer_width = 17

abbrev pub offer_room : ℕ
offer_room = 32 * offer_width

-- the least amount that has to be withheld to leave a constraint short, and what each of 16 portfolios offers; zeros where it doesn't bind
unfoldable pub offered_row : Path → List ℕ
offered_row d = cond (binds d) ((supply d + 1 - demand d) ∷ offers d) (replicate offer_width 0)

unfoldable pub offered_cells : Market → Interval → List ℕ
offered_cells m v = flat_map offered_row (listed (path_in m v) v.constraints)
