-- What an interval, or a pass, writes to the cells of an hour: the mark and the price of each resource that it cuts, the count, and no other cell.
use mathlib.Core.List.{List, ◌++◌, flat_map}
use Rattle.std.specs.Prelude.{ℕ, zero, suc, ◌+◌, ℤ, pos, set, None, Option, Some}
use Rattle.rules_number.specs.Over.{listed}
use Rattle.rules_mitigation.specs.Mitigation.{lowered}
use Rattle.rules_interval.specs.declared.Interval.{Interval}
use Rattle.rules_path.specs.declared.Market.{Market}
use Rattle.rules_opening.specs.Openings.{resource_at, market_of}
use Rattle.rules_opening.specs.Resources.{row_of}
use Rattle.rules_opening.specs.declared.Opening.{Opening}
use Rattle.rules_hour.specs.Cuts.{cut_of}
use Rattle.rules_hour.specs.Hours.{fresh_standing}
use Rattle.rules_pass.specs.Passes.{fresh_quarter}
use Rattle.rules_library.specs.Slices.{cell_at}
use Rattle.rules_state.specs.Layout.{most_resources, quarter_from}
use Rattle.rules_state.specs.States.{floor_of, price_of, cell_of, standing_in, quarter_in, market_in, standing_cells, quarter_cells, market_cells, row_cells}

-- what is written where a number is 0, else the cells as they were
abbrev pub if_accepted : {A : Type 0} → ℕ → A → A → A
if_accepted zero written l = written
if_accepted (suc n) written l = l

-- ---- cuts: marks begin at cell `from`, and prices after them
-- the floor price of resource r
abbrev pub floor_from : List ℤ → ℕ → ℕ → Option ℤ
floor_from l from r = (floor_of (cell_at l (from + r)) (cell_at l (from + most_resources + r))).price

unfoldable pub cut_cell : ℕ → ℕ → Option ℤ → List ℤ → List ℤ
cut_cell from r None l = l
cut_cell from r (Some x) l = set (set l (from + r) (pos 1)) (from + most_resources + r) (price_of (lowered (floor_from l from r) (Some x)))

-- the cut of each of the first n resources, that of resource r by cut r
unfoldable pub cuts_by : (ℕ → Option ℤ) → ℕ → ℕ → List ℤ → List ℤ
cuts_by cut from zero l = l
cuts_by cut from (suc r) l = cut_cell from r (cut r) (cuts_by cut from r l)

-- those of an interval
abbrev pub cuts_to : Market → Interval → ℕ → ℕ → List ℤ → List ℤ
cuts_to m v from n l = cuts_by (cut_of m v) from n l

-- ---- an accepted interval, and an accepted pass: the cuts, and the count
unfoldable pub standing_written : List ℤ → Interval → List ℤ
standing_written l v = set (cuts_to (market_in l) v 1 (market_in l).resources l) 0 (cell_of ((standing_in l).accepted + 1))

unfoldable pub quarter_written : List ℤ → Interval → List ℤ
quarter_written l v = set (cuts_to (market_in l) v (quarter_from + 1) (market_in l).resources l) quarter_from (cell_of ((quarter_in l).passes + 1))

-- ---- an opened hour, as far as it has resources
unfoldable pub opened_cells : Opening → List ℤ
opened_cells o =
    standing_cells fresh_standing ++ quarter_cells fresh_quarter ++ market_cells (market_of o)
    ++ flat_map row_cells (listed (λ r. row_of (resource_at o r)) o.resources)
