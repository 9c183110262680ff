-- Where an hour counts its intervals and passes in its cells, and what an accepted one leaves there.
use Rattle.std.specs.Prelude.{Bool, true, false, List, ℕ, ◌+◌, ℤ, set}
use Rattle.rules_interval.specs.declared.Interval.{Interval}
use Rattle.rules_state.specs.Layout.{quarter_from}
use Rattle.rules_state.specs.States.{cell_of, market_in}
use Rattle.rules_state.specs.Takes.{cuts_to}

-- passes in the quarter hour, intervals in the standing
abbrev pub count_at : Bool → ℕ
count_at true = quarter_from
count_at false = 0

-- the cuts, which begin after the count, and then the count
abbrev pub counted : Bool → ℕ → Interval → List ℤ → List ℤ
counted pass count v l = set (cuts_to (market_in l) v (count_at pass + 1) (market_in l).resources l) (count_at pass) (cell_of count)
