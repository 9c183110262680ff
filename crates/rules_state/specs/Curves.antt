-- The curves of a state, each into two lent slices: the number of steps, the start and the ends; and the prices.
use Rattle.std.specs.Prelude.{Bool, ◌&&◌, List, ◌∷◌, map, ℕ, ◌+◌, ℤ, get_or}
use Rattle.std.proofs.lemmas.List.Edits.{sets}
use Rattle.rules_curve.specs.declared.Curve.{Curve}
use Rattle.rules_mitigation.specs.Mitigation.{most_mitigated_steps}
use Rattle.rules_mitigation.specs.declared.Mitigated.{Mitigated}
use Rattle.rules_opening.specs.Resources.{blank_row}
use Rattle.rules_hour.specs.Hours.{curve_in}
use Rattle.rules_pass.specs.Passes.{five_minute_in}
use Rattle.rules_hour_bid.specs.HourBids.{hour_bid_refusal, hour_bid_of}
use Rattle.rules_library.specs.Slices.{answer_of, edges_of, prices_of, edge_count, price_count, if_written}
use Rattle.rules_state.specs.Layout.{state_room}
use Rattle.rules_state.specs.States.{hour_in, rows_in}
use Rattle.rules_state.specs.Calls.{holds}

-- ---- a mitigated curve as two lists, and how many numbers they are
abbrev pub mitigated_edges : Mitigated → List ℕ
mitigated_edges c = c.count ∷ c.start ∷ map (λ s. s.end) c.steps

abbrev pub mitigated_prices : Mitigated → List ℤ
mitigated_prices c = map (λ s. s.price) c.steps

abbrev pub mitigated_edge_count : ℕ
mitigated_edge_count = 2 + most_mitigated_steps

-- the state is an hour, and the two slices have room
abbrev pub mitigated_room : List ℤ → List ℕ → List ℤ → Bool
mitigated_room state edges prices = holds state_room state && (holds mitigated_edge_count edges && holds most_mitigated_steps prices)

-- the slices afterwards, of a call with this answer
abbrev pub edges_by : ℤ → List ℕ → Mitigated → List ℕ
edges_by answer edges c = if_written answer (sets edges 0 (mitigated_edges c)) edges

abbrev pub prices_by : ℤ → List ℤ → Mitigated → List ℤ
prices_by answer prices c = if_written answer (sets prices 0 (mitigated_prices c)) prices

-- ---- the present curve of resource r, and its five-minute curve: a blank one where there is no such resource
unfoldable pub curve_answer : List ℤ → List ℕ → List ℤ → ℤ
curve_answer state edges prices = answer_of (mitigated_room state edges prices) 0

unfoldable pub curve_edges : List ℤ → ℕ → List ℕ → List ℤ → List ℕ
curve_edges state r edges prices = edges_by (curve_answer state edges prices) edges (curve_in (hour_in state).hour r)

unfoldable pub curve_prices : List ℤ → ℕ → List ℕ → List ℤ → List ℤ
curve_prices state r edges prices = prices_by (curve_answer state edges prices) prices (curve_in (hour_in state).hour r)

unfoldable pub five_minute_edges : List ℤ → ℕ → List ℕ → List ℤ → List ℕ
five_minute_edges state r edges prices = edges_by (curve_answer state edges prices) edges (five_minute_in (hour_in state) r)

unfoldable pub five_minute_prices : List ℤ → ℕ → List ℕ → List ℤ → List ℤ
five_minute_prices state r edges prices = prices_by (curve_answer state edges prices) prices (five_minute_in (hour_in state) r)

-- ---- the bid of resource r for the hour, or 20
unfoldable pub hour_bid_answer : List ℤ → List ℕ → List ℤ → ℤ
hour_bid_answer state edges prices = answer_of (mitigated_room state edges prices) (hour_bid_refusal (hour_in state))

unfoldable pub hour_bid_edges : List ℤ → ℕ → List ℕ → List ℤ → List ℕ
hour_bid_edges state r edges prices = edges_by (hour_bid_answer state edges prices) edges (hour_bid_of (hour_in state) r)

unfoldable pub hour_bid_prices : List ℤ → ℕ → List ℕ → List ℤ → List ℤ
hour_bid_prices state r edges prices = prices_by (hour_bid_answer state edges prices) prices (hour_bid_of (hour_in state) r)

-- ---- the default curve of resource r
abbrev pub default_in : List ℤ → ℕ → Curve
default_in state r = (get_or (rows_in state) r blank_row).default

unfoldable pub default_of_answer : List ℤ → List ℕ → List ℤ → ℤ
default_of_answer state edges prices = answer_of (holds state_room state && (holds edge_count edges && holds price_count prices)) 0

unfoldable pub default_of_edges : List ℤ → ℕ → List ℕ → List ℤ → List ℕ
default_of_edges state r edges prices = if_written (default_of_answer state edges prices) (sets edges 0 (edges_of (default_in state r))) edges

unfoldable pub default_of_prices : List ℤ → ℕ → List ℕ → List ℤ → List ℤ
default_of_prices state r edges prices = if_written (default_of_answer state edges prices) (sets prices 0 (prices_of (default_in state r))) prices
