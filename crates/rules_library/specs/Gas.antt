-- A book of gas prices in slices (paper 02, 2.7).
use Rattle.std.specs.Prelude.{ℕ, zero, suc, List, [], ℤ, length}
use Rattle.rules_cost.specs.declared.Costs.{Costs}
use Rattle.rules_gas.specs.Book.{run_in}
use Rattle.rules_gas.specs.Booked.{list_refusal, list_curve}
use Rattle.rules_library.specs.Slices.{put_answer, edges_with, prices_with}

-- the list of a market's number: 0 is the day-ahead market and 1 real time, and any other has none
abbrev pub list_by : ℕ → List ℕ → List ℕ → List ℕ
list_by zero ahead real = ahead
list_by (suc zero) ahead real = real
list_by (suc (suc n)) ahead real = []

-- how many numbers of that list, from its first on, are its run; 0 means 21
abbrev pub run_count : ℕ → ℕ → List ℕ → List ℕ → ℕ
run_count market day ahead real = length (run_in day (list_by market ahead real))

-- the default curve at the book's price: the answer and the two slices afterwards
abbrev pub gas_answer : List ℕ → List ℤ → ℕ → List ℕ → Costs → ℤ
gas_answer edges prices day l c = put_answer edges prices (list_refusal day l c)

abbrev pub gas_edges : List ℕ → List ℤ → ℕ → List ℕ → Costs → List ℕ
gas_edges edges prices day l c = edges_with edges prices (list_refusal day l c) (list_curve day l c)

abbrev pub gas_prices : List ℕ → List ℤ → ℕ → List ℕ → Costs → List ℤ
gas_prices edges prices day l c = prices_with edges prices (list_refusal day l c) (list_curve day l c)
