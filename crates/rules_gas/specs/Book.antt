-- The book of gas prices (paper 02, 2.7; 39.7.1.1.1.3): two lists, each with day and price of its entries in turn.
use Rattle.std.specs.Prelude.{Bool, true, false, ◌&&◌, cond, List, [], ◌∷◌, ℕ, suc, ◌%◌, leb, ltb, eqb, length, take, get_or, None, Option, Some}
use Rattle.rules_curve.specs.Refusals.{unless}
use Rattle.rules_gas.specs.declared.GasMarket.{GasMarket}
use Rattle.rules_gas.specs.declared.GasMarket.TheVariants.{DayAhead, RealTime}

-- "with days strictly rising": from day d on, and in a whole list
unfoldable pub rise_from : ℕ → List ℕ → Bool
rise_from d [] = true
rise_from d (e ∷ []) = true
rise_from d (e ∷ p ∷ l) =
    let later = rise_from e l in
    cond (leb e d) false later

unfoldable pub days_rise : List ℕ → Bool
days_rise [] = true
days_rise (d ∷ []) = true
days_rise (d ∷ p ∷ l) = rise_from d l

-- how many numbers belong to entries up to a day, before the first later one
unfoldable pub length_of_run : ℕ → List ℕ → ℕ
length_of_run day [] = 0
length_of_run day (d ∷ []) = 0
length_of_run day (d ∷ p ∷ l) =
    let more = suc (suc (length_of_run day l)) in
    cond (ltb day d) 0 more

-- the list doesn't end inside a pair, and its days rise
abbrev pub is_book : List ℕ → Bool
is_book l = eqb (length l % 2) 0 && days_rise l

-- "the run of entries up to that day"; an empty one means 21
unfoldable pub run_in : ℕ → List ℕ → List ℕ
run_in day l = cond (is_book l) (take (length_of_run day l) l) []

-- "out of the day-ahead list or the real-time list"
abbrev pub chosen : GasMarket → List ℕ → List ℕ → List ℕ
chosen DayAhead ahead real = ahead
chosen RealTime ahead real = real

abbrev pub gas_run : GasMarket → ℕ → List ℕ → List ℕ → List ℕ
gas_run market day ahead real = run_in day (chosen market ahead real)

-- "an empty part handed back means 21"
abbrev pub run_refusal : List ℕ → ℕ
run_refusal run = unless (leb 1 (length run)) 21

abbrev pub book_refusal : GasMarket → ℕ → List ℕ → List ℕ → ℕ
book_refusal market day ahead real = run_refusal (gas_run market day ahead real)

-- the paper's number of what a book answers, 0 where there is a price in use, and that price
abbrev pub gas_number : Option ℕ → ℕ
gas_number (Some price) = 0
gas_number None = 21

abbrev pub gas_value : Option ℕ → ℕ
gas_value (Some price) = price
gas_value None = 0

-- "The last entry of the run is the price in use": a run ends with that entry's price
unfoldable pub last_price : List ℕ → Option ℕ
last_price [] = None
last_price (x ∷ l) = Some (get_or (x ∷ l) (length l) 0)

abbrev pub price_in_use : GasMarket → ℕ → List ℕ → List ℕ → Option ℕ
price_in_use market day ahead real = last_price (gas_run market day ahead real)
