-- Costs with a book's gas price (paper 02, 2.7): "21 .. found before any cost check".
use Rattle.std.specs.Prelude.{List, ℕ, pos, Option}
use Rattle.rules_curve.specs.Curves.{unless_refused}
use Rattle.rules_curve.specs.Refusals.{◌then◌}
use Rattle.rules_curve.specs.declared.Curve.{Curve}
use Rattle.rules_cost.specs.Costs.{cost_refusal, cost_curve}
use Rattle.rules_cost.specs.declared.Costs.{Costs}
use Rattle.rules_gas.specs.Book.{gas_number, gas_value, run_in, last_price, price_in_use}
use Rattle.rules_gas.specs.declared.GasMarket.{GasMarket}

-- the costs with this gas price; what they had in its place counts for nothing
unfoldable pub with_gas : Costs → ℕ → Costs
with_gas c price = record {
  count = c.count;
  points = c.points;
  gas = pos price;
  rate = c.rate;
  allowance = c.allowance;
  om = c.om;
  msc = c.msc;
  soc = c.soc;
  fee = c.fee;
}

-- 21 where there is no price in use, then 4 to 8
abbrev pub priced_refusal : Option ℕ → Costs → ℕ
priced_refusal p c = gas_number p then cost_refusal (with_gas c (gas_value p))

abbrev pub priced_curve : Option ℕ → Costs → Curve
priced_curve p c = unless_refused (priced_refusal p c) (cost_curve (with_gas c (gas_value p)))

-- the default curve with the book's price, of the list that is chosen
abbrev pub list_refusal : ℕ → List ℕ → Costs → ℕ
list_refusal day l c = priced_refusal (last_price (run_in day l)) c

abbrev pub list_curve : ℕ → List ℕ → Costs → Curve
list_curve day l c = priced_curve (last_price (run_in day l)) c

-- and of a market
abbrev pub booked_refusal : GasMarket → ℕ → List ℕ → List ℕ → Costs → ℕ
booked_refusal market day ahead real c = priced_refusal (price_in_use market day ahead real) c

abbrev pub booked_curve : GasMarket → ℕ → List ℕ → List ℕ → Costs → Curve
booked_curve market day ahead real c = priced_curve (price_in_use market day ahead real) c
