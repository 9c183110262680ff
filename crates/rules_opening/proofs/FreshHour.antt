-- What an opened hour is made of: each resource has its own bid, its own default curve and its own portfolio, each portfolio its own mark. Assumes nothing.
use mathlib.Core.Path.{◌≡◌, refl, ap}
use Prim.Native.Nat.{ℕ, zero, suc, ◌≤◌, ◌<◌}
use native.Mathlib.Omega.{arith}
use native.Mathlib.Nat.{le_trans, le_of_eq}
use lib.ListN.{get_or, replicate}
use Rattle.rules_number.specs.Order.{nat_of}
use Rattle.rules_number.specs.Over.{listed}
use Rattle.rules_number.proofs.OverLaws.{listed_length}
use Rattle.rules_number.proofs.CellLaws.{cell_listed, cell_past}
use Rattle.rules_curve.specs.Curves.{curve_of}
use Rattle.rules_cost.specs.Costs.{cost_curve}
use Rattle.rules_path.specs.declared.Market.{Market}
use Rattle.rules_opening.specs.Resources.{default_by, row_of, blank_row, row_unless}
use Rattle.rules_opening.specs.Openings.{resource_at, seller_at, market_of, rows_of, market_unless, rows_unless}
use Rattle.rules_opening.specs.declared.Source.{Source}
use Rattle.rules_opening.specs.declared.Source.TheVariants as source
use Rattle.rules_opening.specs.declared.Row.{Row}
use Rattle.rules_opening.specs.declared.Resource.{Resource}
use Rattle.rules_opening.specs.declared.Opening.{Opening}

-- "the engine takes a default curve from its own cost tables or from a pack"
pub from_costs_lem : (x : Resource) → x.source ≡ source.Costs → (row_of x).default ≡ cost_curve x.costs
unfolding row_of
from_costs_lem x e = ap (λ (s : Source). default_by s x) e

pub from_pack : (x : Resource) → x.source ≡ source.Pack → (row_of x).default ≡ curve_of x.pack
unfolding row_of
from_pack x e = ap (λ (s : Source). default_by s x) e

pub from_bid : (x : Resource) → (row_of x).bid ≡ curve_of x.bid
unfolding row_of
from_bid x = refl

module _ (o : Opening) where
  -- a row for each resource, and none past them
  pub own_row : (r : ℕ) → r < o.resources → get_or (rows_of o) r blank_row ≡ row_of (resource_at o r)
  own_row r l = cell_listed 64 blank_row blank_row (λ i. row_of (resource_at o i)) o.resources r l

  pub no_row : (r : ℕ) → o.resources ≤ r → get_or (rows_of o) r blank_row ≡ blank_row
  no_row r l = cell_past 64 blank_row (listed (λ i. row_of (resource_at o i)) o.resources) r (le_trans (le_of_eq (listed_length (λ i. row_of (resource_at o i)) o.resources)) l)

  pub own_portfolio : (r : ℕ) → r < o.resources → get_or (market_of o).portfolio r 0 ≡ nat_of (resource_at o r).portfolio
  unfolding market_of
  own_portfolio r l = cell_listed 64 0 0 (λ i. nat_of (resource_at o i).portfolio) o.resources r l

  pub own_mark : (p : ℕ) → p < o.portfolios → get_or (market_of o).seller p 0 ≡ nat_of (seller_at o p)
  unfolding market_of
  own_mark p l = cell_listed 16 0 0 (λ i. nat_of (seller_at o i)) o.portfolios p l

  -- portfolios that are not declared are net buyers
  pub no_mark : (p : ℕ) → o.portfolios ≤ p → get_or (market_of o).seller p 0 ≡ 0
  unfolding market_of
  no_mark p l = cell_past 16 0 (listed (λ i. nat_of (seller_at o i)) o.portfolios) p (le_trans (le_of_eq (listed_length (λ i. nat_of (seller_at o i)) o.portfolios)) l)

  pub same_resources : (market_of o).resources ≡ o.resources
  unfolding market_of
  same_resources = refl

-- "A refusal returns its number alone": n is a refusal's number
module _ (n : ℕ) (some : 0 < n) where
  pub refused_row : (x : Row) → row_unless n x ≡ blank_row
  refused_row x = go n some
    where
      go : (k : ℕ) → 0 < k → row_unless k x ≡ blank_row
      go zero h = absurd (omega arith)
      go (suc k) h = refl

  pub refused_rows : (o : Opening) → rows_unless n (rows_of o) ≡ replicate 64 blank_row
  refused_rows o = go n some
    where
      go : (k : ℕ) → 0 < k → rows_unless k (rows_of o) ≡ replicate 64 blank_row
      go zero h = absurd (omega arith)
      go (suc k) h = refl

  pub refused_market : (m : Market) → market_unless n m ≡ record { resources = 0; portfolio = replicate 64 0; seller = replicate 16 0 }
  refused_market m = go n some
    where
      go : (k : ℕ) → 0 < k → market_unless k m ≡ record { resources = 0; portfolio = replicate 64 0; seller = replicate 16 0 }
      go zero h = absurd (omega arith)
      go (suc k) h = refl
