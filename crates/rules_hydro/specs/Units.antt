-- A hydro unit in an hour (paper 02, 2.8): "A cut on a hydro unit has the same causes as on any other."
use Rattle.std.specs.Prelude.{List, ◌≡◌, ℕ, ◌<◌, Some}
use Rattle.rules_opening.specs.Openings.{resource_at, seller_at}
use Rattle.rules_opening.specs.declared.Opening.{Opening}
use Rattle.rules_opening.specs.declared.Source.TheVariants as source
use Rattle.rules_hour.specs.Demand3.{InBid, quote_in, default_of}
use Rattle.rules_pass.specs.Calls.{Request}
use Rattle.rules_pass.specs.FiveMinute.{Demand3, FiveMinute}
use Rattle.rules_hydro.specs.Hydros.{hydro_refusal, hydro_price, hydro_pack}
use Rattle.rules_hydro.specs.declared.Hydro.{Hydro}

-- resource r of an opening takes its default curve from the pack
pub record IsHydro (o : Opening) (r : ℕ) (x : Hydro) : Type 0 where
  pub packed : (resource_at o r).source ≡ source.Pack
  pub pack : (resource_at o r).pack ≡ hydro_pack x

-- the same hour with any other default curves, and any other bids: who owns what and who sells stay
pub record SameOwners (o p : Opening) : Type 0 where
  pub resources : o.resources ≡ p.resources
  pub owners : (r : ℕ) → r < o.resources → (resource_at o r).portfolio ≡ (resource_at p r).portfolio
  pub portfolios : o.portfolios ≡ p.portfolios
  pub sellers : (k : ℕ) → k < o.portfolios → seller_at o k ≡ seller_at p k

-- after a list of interval calls and passes
pub record HydroUnit (o : Opening) (calls : List Request) (r : ℕ) (x : Hydro) : Type 0 where
  -- the pack was accepted: the curve of a refused one has no step, which opening refuses
  pub taken : hydro_refusal x ≡ 0
  -- the owner's sentence, as of any resource; the default price in it is the hydro price, at each quantity of the bid
  pub hourly : Demand3 o calls r
  pub five_minute : FiveMinute o calls r
  pub default : (q : ℕ) → InBid o r q → quote_in (default_of o r) q ≡ Some (hydro_price x)
