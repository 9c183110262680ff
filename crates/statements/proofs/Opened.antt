-- What an opened hour holds: each resource has its own bid, its own default curve and its own portfolio, each portfolio its own mark, and nothing is cut yet. Assumes nothing.
use Rattle.std.specs.Prelude.{None}
use mathlib.Core.Path.{◌≡◌, refl, ap, ◌∙◌}
use Prim.Native.Nat.{ℕ, ◌≤◌, ◌<◌}
use lib.IntN.{pos}
use lib.ListN.{get_or, replicate}
use Rattle.rules_number.specs.Over.{padded}
use Rattle.rules_curve.specs.Curves.{blank_curve, curve_of}
use Rattle.rules_cost.specs.Costs.{cost_curve}
use Rattle.rules_opening.specs.Openings.{resource_at, opening_refusal}
use Rattle.rules_opening.specs.declared.Row.{Row}
use Rattle.rules_opening.specs.declared.Opening.{Opening}
use Rattle.rules_opening.specs.declared.Source.TheVariants as source
use Rattle.rules_opening.proofs.FreshHour.{from_costs_lem, from_pack, from_bid, own_row, no_row, own_portfolio, own_mark, no_mark, same_resources}
use Rattle.rules_hour.specs.Hours.{Hour, fresh_standing}
use Rattle.rules_hour.specs.Opened.{hour_unless, fresh_hour, opened_hour}
use Rattle.rules_hour.proofs.AcceptedOpening.{none_cut, refused_opening}
use Rattle.statements.proofs.Plain.{Whole}
use Rattle.statements.proofs.Checks.{Nothing}
use Rattle.statements.proofs.Demand3.{resource}

-- resource r of an hour
abbrev row : Hour → ℕ → Row
row h r = get_or h.rows r (record { bid = Nothing; default = Nothing })

-- an hour of no resources, on which nothing is accepted
abbrev NoHour : Hour
NoHour = record {
  market = record { resources = 0; portfolio = replicate 64 0; seller = replicate 16 0 };
  rows = replicate 64 (record { bid = Nothing; default = Nothing });
  standing = record { accepted = 0; floors = replicate 64 (record { price = None }) };
}

pub record OpenedSays (o : Opening) (h : Hour) : Type 0 where
  pub resources : h.market.resources ≡ o.resources
  pub portfolio : (r : ℕ) → r < o.resources → get_or h.market.portfolio r 0 ≡ Whole (resource o r).portfolio
  pub seller : (p : ℕ) → p < o.portfolios → get_or h.market.seller p 0 ≡ Whole (get_or o.sellers p (pos 0))
  -- portfolios that are not declared are net buyers
  pub no_seller : (p : ℕ) → o.portfolios ≤ p → get_or h.market.seller p 0 ≡ 0
  pub bid : (r : ℕ) → r < o.resources → (row h r).bid ≡ curve_of (resource o r).bid
  -- "the engine takes a default curve from its own cost tables or from a pack"
  pub from_costs_lem : (r : ℕ) → r < o.resources → (resource o r).source ≡ source.Costs → (row h r).default ≡ cost_curve (resource o r).costs
  pub from_pack : (r : ℕ) → r < o.resources → (resource o r).source ≡ source.Pack → (row h r).default ≡ curve_of (resource o r).pack
  pub no_row : (r : ℕ) → o.resources ≤ r → ((row h r).bid ≡ Nothing) × ((row h r).default ≡ Nothing)
  pub none_accepted : h.standing.accepted ≡ 0
  pub none_cut : (r : ℕ) → (get_or h.standing.floors r (record { price = None })).price ≡ None

-- ---- from the theorems
module _ (o : Opening) where
  is_fresh : opening_refusal o ≡ 0 → opened_hour o ≡ fresh_hour o
  unfolding opened_hour
  is_fresh e = ap (λ (n : ℕ). hour_unless n (fresh_hour o)) e

  fresh_says : OpenedSays o (fresh_hour o)
  unfolding fresh_hour fresh_standing blank_curve padded
  fresh_says = record {
    resources = same_resources o;
    portfolio = own_portfolio o;
    seller = own_mark o;
    no_seller = no_mark o;
    bid = λ r l. ap (λ (x : Row). x.bid) (own_row o r l) ∙ from_bid (resource_at o r);
    from_costs_lem = λ r l e. ap (λ (x : Row). x.default) (own_row o r l) ∙ from_costs_lem (resource_at o r) e;
    from_pack = λ r l e. ap (λ (x : Row). x.default) (own_row o r l) ∙ from_pack (resource_at o r) e;
    no_row = λ r l. (ap (λ (x : Row). x.bid) (no_row o r l), ap (λ (x : Row). x.default) (no_row o r l));
    none_accepted = refl;
    none_cut = λ r. ap (λ x. x.price) (none_cut 64 r);
  }

  pub opened_says : opening_refusal o ≡ 0 → OpenedSays o (opened_hour o)
  opened_says e = rw (is_fresh e) fresh_says

  -- "A refusal returns its number alone"
  pub refused_says : 0 < opening_refusal o → opened_hour o ≡ NoHour
  unfolding blank_curve padded
  refused_says some = refused_opening o some
