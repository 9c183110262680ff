-- Two paths that agree on whether the constraint binds, and on the resources and portfolios that there are, have one verdict.
use mathlib.Core.Bool.{Bool, ◌&&◌, cond}
use mathlib.Core.List.{List}
use mathlib.Core.Path.{◌≡◌, ap, ap₂, ◌∙◌}
use Prim.Native.Nat.{ℕ, ◌-◌, ◌*◌, ◌<◌}
use lib.Dec.{ltb, eqb}
use Rattle.rules_number.specs.Over.{sum_to, listed}
use Rattle.rules_number.proofs.OverLaws.{sum_same, listed_same}
use Rattle.rules_path.specs.Paths.{Path, binds, effect, demand, supply, share, withholdable, offer, offers, top, total, sellers, named, left, is_non_competitive, Withheld}
use Rattle.rules_path.specs.Verdicts.{verdict_of}

pub record Same (d e : Path) : Type 0 where
  pub binding : binds d ≡ binds e
  pub resources : d.resources ≡ e.resources
  pub effective : (r : ℕ) → r < d.resources → effect d r ≡ effect e r
  pub dispatch : (r : ℕ) → r < d.resources → d.dispatch r ≡ e.dispatch r
  pub available : (r : ℕ) → r < d.resources → d.available r ≡ e.available r
  pub floor : (r : ℕ) → r < d.resources → d.floor r ≡ e.floor r
  pub portfolio : (r : ℕ) → r < d.resources → d.portfolio r ≡ e.portfolio r
  pub portfolios : d.portfolios ≡ e.portfolios
  pub seller : (p : ℕ) → p < d.portfolios → d.seller p ≡ e.seller p

module _ (d e : Path) (s : Same d e) where
  pub demand_same : demand d ≡ demand e
  unfolding demand
  demand_same =
      sum_same _ _ d.resources (λ r h. ap₂ (λ (x y : ℕ). x * y) (s.effective r h) (s.dispatch r h))
      ∙ ap (sum_to (λ r. effect e r * e.dispatch r)) s.resources

  pub supply_same : supply d ≡ supply e
  unfolding supply
  supply_same =
      sum_same _ _ d.resources (λ r h. ap₂ (λ (x y : ℕ). x * y) (s.effective r h) (s.available r h))
      ∙ ap (sum_to (λ r. effect e r * e.available r)) s.resources

  share_same : (p r : ℕ) → r < d.resources → share d p r ≡ share e p r
  unfolding share
  share_same p r h =
      ap₂ (λ (x y : ℕ). cond (eqb x p) y 0) (s.portfolio r h)
      (ap₂ (λ (x y : ℕ). x * y) (s.effective r h) (ap₂ (λ (x y : ℕ). x - y) (s.available r h) (s.floor r h)))

  pub withholdable_same : (p : ℕ) → withholdable d p ≡ withholdable e p
  unfolding withholdable
  withholdable_same p = sum_same (share d p) (share e p) d.resources (share_same p) ∙ ap (sum_to (share e p)) s.resources

  offer_same : (p : ℕ) → p < d.portfolios → offer d p ≡ offer e p
  unfolding offer
  offer_same p h = ap₂ (λ (x y : ℕ). cond (eqb x 1) y 0) (s.seller p h) (withholdable_same p)

  pub offers_same : offers d ≡ offers e
  unfolding offers
  offers_same = listed_same (offer d) (offer e) d.portfolios offer_same ∙ ap (listed (offer e)) s.portfolios

  pub sellers_same : sellers d ≡ sellers e
  unfolding sellers
  sellers_same = ap₂ (λ (w : List ℕ) (n : ℕ). top 3 w n) offers_same s.portfolios

  pub left_same : left d ≡ left e
  unfolding left
  left_same = ap₂ (λ (x : ℕ) (l : List Withheld). x - total l) supply_same sellers_same

  pub non_competitive_same : is_non_competitive d ≡ is_non_competitive e
  unfolding is_non_competitive
  non_competitive_same = ap₂ (λ (x y : Bool). x && y) s.binding (ap₂ ltb left_same demand_same)

  pub verdict_same : verdict_of d ≡ verdict_of e
  unfolding verdict_of named
  verdict_same = rw (s.binding, non_competitive_same, demand_same, left_same, sellers_same)
