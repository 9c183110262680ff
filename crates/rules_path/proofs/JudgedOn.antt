-- A constraint of an interval is judged on the interval's own numbers and on who owns what. Assumes nothing.
use mathlib.Core.Path.{◌≡◌, refl}
use Prim.Native.Nat.{ℕ}
use lib.ListN.{get_or}
use Rattle.rules_number.specs.Order.{nat_of}
use Rattle.rules_interval.specs.Intervals.{shadow_at, dispatch_at, available_at, floor_at, factor_at}
use Rattle.rules_interval.specs.declared.Interval.{Interval}
use Rattle.rules_path.specs.Judgements.{path_in}
use Rattle.rules_path.specs.declared.Market.{Market}

module _ (m : Market) (v : Interval) (c : ℕ) where
  pub judged_shadow : (path_in m v c).shadow ≡ shadow_at v c
  judged_shadow = refl

  pub judged_resources : (path_in m v c).resources ≡ m.resources
  judged_resources = refl

  module _ (r : ℕ) where
    pub judged_factor : (path_in m v c).factor r ≡ factor_at v r c
    judged_factor = refl

    pub judged_dispatch : (path_in m v c).dispatch r ≡ nat_of (dispatch_at v r)
    judged_dispatch = refl

    pub judged_available : (path_in m v c).available r ≡ nat_of (available_at v r)
    judged_available = refl

    pub judged_floor : (path_in m v c).floor r ≡ nat_of (floor_at v r)
    judged_floor = refl

    pub judged_portfolio : (path_in m v c).portfolio r ≡ get_or m.portfolio r 0
    judged_portfolio = refl

  pub judged_seller : (p : ℕ) → (path_in m v c).seller p ≡ get_or m.seller p 0
  judged_seller p = refl
