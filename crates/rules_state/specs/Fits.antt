-- The hours that cells can hold: arrays of their room, and whole numbers of 63 bits. An opened hour is one.
use Rattle.std.specs.Prelude.{List, [], ◌∷◌, ◌≡◌, ℕ, ◌≤◌, length}
use Rattle.rules_curve.specs.Curves.{most_steps}
use Rattle.rules_curve.specs.declared.Curve.{Curve}
use Rattle.rules_path.specs.declared.Market.{Market}
use Rattle.rules_opening.specs.declared.Row.{Row}
use Rattle.rules_hour.specs.declared.Standing.{Standing}
use Rattle.rules_pass.specs.Passes.{RealTimeHour}
use Rattle.rules_pass.specs.declared.Quarter.{Quarter}
use Rattle.rules_state.specs.Layout.{most_resources, most_portfolios}

-- each entry of a list
abbrev pub Each : {A : Type 0} → (A → Type 0) → List A → Type 0
Each P [] = Unit {0}
Each P (x ∷ l) = P x × Each P l

-- a whole number of 63 bits
abbrev pub Small : ℕ → Type 0
Small n = n ≤ 9223372036854775807

pub record CurveFits (c : Curve) : Type 0 where
  pub start : Small c.start
  pub count : Small c.count
  pub room : length c.steps ≡ most_steps
  pub ends : Each (λ s. Small s.end) c.steps

pub record RowFits (x : Row) : Type 0 where
  pub bid : CurveFits x.bid
  pub default : CurveFits x.default

pub record MarketFits (m : Market) : Type 0 where
  pub resources : Small m.resources
  pub room : length m.portfolio ≡ most_resources
  pub portfolios : Each Small m.portfolio
  pub seller_room : length m.seller ≡ most_portfolios
  pub sellers : Each Small m.seller

pub record StandingFits (s : Standing) : Type 0 where
  pub accepted : Small s.accepted
  pub room : length s.floors ≡ most_resources

pub record QuarterFits (k : Quarter) : Type 0 where
  pub passes : Small k.passes
  pub room : length k.floors ≡ most_resources

pub record Fits (h : RealTimeHour) : Type 0 where
  pub market : MarketFits h.hour.market
  pub room : length h.hour.rows ≡ most_resources
  pub rows : Each RowFits h.hour.rows
  pub standing : StandingFits h.hour.standing
  pub quarter : QuarterFits h.quarter
