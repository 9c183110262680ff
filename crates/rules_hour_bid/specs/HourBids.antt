-- One bid for the hour (paper 02, 2.2; 34.1.5.3). Curve i of the hour is min(bid, max(default, lowest floor price so far)), so that the lowest of the four curves at each
-- quantity is made of the lowest floor price of the four intervals. It is named apart from the present curve's floor price: a rule in which the two differ
-- changes this definition and no promise.
use Rattle.std.specs.Prelude.{ℕ, zero, suc, leb}
use Rattle.rules_curve.specs.Refusals.{unless}
use Rattle.rules_mitigation.specs.Mitigation.{blank_mitigated}
use Rattle.rules_mitigation.specs.declared.Mitigated.{Mitigated}
use Rattle.rules_hour.specs.Hours.{row_at, floor_in, row_curve}
use Rattle.rules_hour.specs.declared.Floor.{Floor}
use Rattle.rules_pass.specs.Passes.{RealTimeHour}

-- "20, fewer than four intervals accepted, the only check"
unfoldable pub hour_bid_refusal : RealTimeHour → ℕ
hour_bid_refusal h = unless (leb 4 h.hour.standing.accepted) 20

-- the lowest floor price of the accepted intervals that cut resource r
abbrev pub lowest_floor_in : RealTimeHour → ℕ → Floor
lowest_floor_in h r = floor_in h.hour r

-- "It takes, at each quantity, the lowest of the four intervals' curves (34.1.5.3), neighbours with one price merged."
unfoldable pub hour_bid_in : RealTimeHour → ℕ → Mitigated
hour_bid_in h r = row_curve (row_at h.hour r) (lowest_floor_in h r)

-- a refusal returns its number alone
abbrev pub mitigated_unless : ℕ → Mitigated → Mitigated
mitigated_unless zero c = c
mitigated_unless (suc n) c = blank_mitigated

unfoldable pub hour_bid_of : RealTimeHour → ℕ → Mitigated
hour_bid_of h r = mitigated_unless (hour_bid_refusal h) (hour_bid_in h r)
