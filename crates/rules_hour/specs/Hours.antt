-- The hour and its intervals (paper 01, Interval and hour; 31.2.3, 34.1.5; Refused, by place: 12 to 16).
use Rattle.std.specs.Prelude.{List, [], ◌∷◌, ℕ, zero, suc, ◌+◌, ltb, get_or, replicate, None, Option, ℤ}
use Rattle.rules_number.specs.Over.{up_to}
use Rattle.rules_curve.specs.Refusals.{unless, ◌then◌}
use Rattle.rules_curve.specs.declared.Curve.{Curve}
use Rattle.rules_mitigation.specs.Mitigation.{lowered, mitigated}
use Rattle.rules_mitigation.specs.declared.Mitigated.{Mitigated}
use Rattle.rules_interval.specs.Intervals.{interval_refusal}
use Rattle.rules_interval.specs.declared.Interval.{Interval}
use Rattle.rules_path.specs.Judgements.{verdicts_of, verdicts_unless}
use Rattle.rules_path.specs.declared.Market.{Market}
use Rattle.rules_path.specs.declared.Verdict.{Verdict}
use Rattle.rules_opening.specs.Resources.{blank_row}
use Rattle.rules_opening.specs.Openings.{blank_market}
use Rattle.rules_hour.specs.Cuts.{cut_of}
use Rattle.rules_opening.specs.declared.Row.{Row}
use Rattle.rules_hour.specs.declared.Floor.{Floor}
use Rattle.rules_hour.specs.declared.Standing.{Standing}

-- ---- the standing: what intervals change of an hour
-- no floor price yet; a read past the end of an array gives it too
abbrev pub uncut : Floor
uncut = record { price = None }

unfoldable pub fresh_standing : Standing
fresh_standing = record { accepted = 0; floors = replicate 64 uncut }

-- ---- the hour: who owns what, its resources, and its standing
pub record Hour : Type 0 where
  pub market : Market
  pub rows : List Row
  pub standing : Standing

unfoldable pub blank_hour : Hour
blank_hour = record { market = blank_market; rows = replicate 64 blank_row; standing = fresh_standing }

-- what a read past the end of an array gives
abbrev pub no_curve : Curve
no_curve = record { start = 0; count = 0; steps = [] }

abbrev pub no_row : Row
no_row = record { bid = no_curve; default = no_curve }

-- resource r of the hour, and the lowest floor price of the accepted intervals that cut it
abbrev pub row_at : Hour → ℕ → Row
row_at h r = get_or h.rows r no_row

abbrev pub floor_in : Hour → ℕ → Floor
floor_in h r = get_or h.standing.floors r uncut

-- the curve of a row: each quantity at the smaller of its submitted price and its lowest cap
abbrev pub row_curve : Row → Floor → Mitigated
row_curve x k = mitigated k.price x.bid x.default

unfoldable pub curve_in : Hour → ℕ → Mitigated
curve_in h r = row_curve (row_at h r) (floor_in h r)

-- ---- an interval, of an hour with this market and this standing
-- a floor price after a cut
abbrev pub cut_floor : Option ℤ → Floor → Floor
cut_floor k x = record { price = lowered x.price k }

-- the floor price of each resource after its cut in an interval
abbrev pub cut_floors : Market → Interval → List Floor → List Floor
cut_floors m v floors = up_to (λ r x. cut_floor (cut_of m v r) x) 0 m.resources floors

-- a refusal leaves them as they were
abbrev pub floors_unless : ℕ → List Floor → List Floor → List Floor
floors_unless zero next floors = next
floors_unless (suc n) next floors = floors

unfoldable pub floors_after : Market → Interval → List Floor → List Floor
floors_after m v floors = floors_unless (interval_refusal m.resources v) (cut_floors m v floors) floors

-- the standing after an interval that the hour accepts
unfoldable pub next_standing : Market → Standing → Interval → Standing
next_standing m s v = record { accepted = s.accepted + 1; floors = cut_floors m v s.floors }

-- 12: four are accepted already; then 13 to 16
unfoldable pub call_refusal : Market → Standing → Interval → ℕ
call_refusal m s v = unless (ltb s.accepted 4) 12 then interval_refusal m.resources v

-- a refusal leaves the standing as it was
abbrev pub standing_unless : ℕ → Standing → Standing → Standing
standing_unless zero next s = next
standing_unless (suc n) next s = s

unfoldable pub standing_after : Market → Standing → Interval → Standing
standing_after m s v = standing_unless (call_refusal m s v) (next_standing m s v) s

-- the verdicts that an interval carries: none in a refusal
unfoldable pub call_verdicts : Market → Standing → Interval → List Verdict
call_verdicts m s v = verdicts_unless (call_refusal m s v) (verdicts_of m v)

-- ---- the same, of the hour
-- an hour with another standing
abbrev pub standing_at : Hour → Standing → Hour
standing_at h s = record { market = h.market; rows = h.rows; standing = s }

abbrev pub hour_refusal : Hour → Interval → ℕ
hour_refusal h v = call_refusal h.market h.standing v

unfoldable pub hour_after : Hour → Interval → Hour
hour_after h v = standing_at h (standing_after h.market h.standing v)

abbrev pub hour_verdicts : Hour → Interval → List Verdict
hour_verdicts h v = call_verdicts h.market h.standing v

-- the hour as a list of calls leaves it: "Each call gets the hour as the call before it left it"
unfoldable pub hour_after_all : Hour → List Interval → Hour
hour_after_all h [] = h
hour_after_all h (v ∷ calls) = hour_after_all (hour_after h v) calls
