-- The freshly opened hour.
use Rattle.std.specs.Prelude.{ℕ, zero, suc}
use Rattle.rules_opening.specs.Openings.{opening_refusal, market_of, rows_of}
use Rattle.rules_opening.specs.declared.Opening.{Opening}
use Rattle.rules_hour.specs.Hours.{fresh_standing, blank_hour}
use Rattle.rules_hour.specs.Hours.{Hour}

unfoldable pub fresh_hour : Opening → Hour
fresh_hour o = record { market = market_of o; rows = rows_of o; standing = fresh_standing }

-- a refusal returns its number alone: the hour is blank
abbrev pub hour_unless : ℕ → Hour → Hour
hour_unless zero h = h
hour_unless (suc n) h = blank_hour

-- the hour that opening hands back
unfoldable pub opened_hour : Opening → Hour
opened_hour o = hour_unless (opening_refusal o) (fresh_hour o)
