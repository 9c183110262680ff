-- The sixty-day tally of a constraint and refusal 25 (paper 02, 2.10).
use Rattle.std.specs.Prelude.{Bool, ◌&&◌, ◌||◌, cond, List, [], ◌∷◌, ℕ, zero, suc, ◌+◌, ◌^◌, ltb, eqb, take, replicate}
use Rattle.rules_curve.specs.Refusals.{unless}
use Rattle.rules_mask.specs.Masks.{is_within}
use Rattle.rules_designation.specs.declared.Day.{Day}
use Rattle.rules_designation.specs.declared.Tally.{Tally}

abbrev pub day_hours : ℕ
day_hours = 24

abbrev pub held_days : ℕ
held_days = 60

-- no mark is past the 24 hours, and each non-competitive hour is bound
unfoldable pub marks_within : ℕ → ℕ → Bool
marks_within bound non = ltb bound (2 ^ day_hours) && (ltb non (2 ^ day_hours) && is_within bound non)

abbrev pub marks_good : Day → Bool
marks_good d = marks_within d.bound d.noncompetitive

-- the day number is above the last accepted one, if there is one
abbrev pub later_than : ℕ → ℕ → ℕ → Bool
later_than days last number = eqb days 0 || ltb last number

abbrev pub is_later : Tally → Day → Bool
is_later t d = later_than t.days t.last d.number

-- "25, a day number not above the last accepted one, a mark past the 24 hours, or a non-competitive hour not bound; the only check"
unfoldable pub day_refusal : Tally → Day → ℕ
day_refusal t d = unless (is_later t d && marks_good d) 25

-- "over the latest 60 trading days": one mask more in front, and the oldest one gone
unfoldable pub pushed : List ℕ → ℕ → List ℕ
pushed l x = take held_days (x ∷ l)

-- days held, sixty at most
abbrev pub held_after : ℕ → ℕ
held_after n = cond (ltb n held_days) (n + 1) n

unfoldable pub with_day : Tally → Day → Tally
with_day t d = record {
  days = held_after t.days;
  last = d.number;
  bound = pushed t.bound d.bound;
  noncompetitive = pushed t.noncompetitive d.noncompetitive;
}

-- a refused day leaves the tally as it was
abbrev pub tally_unless : ℕ → Tally → Tally → Tally
tally_unless zero next t = next
tally_unless (suc n) next t = t

unfoldable pub tally_after : Tally → Day → Tally
tally_after t d = tally_unless (day_refusal t d) (with_day t d) t

-- "a fresh tally"
unfoldable pub fresh_tally : Tally
fresh_tally = record { days = 0; last = 0; bound = replicate held_days 0; noncompetitive = replicate held_days 0 }

-- the tally after a list of days
unfoldable pub tally_of : Tally → List Day → Tally
tally_of t [] = t
tally_of t (d ∷ days) = tally_of (tally_after t d) days
