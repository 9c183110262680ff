-- Worked cases, by computation on the definitions.
use mathlib.Core.List.{List, [], ◌∷◌, ◌++◌}
use mathlib.Core.Path.{◌≡◌, refl}
use Prim.Native.Nat.{ℕ, ◌+◌}
use lib.Count.{ones, ones_in}
use lib.ListN.{replicate}
use Rattle.rules_number.specs.Over.{sum_to, listed}
use Rattle.rules_path.specs.declared.Finding.TheVariants.{Competitive, NonCompetitive, NotBinding}
use Rattle.rules_designation.specs.Designations.{hours_in, bound_hours, is_competitive, designation}
use Rattle.rules_designation.specs.Marks.{any_of, marked_day, blank_day}
use Rattle.rules_designation.specs.Tallies.{marks_within, day_refusal, pushed, with_day, tally_after, fresh_tally, tally_of}
use Rattle.rules_designation.specs.declared.Day.{Day}
use Rattle.rules_designation.specs.declared.Tally.{Tally}

abbrev day : ℕ → ℕ → ℕ → Day
day number bound non = record { number = number; bound = bound; noncompetitive = non }

-- n days from a number on, each with hour 0 bound, and non-competitive where m is 1
abbrev run : ℕ → ℕ → ℕ → List Day
run from n m = listed (λ i. day (from + i) 1 m) n

abbrev after : List Day → Tally
after days = tally_of fresh_tally days

pub record Days : Type 0 where
  -- with none accepted there is no day to be above: day 0 is taken
  pub first : day_refusal fresh_tally (day 0 1 0) ≡ 0
  -- the same day again, and an earlier one, are refused; a later one is taken, however late
  pub again : day_refusal (after (day 5 1 0 ∷ [])) (day 5 2 0) ≡ 25
  pub earlier : day_refusal (after (day 5 1 0 ∷ [])) (day 4 2 0) ≡ 25
  pub later : day_refusal (after (day 5 1 0 ∷ [])) (day 4000000000 2 0) ≡ 0
  -- a refused day isn't the last accepted one
  pub refused_last : day_refusal (after (day 5 1 0 ∷ day 9 1 2 ∷ [])) (day 6 1 0) ≡ 0
  -- hour 23 is the last: bit 24 is refused in either mask
  pub hour_23 : day_refusal fresh_tally (day 1 8388608 8388608) ≡ 0
  pub hour_24 : day_refusal fresh_tally (day 1 16777216 0) ≡ 25
  pub hour_24_both : day_refusal fresh_tally (day 1 16777217 16777216) ≡ 25
  -- hour 1 is non-competitive and not bound
  pub unbound : day_refusal fresh_tally (day 1 1 2) ≡ 25
  -- a refused day leaves the tally
  pub leaves : after (day 5 3 1 ∷ day 5 1 1 ∷ day 6 16777216 0 ∷ []) ≡ record { days = 1; last = 5; bound = 3 ∷ replicate 59 0; noncompetitive = 1 ∷ replicate 59 0 }

pub days : Days
unfolding sum_to listed marks_within day_refusal pushed with_day tally_after fresh_tally tally_of
days = record { first = refl; again = refl; earlier = refl; later = refl; refused_last = refl; hour_23 = refl; hour_24 = refl; hour_24_both = refl; unbound = refl; leaves = refl }

pub record Counts : Type 0 where
  -- a fresh tally: "lacks sufficient data", so non-competitive
  pub fresh : designation fresh_tally ≡ NonCompetitive
  -- 9 bound hours are too few, 10 are enough
  pub nine : designation (after (run 0 9 0)) ≡ NonCompetitive
  pub ten : designation (after (run 0 10 0)) ≡ Competitive
  -- of 12 bound hours 3 may be non-competitive: 4 × 9 is 3 × 12; 4 may not
  pub three_of_twelve : designation (after (run 0 9 0 ++ run 9 3 1)) ≡ Competitive
  pub four_of_twelve : designation (after (run 0 8 0 ++ run 8 4 1)) ≡ NonCompetitive
  -- 61 days of one bound hour: 60 are counted, and sixty are held
  pub sixty_one : (bound_hours (after (run 0 61 0)) ≡ 60) × ((after (run 0 61 0)).days ≡ 60)
  -- sixty days without a mark push everything out
  pub pushed_out : designation (after (run 0 60 0 ++ listed (λ i. day (60 + i) 0 0) 60)) ≡ NonCompetitive
  pub still_in : bound_hours (after (run 0 60 0 ++ listed (λ i. day (60 + i) 0 0) 59)) ≡ 1

pub counts : Counts
unfolding sum_to listed marks_within day_refusal pushed with_day tally_after fresh_tally tally_of hours_in ones ones_in is_competitive designation
counts = record { fresh = refl; nine = refl; ten = refl; three_of_twelve = refl; four_of_twelve = refl; sixty_one = (refl, refl); pushed_out = refl; still_in = refl }

pub record Marks : Type 0 where
  -- verdicts 2 and 0: bound; 0 and 1: both; 2 alone, or no interval: neither
  pub competitive : marked_day (blank_day 7) 3 (NotBinding ∷ Competitive ∷ []) ≡ day 7 8 0
  pub not_competitive : marked_day (blank_day 7) 3 (Competitive ∷ NonCompetitive ∷ []) ≡ day 7 8 8
  pub not_binding_lem : marked_day (blank_day 7) 3 (NotBinding ∷ NotBinding ∷ []) ≡ day 7 0 0
  pub no_interval : marked_day (blank_day 7) 3 [] ≡ day 7 0 0
  -- interval by interval it is the same
  pub by_interval : marked_day (marked_day (day 7 4 0) 3 (Competitive ∷ [])) 3 (NonCompetitive ∷ []) ≡ day 7 12 8
  -- an hour past the 24
  pub past : marked_day (blank_day 7) 31 (Competitive ∷ []) ≡ day 7 16777216 0

pub marks : Marks
unfolding any_of marked_day
marks = record { competitive = refl; not_competitive = refl; not_binding_lem = refl; no_interval = refl; by_interval = refl; past = refl }
