-- Refusal 25, as the code finds it. Assumes nothing.
use mathlib.Core.Bool.{Bool, true, false}
use mathlib.Core.Path.{◌≡◌}
use Prim.Native.Nat.{ℕ, ◌≤◌, ◌<◌}
use native.Mathlib.Omega.{arith}
use borrow.Author.Tests.{lt-ltb, le-ltb}
use lib.Bits.{bit_and}
use lib.Dec.{eqb}
use Rattle.rules_curve.specs.Refusals.{unless}
use Rattle.rules_designation.specs.Tallies.{is_later, marks_good, marks_within, day_refusal}
use Rattle.rules_designation.specs.declared.Day.{Day}
use Rattle.rules_designation.specs.declared.Tally.{Tally}

-- ---- marks
pub past_bound : (b n : ℕ) → 16777215 < b → false ≡ marks_within b n
unfolding marks_within
past_bound b n h = rw (le-ltb b 16777216 (omega arith))

pub past_non : (b n : ℕ) → b ≤ 16777215 → 16777215 < n → false ≡ marks_within b n
unfolding marks_within
past_non b n hb hn = rw (lt-ltb b 16777216 (omega arith), le-ltb n 16777216 (omega arith))

pub marks_are : (b n : ℕ) → b ≤ 16777215 → n ≤ 16777215 → eqb (bit_and n b) n ≡ marks_within b n
unfolding marks_within
marks_are b n hb hn = rw (lt-ltb b 16777216 (omega arith), lt-ltb n 16777216 (omega arith))

-- ---- the number, by the two tests
pub not_later : (t : Tally) (d : Day) → is_later t d ≡ false → 25 ≡ day_refusal t d
unfolding day_refusal
not_later t d e = rw e

pub by_marks : (t : Tally) (d : Day) (test : Bool) → is_later t d ≡ true → marks_good d ≡ test → unless test 25 ≡ day_refusal t d
unfolding day_refusal
by_marks t d test h e = rw (h, e)
