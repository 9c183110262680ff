-- Rounding up, by computation (paper 01, Marked for proof: P3's quotients).
use mathlib.Core.Path.{◌≡◌, refl}
use lib.IntN.{pos, neg_ℤ}
use Rattle.rules_number.specs.Ceil.{ceil_div}

pub record Rounded : Type 0 where
  -- n 10, w 3: 4; n -10: -3
  pub up : ceil_div (pos 10) 3 ≡ pos 4
  pub up_negative : ceil_div (neg_ℤ (pos 10)) 3 ≡ neg_ℤ (pos 3)
  -- a whole quotient stays
  pub whole : ceil_div (pos 9) 3 ≡ pos 3
  pub whole_negative : ceil_div (neg_ℤ (pos 9)) 3 ≡ neg_ℤ (pos 3)

pub rounded : Rounded
rounded = record { up = refl; up_negative = refl; whole = refl; whole_negative = refl }
