-- A number as a set, "bit p standing for portfolio p" (paper 01, Path verdict); the hours of a day are such a set too.
use Rattle.std.specs.Prelude.{Bool, cond, ℕ, suc, ◌^◌, eqb}
use Rattle.std.specs.Int.Bits.{bit_and, bit_or}
use Rattle.rules_number.specs.Over.{sum_to}
use Rattle.rules_path.specs.Verdicts.{bit}

-- p is in the set
abbrev pub is_in : ℕ → ℕ → Bool
is_in p m = eqb (bit p m) 1

-- each member of s is one of m
abbrev pub is_within : ℕ → ℕ → Bool
is_within m s = eqb (bit_and s m) s

-- the set with p in it
abbrev pub with_member : ℕ → ℕ → ℕ
with_member p m = bit_or m (2 ^ p)

-- those of 0, .., n - 1 of which f holds
unfoldable pub set_of : (ℕ → Bool) → ℕ → ℕ
set_of f n = sum_to (λ p. cond (f p) (2 ^ p) 0) n

-- how many of the numbers 1, .., n are sets within m
unfoldable pub sets_to : ℕ → ℕ → ℕ
sets_to m n = sum_to (λ i. cond (is_within m (suc i)) 1 0) n

-- the number of non-empty sets within m, of which none has a number above m's
abbrev pub sets_in : ℕ → ℕ
sets_in m = sets_to m m
