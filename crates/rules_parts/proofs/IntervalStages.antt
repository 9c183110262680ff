-- An interval's part, table after table, and an interval by its fields. Assumes nothing.
use Prim.Native.Nat.{ℕ}
use mathlib.Core.Path.{◌≡◌}
use mathlib.Core.List.{List}
use lib.ListN.{length}
use lib.IntN.{ℤ}
use Rattle.rules_interval.specs.declared.Interval.{Interval}
use Rattle.rules_text.specs.Numbers.{Row}
use Rattle.rules_text.specs.Tables.{Reader, found, ◌▷◌, headed, due, counted, rows}
use Rattle.rules_parts.specs.Parts.{factor_rows, parameter_of, interval_of}

-- what is left to read after three, two and one tables
abbrev pub last : List Row → List Row → List Row → Reader Interval
last cs os fs = headed "parameter\n" (due parameter_of) ▷ λ p. found (interval_of cs os fs p)

abbrev pub last_two : List Row → List Row → Reader Interval
last_two cs os = headed "resource constraint factor\n" (rows (factor_rows (length os) (length cs))) ▷ λ fs. last cs os fs

abbrev pub last_three : List Row → Reader Interval
last_three cs = headed "resource lmp dispatch available floor\n" (counted 5) ▷ λ os. last_two cs os

-- an interval by its fields
pub by_fields : {a a' b b' : ℕ} {s s' l l' d d' v v' f f' x x' : List ℤ} {p p' : ℤ} → a ≡ a' → s ≡ s' → b ≡ b' → l ≡ l' → d ≡ d' → v ≡ v' → f ≡ f' → x ≡ x' → p ≡ p'
    → ◌≡◌ {A = Interval} (record { constraints = a; shadow = s; resources = b; lmp = l; dispatch = d; available = v; floor = f; factors = x; parameter = p })
    (record { constraints = a'; shadow = s'; resources = b'; lmp = l'; dispatch = d'; available = v'; floor = f'; factors = x'; parameter = p' })
by_fields a s b l d v f x p = cc
