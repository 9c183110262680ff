-- What the list is, in the request's words (paper 02, 2.12).
use mathlib.Core.List.{List, [], ◌∷◌, ◌++◌, map, Memᴰ}
use Rattle.std.specs.Prelude.{◌⊎◌, ◌≡◌, ℕ, suc, ◌<◌, ℤ, pos, ◌<ℤ◌}
use Rattle.rules_number.specs.Over.{padded}
use Rattle.rules_curve.specs.Conditions.{no_step, edge, price}
use Rattle.rules_curve.specs.Curves.{most_steps, raw_steps}
use Rattle.rules_curve.specs.declared.RawCurve.{RawCurve}
use Rattle.rules_classroom.specs.Classroom.{classroom_bid}

-- "start 0, ends among 100, 200, 300 and prices among 0, 10000, 20000"
pub record Drill (b : RawCurve) : Type 0 where
  pub starts : b.start ≡ pos 0
  pub ends : (i : ℕ) → i < b.count → Memᴰ (edge b (suc i)) (pos 100 ∷ pos 200 ∷ pos 300 ∷ [])
  pub prices : (i : ℕ) → i < b.count → Memᴰ (price b i) (pos 0 ∷ pos 10000 ∷ pos 20000 ∷ [])

-- the ends and the prices of a bid
abbrev pub ends_in : RawCurve → List ℤ
ends_in b = map (λ s. s.end) (raw_steps b)

abbrev pub prices_in : RawCurve → List ℤ
prices_in b = map (λ s. s.price) (raw_steps b)

-- one list of numbers is smaller than another: by the first number in which they differ
abbrev pub Smaller : List ℤ → List ℤ → Type 0
Smaller [] m = ⊥
Smaller (x ∷ l) [] = ⊥
Smaller (x ∷ l) (y ∷ m) = (x <ℤ y) ⊎ ((x ≡ y) × Smaller l m)

-- "by step count, then by the list of ends, then by the list of prices": of one step count the lists are equally long
abbrev pub in_turn : RawCurve → List ℤ
in_turn b = pos b.count ∷ ends_in b ++ prices_in b

abbrev pub Before : RawCurve → RawCurve → Type 0
Before b c = Smaller (in_turn b) (in_turn c)

-- a bid with blank steps past its count: what stands there means nothing
abbrev pub blanked : RawCurve → RawCurve
blanked b = record { start = b.start; count = b.count; steps = padded most_steps no_step (raw_steps b) }

-- it is one of the list
pub record IsListed (b : RawCurve) : Type 0 where
  pub at : ℕ
  pub among : at < 37
  pub same : blanked b ≡ classroom_bid at
