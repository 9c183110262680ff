-- Unrounded amounts (paper 02, 2.14): they "stand as pairs of whole numbers, a numerator over a denominator above 0, compared by cross products".
use Rattle.std.specs.Prelude.{◌⊎◌, ◌≡◌, ℕ, ◌*◌, ◌≤◌, ◌<◌, ℤ, pos, ◌+ℤ◌, ◌*ℤ◌, ◌≤ℤ◌, ◌<ℤ◌}

pub record Ratio : Type 0 where
  pub num : ℤ
  pub den : ℕ

-- n / d, and a whole number
abbrev pub over : ℤ → ℕ → Ratio
over n d = record { num = n; den = d }

abbrev pub whole : ℤ → Ratio
whole z = over z 1

-- the sum of two, and x × n / d
infixl 6 ◌+Q◌
abbrev pub ◌+Q◌ : Ratio → Ratio → Ratio
x +Q y = over (x.num *ℤ pos y.den +ℤ y.num *ℤ pos x.den) (x.den * y.den)

abbrev pub times_q : Ratio → ℤ → ℕ → Ratio
times_q x n d = over (x.num *ℤ n) (x.den * d)

-- ---- compared by cross products
infix 4 ◌≤Q◌
infix 4 ◌<Q◌
abbrev pub ◌≤Q◌ : Ratio → Ratio → Type 0
x ≤Q y = (x.num *ℤ pos y.den) ≤ℤ (y.num *ℤ pos x.den)

abbrev pub ◌<Q◌ : Ratio → Ratio → Type 0
x <Q y = (x.num *ℤ pos y.den) <ℤ (y.num *ℤ pos x.den)

-- x is the amount y
pub record Is (y x : Ratio) : Type 0 where
  pub den_above_0 : 0 < x.den
  pub equal : x.num *ℤ pos y.den ≡ y.num *ℤ pos x.den

-- x is the smaller of a and b
pub record IsSmaller (a b x : Ratio) : Type 0 where
  pub at_most_first : x ≤Q a
  pub at_most_second : x ≤Q b
  pub attained : Is a x ⊎ Is b x

-- x is the largest of f 0, .., f n
pub record IsLargest (f : ℕ → Ratio) (n : ℕ) (x : Ratio) : Type 0 where
  pub at_least_each : (i : ℕ) → i ≤ n → f i ≤Q x
  pub at : ℕ
  pub among : at ≤ n
  pub attained : Is (f at) x
