-- Short numbers.
use Rattle.std.specs.Prelude.{ℕ, ◌+◌, ◌≡◌, List, get_or, pos, neg_ℤ, Some}
use Rattle.rules_text.specs.Offsets.{number_at, closed_by}

-- the digits at an offset spell v, the byte b closes them, and n is the offset after it; after a minus they spell its negative
pub record Short (s : List ℕ) (at b v n : ℕ) : Type 0 where
  pub natural : Some ((pos v), n) ≡ closed_by s b (number_at s at)
  pub negative : (p : ℕ) → at ≡ p + 1 → get_or s p 0 ≡ 45 → Some ((neg_ℤ (pos v)), n) ≡ closed_by s b (number_at s p)

-- the digits at an offset spell v, the byte b closes them, and n is the offset after it; after a minus they spell its negative, unless it is 0
pub record Plain (s : List ℕ) (at b v n : ℕ) : Type 0 where
  pub natural : Some ((pos v), n) ≡ closed_by s b (number_at s at)
  pub negative : (v ≡ 0 → ⊥) → (p : ℕ) → at ≡ p + 1 → get_or s p 0 ≡ 45 → Some ((neg_ℤ (pos v)), n) ≡ closed_by s b (number_at s p)
