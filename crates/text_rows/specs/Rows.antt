-- Values that stand in turn.
use Rattle.std.specs.Prelude.{◌≡◌, ℕ, ◌+◌, List, [], ◌∷◌, length, ℤ, Some}
use Rattle.rules_text.specs.Numbers.{closing}
use Rattle.rules_text.specs.Offsets.{number_at, closed_by}

-- the values zs stand at an offset, and m others follow them in their line; n is the offset after them
abbrev pub Stand : List ℕ → ℕ → ℕ → List ℤ → ℕ → Type 0
Stand s m at [] n = at ≡ n
Stand s m at (z ∷ zs) n = (p : ℕ) × (Some (z, p) ≡ closed_by s (closing (length zs + m)) (number_at s at)) × Stand s m p zs n
