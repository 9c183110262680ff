-- Portfolios by weight: "the larger withheld amount now comes first, equal ones by lower portfolio number".
use Rattle.std.specs.Prelude.{ℕ, zero, suc, List, [], ◌∷◌, Bool, false, cond, ltb, eqb, None, Option, Some}

-- a set of portfolios without p
abbrev pub without : ℕ → (ℕ → Bool) → ℕ → Bool
without p left q = cond (eqb q p) false (left q)

-- of the one that comes first among lower numbers, and n
abbrev pub later : (ℕ → ℕ) → Option ℕ → ℕ → Option ℕ
later w None n = Some n
later w (Some p) n = cond (ltb (w p) (w n)) (Some n) (Some p)

-- of 0, .., n - 1 in a set, the one to print first: the larger weight, equal ones by lower number; none where the set has none of them
unfoldable pub leads : (ℕ → ℕ) → (ℕ → Bool) → ℕ → Option ℕ
leads w left zero = None
leads w left (suc n) = let before = leads w left n in cond (left n) (later w before n) before

abbrev pub and_then : Option ℕ → (ℕ → List ℕ) → List ℕ
and_then None more = []
and_then (Some p) more = p ∷ more p

-- at most k of the portfolios of a set, of 16, in the order of their lines: each is struck out before the next is looked for
unfoldable pub by_weight : ℕ → (ℕ → ℕ) → (ℕ → Bool) → List ℕ
by_weight zero w left = []
by_weight (suc k) w left = and_then (leads w left 16) (λ p. by_weight k w (without p left))
