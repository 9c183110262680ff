-- Sums, lists and tests over the numbers 0, .., n - 1.
use Rattle.std.specs.Prelude.{Bool, true, ◌&&◌, cond, List, [], ◌∷◌, ◌++◌, ℕ, zero, suc, ◌+◌, ◌-◌, ℤ, pos, ◌+ℤ◌, length, replicate}
use Rattle.rules_number.specs.Order.{max_z}

-- f 0 + .. + f (n - 1)
unfoldable pub sum_to : (ℕ → ℕ) → ℕ → ℕ
sum_to f zero = 0
sum_to f (suc n) = sum_to f n + f n

-- f holds of 0, .., n - 1
unfoldable pub all_to : (ℕ → Bool) → ℕ → Bool
all_to f zero = true
all_to f (suc n) = all_to f n && f n

-- the highest of f 0, .., f n
unfoldable pub highest_to : (ℕ → ℤ) → ℕ → ℤ
highest_to f zero = f zero
highest_to f (suc n) = max_z (highest_to f n) (f (suc n))

-- f 0, .., f (n - 1), in order
unfoldable pub listed : {A : Type 0} → (ℕ → A) → ℕ → List A
listed f zero = []
listed f (suc n) = listed f n ++ (f n ∷ [])

-- those of 0, .., n - 1 of which f holds, in order
unfoldable pub those : (ℕ → Bool) → ℕ → List ℕ
those f zero = []
those f (suc n) = those f n ++ cond (f n) (n ∷ []) []

-- the sum of f x over the x of a list
unfoldable pub sum_over : (ℕ → ℤ) → List ℕ → ℤ
sum_over f [] = pos 0
sum_over f (x ∷ l) = f x +ℤ sum_over f l

-- an array of n cells that holds l, and b in each cell past it
unfoldable pub padded : {A : Type 0} → ℕ → A → List A → List A
padded n b l = l ++ replicate (n - length l) b

-- an array whose first n cells, counted from k, are each replaced by f of their number and value
unfoldable pub up_to : {A : Type 0} → (ℕ → A → A) → ℕ → ℕ → List A → List A
up_to f k zero l = l
up_to f k (suc n) [] = []
up_to f k (suc n) (x ∷ xs) = f k x ∷ up_to f (suc k) n xs
