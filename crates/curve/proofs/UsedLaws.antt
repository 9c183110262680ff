-- The steps of an array that count. Assumes nothing.
use Rattle.std.proofs.Common.{◌≡◌, ℕ, List, length, take, ◌∙◌, ap}
use Rattle.std.proofs.lemmas.List.{length-take, take_min}

-- the first of an array, as many as count, are those that count
pub used_taken : {A : Type 0} (l : List A) (k n : ℕ) → n ≡ length (take k l) → take n l ≡ take k l
used_taken l k n e = ap (λ (j : ℕ). take j l) (e ∙ length-take k l) ∙ take_min k l
