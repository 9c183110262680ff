-- Findings by their numbers. Assumes nothing.
use mathlib.Core.Bool.{Bool, true, false, ◌||◌}
use mathlib.Core.List.{List, [], ◌∷◌, map}
use mathlib.Core.Path.{◌≡◌, refl, sym, ap, ap₂, ◌∙◌}
use Prim.Native.Nat.{ℕ, zero, suc, ◌+◌, ◌<◌}
use native.Mathlib.Numerals.{add-one}
use native.Mathlib.Omega.{arith}
use borrow.Author.Tests.{le-leb, lt-leb}
use lib.IntN.{ℤ, pos, negsuc}
use lib.ListN.{length, get_or, drop}
use lib.Seq.{drop-cons}
use Rattle.rules_number.specs.Order.{in_range}
use Rattle.rules_path.specs.declared.Finding.{Finding}
use Rattle.rules_state.specs.Verdicts.{finding_by}
use Rattle.rules_designation.specs.Marks.{any_of, binds_by, non_competitive_by}
use Rattle.designation.specs.Numbers.{any_within}

by_number : (z : ℤ) → (in_range (pos 0) (pos 1) z ≡ binds_by (finding_by z)) × (in_range (pos 1) (pos 1) z ≡ non_competitive_by (finding_by z))
unfolding in_range
by_number (pos zero) = (refl, refl)
by_number (pos (suc zero)) = (refl, refl)
by_number (pos (suc (suc n))) =
    let over = lt-leb (suc (suc n)) 1 (omega arith) in
    (rw (le-leb 0 (suc (suc n)) (omega arith), over), rw (le-leb 1 (suc (suc n)) (omega arith), over))
by_number (negsuc n) = (refl, refl)

any_same : (lo : ℤ) (test : Finding → Bool) → ((z : ℤ) → in_range lo (pos 1) z ≡ test (finding_by z)) → (l : List ℤ) → any_within lo l ≡ any_of test (map finding_by l)
unfolding any_within any_of
any_same lo test each [] = refl
any_same lo test each (z ∷ l) = ap₂ ◌||◌ (each z) (any_same lo test each l)

pub any_bound_lem : (l : List ℤ) → any_within (pos 0) l ≡ any_of binds_by (map finding_by l)
any_bound_lem l = any_same (pos 0) binds_by (λ z. (by_number z).0) l

pub any_non : (l : List ℤ) → any_within (pos 1) l ≡ any_of non_competitive_by (map finding_by l)
any_non l = any_same (pos 1) non_competitive_by (λ z. (by_number z).1) l

-- a turn of the loop, and its early end
module _ (lo : ℤ) (l : List ℤ) (i : ℕ) (inside : i < length l) where
  at_next : (t : Bool) → in_range lo (pos 1) (get_or l i (pos 0)) ≡ t → any_within lo (drop i l) ≡ (t || any_within lo (drop (suc i) l))
  unfolding any_within
  at_next t e = ap (any_within lo) (drop-cons l i (pos 0) inside) ∙ ap (λ (x : Bool). x || any_within lo (drop (suc i) l)) e

  pub any_here : in_range lo (pos 1) (get_or l i (pos 0)) ≡ true → any_within lo l ≡ any_within lo (drop i l) → true ≡ any_within lo l
  any_here e so_far = sym (so_far ∙ at_next true e)

  pub any_later : in_range lo (pos 1) (get_or l i (pos 0)) ≡ false → any_within lo l ≡ any_within lo (drop i l) → any_within lo l ≡ any_within lo (drop (i + 1) l)
  any_later e so_far = rw (add-one i) (so_far ∙ at_next false e)
