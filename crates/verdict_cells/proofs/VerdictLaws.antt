-- Laws of verdicts read from cells. Assumes nothing.
use Prim.Native.Nat.{ℕ, zero, suc, ◌+◌, ◌≤◌}
use mathlib.Core.Path.{◌≡◌, refl, sym, ap, ◌∙◌}
use mathlib.Core.List.{List}
use native.Mathlib.Omega.{arith}
use lib.IntN.{ℤ, pos, negsuc}
use lib.ListN.{length, replicate, length-replicate, get_or-eq_default, get_or-replicate}
use Rattle.rules_number.specs.Order.{nat_of}
use Rattle.rules_number.proofs.ListedLaws.{listed_is}
use Rattle.rules_path.specs.declared.Finding.TheVariants.{NotBinding}
use Rattle.rules_library.specs.Slices.{cell_at}
use Rattle.rules_state.specs.States.{wholes_in}
use Rattle.rules_state.specs.Verdicts.{finding_by}

pub not_binding_lem : (z : ℤ) → (z ≡ pos 0 → ⊥) → (z ≡ pos 1 → ⊥) → finding_by z ≡ NotBinding
not_binding_lem (pos zero) a b = absurd (a refl)
not_binding_lem (pos (suc zero)) a b = absurd (b refl)
not_binding_lem (pos (suc (suc n))) a b = refl
not_binding_lem (negsuc n) a b = refl

-- past the end there are zeros
pub none_there : (l : List ℤ) (at n : ℕ) → length l ≤ at → replicate n 0 ≡ wholes_in l at n
unfolding wholes_in
none_there l at n h =
    listed_is 0 (replicate n 0) (λ i. nat_of (cell_at l (at + i))) n (length-replicate n 0) (λ q m.
    get_or-replicate n q 0 0 m ∙ ap nat_of (sym (get_or-eq_default l (pos 0) (omega arith))))
