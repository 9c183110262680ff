-- A test passes exactly when what it tests holds. Assumes nothing.
use mathlib.Core.Bool.{Bool, true, ◌&&◌}
use mathlib.Core.Logic.{◌↔◌}
use mathlib.Core.Path.{◌≡◌, sym, subst}
use Prim.Native.Nat.{ℕ, ◌≤◌, ◌<◌}
use borrow.Author.Tests.{leb-true, le-leb, eqb-true, eq-eqb}
use lib.Dec.{T, leb, eqb}
use lib.IntN.{ℤ}
use lib.Signed.{le_z, lt_z, ◌≤ℤ◌, ◌<ℤ◌}
use Rattle.rules_number.specs.Order.{in_range}
use Rattle.rules_number.specs.Over.{all_to}
use Rattle.rules_number.proofs.TestLaws.{is_true}
use Rattle.rules_number.proofs.OverLaws.{both, all_at, all_of}

pub le_exactly : (a b : ℕ) → (leb a b ≡ true) ↔ (a ≤ b)
le_exactly a b = (leb-true a b, le-leb a b)

pub eq_exactly : (a b : ℕ) → (eqb a b ≡ true) ↔ (a ≡ b)
eq_exactly a b = (eqb-true a b, eq-eqb a b)

pub le_z_exactly : (a b : ℤ) → (le_z a b ≡ true) ↔ (a ≤ℤ b)
le_z_exactly a b = ((λ e. record { le = subst T (sym e) tt }), λ h. is_true (le_z a b) h.le)

pub lt_z_exactly : (a b : ℤ) → (lt_z a b ≡ true) ↔ (a <ℤ b)
lt_z_exactly a b = ((λ e. record { lt = subst T (sym e) tt }), λ h. is_true (lt_z a b) h.lt)

and_true : (a b : Bool) → a ≡ true → b ≡ true → (a && b) ≡ true
and_true a b x y = rw (x, y)

pub and_exactly : {P Q : Type 0} (a b : Bool) → (a ≡ true) ↔ P → (b ≡ true) ↔ Q → ((a && b) ≡ true) ↔ (P × Q)
and_exactly a b x y = ((λ e. let t = both a b e in (x.0 t.0, y.0 t.1)), λ h. and_true a b (x.1 h.0) (y.1 h.1))

pub range_exactly : (lo hi x : ℤ) → (in_range lo hi x ≡ true) ↔ ((lo ≤ℤ x) × (x ≤ℤ hi))
unfolding in_range
range_exactly lo hi x = and_exactly (le_z lo x) (le_z x hi) (le_z_exactly lo x) (le_z_exactly x hi)

pub all_exactly : (f : ℕ → Bool) (Q : ℕ → Type 0) (n : ℕ) → ((i : ℕ) → (f i ≡ true) ↔ Q i) → (all_to f n ≡ true) ↔ ((i : ℕ) → i < n → Q i)
all_exactly f Q n h = ((λ e i l. (h i).0 (all_at f n e i l)), λ q. all_of f n (λ i l. (h i).1 (q i l)))

-- the same said otherwise
pub iff_then : {P Q R : Type 0} → P ↔ Q → (Q → R) → (R → Q) → P ↔ R
iff_then e f g = ((λ p. f (e.0 p)), λ r. e.1 (g r))
