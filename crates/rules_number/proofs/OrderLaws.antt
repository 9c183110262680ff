-- Laws of `max_z` and `min_z`. The parts of a maximum are the maximum and the minimum of the parts, which omega reads. Assumes nothing.
use mathlib.Core.Path.{◌≡◌, refl, ap, ◌∙◌}
use mathlib.Core.Bool.{Bool, true, false, cond}
use Prim.Native.Nat.{◌≤◌, min, max}
use native.Mathlib.Omega.{arith}
use borrow.Author.Tests.{leb-true, leb-false, eqb-true, eq-eqb}
use mathlib.Core.Logic.{◌⊎◌, inl, inr, ⊎_elim}
use lib.Dec.{T}
use lib.IntN.{ℤ, pos, negsuc}
use lib.Signed.{le_z, ◌≤ℤ◌}
use Rattle.rules_number.specs.Order.{max_z, min_z, eq_z}
use Rattle.rules_number.proofs.Kit.{P, N, var, eq_by, le_by, le_true, le_false}

pub eq_parts : {x y : ℤ} → P x ≡ P y → N x ≡ N y → x ≡ y
eq_parts {x} {y} p n = eq_by (var x) (var y) (omega arith)

pub le_parts : {x y : ℤ} → P x ≤ P y → N y ≤ N x → x ≤ℤ y
le_parts {x} {y} p n = le_by (var x) (var y) (omega arith)

-- an order of two numbers is one of their parts
parts_true : (x y : ℤ) → le_z x y ≡ true → (P x ≤ P y) × (N y ≤ N x)
parts_true (pos a) (pos b) e = omega (arith, leb-true a b e)
parts_true (pos a) (negsuc b) e = omega (arith, le_true (pos a) (negsuc b) e)
parts_true (negsuc a) (pos b) e = omega arith
parts_true (negsuc a) (negsuc b) e = omega (arith, leb-true b a e)

parts_false : (x y : ℤ) → le_z x y ≡ false → (P y ≤ P x) × (N x ≤ N y)
parts_false (pos a) (pos b) e = omega (arith, leb-false a b e)
parts_false (pos a) (negsuc b) e = omega arith
parts_false (negsuc a) (pos b) e = omega (arith, le_false (negsuc a) (pos b) e)
parts_false (negsuc a) (negsuc b) e = omega (arith, leb-false b a e)

-- the parts of a maximum and of a minimum
module _ (a b : ℤ) where
  pub max_parts : (P (max_z a b) ≡ max (P a) (P b)) × (N (max_z a b) ≡ min (N a) (N b))
  max_parts = go (le_z a b) refl
    where
      go : (t : Bool) → le_z a b ≡ t → (P (cond t b a) ≡ max (P a) (P b)) × (N (cond t b a) ≡ min (N a) (N b))
      go true e = omega (arith, parts_true a b e)
      go false e = omega (arith, parts_false a b e)

  pub min_parts : (P (min_z a b) ≡ min (P a) (P b)) × (N (min_z a b) ≡ max (N a) (N b))
  min_parts = go (le_z a b) refl
    where
      go : (t : Bool) → le_z a b ≡ t → (P (cond t a b) ≡ min (P a) (P b)) × (N (cond t a b) ≡ max (N a) (N b))
      go true e = omega (arith, parts_true a b e)
      go false e = omega (arith, parts_false a b e)

  pub p_max : P (max_z a b) ≡ max (P a) (P b)
  p_max = max_parts.0

  pub n_max : N (max_z a b) ≡ min (N a) (N b)
  n_max = max_parts.1

  pub p_min : P (min_z a b) ≡ min (P a) (P b)
  p_min = min_parts.0

  pub n_min : N (min_z a b) ≡ max (N a) (N b)
  n_min = min_parts.1

-- laws, each by its parts
pub min_assoc : (a b c : ℤ) → min_z (min_z a b) c ≡ min_z a (min_z b c)
min_assoc a b c = eq_parts (simp p_min (omega arith)) (simp n_min (omega arith))

pub max_over_min : (d l l' : ℤ) → min_z (max_z d l) (max_z d l') ≡ max_z d (min_z l l')
max_over_min d l l' = eq_parts (simp (p_min, p_max) (omega arith)) (simp (n_min, n_max) (omega arith))

-- two caps are one, with the lower floor
pub caps_join : (bid d l l' : ℤ) → min_z (min_z bid (max_z d l)) (max_z d l') ≡ min_z bid (max_z d (min_z l l'))
caps_join bid d l l' = min_assoc bid (max_z d l) (max_z d l') ∙ ap (min_z bid) (max_over_min d l l')

pub min_le_left : (a b : ℤ) → min_z a b ≤ℤ a
min_le_left a b = le_parts (simp p_min (omega arith)) (simp n_min (omega arith))

pub max_ge_left : (a b : ℤ) → a ≤ℤ max_z a b
max_ge_left a b = le_parts (simp p_max (omega arith)) (simp n_max (omega arith))

pub max_ge_right : (a b : ℤ) → b ≤ℤ max_z a b
max_ge_right a b = le_parts (simp p_max (omega arith)) (simp n_max (omega arith))

pub min_le_right : (a b : ℤ) → min_z a b ≤ℤ b
min_le_right a b = le_parts (simp p_min (omega arith)) (simp n_min (omega arith))

-- an order of two numbers, as one of their parts
pub parts_of : (x y : ℤ) → x ≤ℤ y → (P x ≤ P y) × (N y ≤ N x)
parts_of x y h = parts_true x y (is_true h.le)
  where
    is_true : {t : Bool} → T t → t ≡ true
    is_true {t = true} h = refl
    is_true {t = false} h = absurd h

-- the smaller and the larger grow with each of the two
pub min_mono : {a b c d : ℤ} → a ≤ℤ c → b ≤ℤ d → min_z a b ≤ℤ min_z c d
min_mono {a} {b} {c} {d} h k =
    let x = parts_of a c h in
    let y = parts_of b d k in
    le_parts (simp p_min (omega arith)) (simp n_min (omega arith))

pub max_mono : {a b c d : ℤ} → a ≤ℤ c → b ≤ℤ d → max_z a b ≤ℤ max_z c d
max_mono {a} {b} {c} {d} h k =
    let x = parts_of a c h in
    let y = parts_of b d k in
    le_parts (simp p_max (omega arith)) (simp n_max (omega arith))

-- what holds of both holds of the larger and of the smaller: each is one of them
pub max_least : (Q : ℤ → Type 0) (a b : ℤ) → Q a → Q b → Q (max_z a b)
max_least Q a b x y = go (le_z a b)
  where
    go : (t : Bool) → Q (cond t b a)
    go true = y
    go false = x

pub min_least : (Q : ℤ → Type 0) (a b : ℤ) → Q a → Q b → Q (min_z a b)
min_least Q a b x y = go (le_z a b)
  where
    go : (t : Bool) → Q (cond t a b)
    go true = x
    go false = y

-- ---- equal numbers
pub eq_z_true : (a b : ℤ) → eq_z a b ≡ true → a ≡ b
eq_z_true (pos a) (pos b) e = ap pos (eqb-true a b e)
eq_z_true (pos a) (negsuc b) e = cc
eq_z_true (negsuc a) (pos b) e = cc
eq_z_true (negsuc a) (negsuc b) e = ap negsuc (eqb-true a b e)

pub eq_z_same : (a : ℤ) → eq_z a a ≡ true
eq_z_same (pos a) = eq-eqb a a refl
eq_z_same (negsuc a) = eq-eqb a a refl

pub eq_z_cases : (a b : ℤ) → (a ≡ b) ⊎ (eq_z a b ≡ false)
eq_z_cases a b = go (eq_z a b) refl
  where
    go : (t : Bool) → eq_z a b ≡ t → (a ≡ b) ⊎ (eq_z a b ≡ false)
    go true e = inl (eq_z_true a b e)
    go false e = inr e

pub eq_z_other : (a b : ℤ) → (a ≡ b → ⊥) → eq_z a b ≡ false
eq_z_other a b h = ⊎_elim (λ e. absurd (h e)) (λ e. e) (eq_z_cases a b)
