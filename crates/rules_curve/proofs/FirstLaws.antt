-- A chain of checks gives the number of the first demand that is not met, if each check passes exactly when its demand is met. Assumes nothing.
use mathlib.Core.Bool.{Bool, true, false}
use mathlib.Core.List.{List, [], ◌∷◌, ◌++◌}
use mathlib.Core.Logic.{inl, inr, ◌↔◌}
use mathlib.Core.Path.{◌≡◌, refl, sym, subst, ◌∙◌}
use Prim.Native.Nat.{ℕ, zero, suc, ◌<◌}
use native.Mathlib.Nat.{le_refl}
use native.Mathlib.Omega.{arith}
use Rattle.rules_number.proofs.OverLaws.{never}
use Rattle.rules_curve.specs.Refusals.{unless, ◌then◌, each_to}
use Rattle.rules_curve.specs.Demands.{Demand, ◌asks◌, First, Met, each_demand}

-- at most one number is that of the first demand that is not met
pub first_only : (l : List Demand) (a b : ℕ) → First a l → First b l → a ≡ b
first_only [] a b p q = p ∙ sym q
first_only (d ∷ l) a b (inl p) (inl q) = first_only l a b p.1 q.1
first_only (d ∷ l) a b (inl p) (inr q) = absurd (q.0 p.0)
first_only (d ∷ l) a b (inr p) (inl q) = absurd (p.0 q.0)
first_only (d ∷ l) a b (inr p) (inr q) = p.1 ∙ sym q.1

-- so the number is n exactly when n is that of the first
pub exactly : (l : List Demand) (r : ℕ) → First r l → (n : ℕ) → (r ≡ n) ↔ First n l
exactly l r f n = ((λ e. subst (λ (m : ℕ). First m l) e f), λ g. first_only l r n f g)

-- 0 stands for all being met
pub none_exactly : (l : List Demand) → First 0 l ↔ Met l
none_exactly l = (there l, back l)
  where
    there : (l : List Demand) → First 0 l → Met l
    there [] f = tt
    there (d ∷ l) (inl p) = (p.0, there l p.1)
    there (d ∷ l) (inr p) = absurd (omega (arith, p.2))

    back : (l : List Demand) → Met l → First 0 l
    back [] m = refl
    back (d ∷ l) m = inl (m.0, back l m.1)

pub accepted_exactly : (l : List Demand) (r : ℕ) → First r l → (r ≡ 0) ↔ Met l
accepted_exactly l r f = let e = exactly l r f 0 in let z = none_exactly l in ((λ x. z.0 (e.0 x)), λ m. e.1 (z.1 m))

-- ---- a chain of checks
pub then_positive : (a b : ℕ) → 0 < a → (a then b) ≡ a
then_positive zero b h = absurd (omega arith)
then_positive (suc a) b h = refl

-- what follows counts only where all before it is met
pub first_then : (k l : List Demand) (a b : ℕ) → First a k → (Met k → First b l) → First (a then b) (k ++ l)
first_then [] l a b f g = rw f (g tt)
first_then (d ∷ k) l a b (inl p) g = inl (p.0, first_then k l a b p.1 (λ m. g (p.0, m)))
first_then (d ∷ k) l a b (inr p) g = rw (then_positive a b p.2) (inr p)

pub first_one : {P : Type 0} (t : Bool) (n : ℕ) → (t ≡ true) ↔ P → First (unless t (suc n)) ((suc n asks P) ∷ [])
first_one true n e = inl (e.0 refl, refl)
first_one false n e = inr ((λ p. never (e.1 p)), refl, omega arith)

-- one check more
pub first_more : {P : Type 0} (k : List Demand) (a : ℕ) (t : Bool) (n : ℕ) → First a k → (Met k → (t ≡ true) ↔ P)
    → First (a then unless t (suc n)) (k ++ ((suc n asks P) ∷ []))
first_more {P} k a t n f g = first_then k ((suc n asks P) ∷ []) a (unless t (suc n)) f (λ m. first_one t n (g m))

-- the same for each of 0, .., n - 1
pub first_each : (f : ℕ → ℕ) (g : ℕ → List Demand) (n : ℕ) → ((i : ℕ) → i < n → First (f i) (g i)) → First (each_to f n) (each_demand g n)
unfolding each_to
first_each f g zero h = refl
first_each f g (suc n) h = first_then (each_demand g n) (g n) (each_to f n) (f n) (first_each f g n (λ i l. h i (omega arith))) (λ m. h n (le_refl (suc n)))
