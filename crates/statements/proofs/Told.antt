-- From "n is the number of the first demand that is not met" to what each number says. Assumes nothing.
use mathlib.Core.Bool.{Bool, true, false, cond, ◌&&◌}
use mathlib.Core.List.{List, [], ◌∷◌, ◌++◌}
use mathlib.Core.Logic.{◌⊎◌, inl, inr, ⊎_elim, ◌↔◌}
use mathlib.Core.Path.{◌≡◌, refl, sym, ◌∙◌}
use Prim.Native.Nat.{ℕ, zero, suc, ◌≤◌, ◌<◌}
use native.Mathlib.Omega.{arith}
use borrow.Author.Tests.{eq-eqb, eqb-true, ltb-true, leb-true}
use lib.Dec.{eqb, ltb, leb}
use Rattle.rules_number.proofs.OverLaws.{never, both, le_or_lt}
use Rattle.rules_curve.specs.Demands.{Demand, ◌asks◌, First, Met, each_demand}
use Rattle.rules_curve.proofs.FirstLaws.{none_exactly}

-- one after the other
pub and_so : {P Q R : Type 0} → P ↔ Q → Q ↔ R → P ↔ R
and_so e f = ((λ p. f.0 (e.0 p)), λ r. e.1 (f.1 r))

-- ---- the laws: n is told of demands of which the first is the number k
module _ {P Q : Type 0} (n k : ℕ) (l : List Demand) (same : P ↔ Q) where
  -- of another number: it is met, and n is told of those after it
  pub passed : {R : Type 0} → (n ≡ k → ⊥) → First n l ↔ R → First n ((k asks P) ∷ l) ↔ (Q × R)
  passed {R} other rest = (there, λ x. inl (same.1 x.0, rest.1 x.1))
    where
      there : First n ((k asks P) ∷ l) → Q × R
      there (inl f) = (same.0 f.0, rest.0 f.1)
      there (inr f) = absurd (other f.1)

  -- of the number n, which is told of none after it: it is not met
  pub stopped : n ≡ k → 0 < n → (First n l → ⊥) → First n ((k asks P) ∷ l) ↔ (Q → ⊥)
  stopped e some unsaid = (there, λ x. inr ((λ m. x (same.0 m)), e, some))
    where
      there : First n ((k asks P) ∷ l) → Q → ⊥
      there (inl f) x = unsaid f.1
      there (inr f) x = f.0 (same.1 x)

-- ---- a demand of a place, and what it says in full
pub record Item : Type 1 where
  pub number : ℕ
  pub asked : Type 0
  pub said : Type 0
  pub same : asked ↔ said

infix 6 ◌says◌
abbrev pub ◌says◌ : {P Q : Type 0} → ℕ → P ↔ Q → Item
◌says◌ {P} {Q} n e = record { number = n; asked = P; said = Q; same = e }

abbrev pub demands : List Item → List Demand
demands [] = []
demands (i ∷ l) = (i.number asks i.asked) ∷ demands l

-- the number n: each before its own is met, and its own is not
abbrev pub Says : ℕ → List Item → Type 0
Says n [] = ⊥
Says n (i ∷ l) = cond (eqb n i.number) (i.said → ⊥) (i.said × Says n l)

-- n is above 0, and none has it
abbrev absent : ℕ → List Item → Bool
absent n [] = ltb 0 n
absent n (i ∷ l) = cond (eqb n i.number) false (absent n l)

-- n is above 0, and at most one has it
abbrev pub once : ℕ → List Item → Bool
once n [] = ltb 0 n
once n (i ∷ l) = cond (eqb n i.number) (absent n l) (once n l)

other : (n k : ℕ) → eqb n k ≡ false → n ≡ k → ⊥
other n k f e = never (sym f ∙ eq-eqb n k e)

unsaid : (n : ℕ) (l : List Item) → absent n l ≡ true → (0 < n) × (First n (demands l) → ⊥)
unsaid n [] a = let h = ltb-true 0 n a in (h, λ f. omega arith)
unsaid n (i ∷ l) a = go (eqb n i.number) refl a (unsaid n l)
  where
    go : (t : Bool) → eqb n i.number ≡ t → cond t false (absent n l) ≡ true → (absent n l ≡ true → (0 < n) × (First n (demands l) → ⊥)) → (0 < n) × (First n (demands (i ∷ l)) → ⊥)
    go true e a ih = never a
    go false e a ih = ((ih a).0, λ f. ⊎_elim (λ g. (ih a).1 g.1) (λ g. other n i.number e g.1) f)

number_says : (n : ℕ) (l : List Item) → once n l ≡ true → First n (demands l) ↔ Says n l
number_says n [] a = let h = ltb-true 0 n a in ((λ f. absurd (omega arith)), λ x. absurd x)
number_says n (i ∷ l) a = go (eqb n i.number) refl a (number_says n l)
  where
    go : (t : Bool) → eqb n i.number ≡ t → cond t (absent n l) (once n l) ≡ true → (once n l ≡ true → First n (demands l) ↔ Says n l)
        → First n (demands (i ∷ l)) ↔ cond t (i.said → ⊥) (i.said × Says n l)
    go true e a ih = let u = unsaid n l a in stopped n i.number (demands l) i.same (eqb-true n i.number e) u.0 u.1
    go false e a ih = passed n i.number (demands l) i.same (other n i.number e) (ih a)

-- ---- no number: each is met
abbrev pub All : List Item → Type 0
All [] = Unit {0}
All (i ∷ []) = i.said
All (i ∷ j ∷ l) = i.said × All (j ∷ l)

all_said : (l : List Item) → First 0 (demands l) ↔ All l
all_said l = (there l, back l)
  where
    there : (l : List Item) → First 0 (demands l) → All l
    there [] f = tt
    there (i ∷ []) (inl f) = i.same.0 f.0
    there (i ∷ j ∷ l) (inl f) = (i.same.0 f.0, there (j ∷ l) f.1)
    there (i ∷ []) (inr f) = absurd (omega (arith, f.2))
    there (i ∷ j ∷ l) (inr f) = absurd (omega (arith, f.2))

    back : (l : List Item) → All l → First 0 (demands l)
    back [] x = refl
    back (i ∷ []) x = inl (i.same.1 x, refl)
    back (i ∷ j ∷ l) x = inl (i.same.1 x.0, back (j ∷ l) x.1)

-- ---- no other number
abbrev pub numbered : ℕ → ℕ → List Item → Bool
numbered lo hi [] = true
numbered lo hi (i ∷ l) = (leb lo i.number && leb i.number hi) && numbered lo hi l

within : (lo hi n : ℕ) (l : List Item) → numbered lo hi l ≡ true → First n (demands l) → (n ≡ 0) ⊎ ((lo ≤ n) × (n ≤ hi))
within lo hi n [] a f = inl f
within lo hi n (i ∷ l) a (inl f) = within lo hi n l (both (leb lo i.number && leb i.number hi) (numbered lo hi l) a).1 f.1
within lo hi n (i ∷ l) a (inr f) =
    let r = both (leb lo i.number) (leb i.number hi) (both (leb lo i.number && leb i.number hi) (numbered lo hi l) a).0 in
    let e = f.1 in
    inr (omega (arith, leb-true lo i.number r.0), omega (arith, leb-true i.number hi r.1))

-- ---- of a place whose number r is that of the first demand that is not met
module _ (l : List Item) (r : ℕ) (exactly : (n : ℕ) → (r ≡ n) ↔ First n (demands l)) where
  pub told : (n : ℕ) → once n l ≡ true → (r ≡ n) ↔ Says n l
  told n a = and_so (exactly n) (number_says n l a)

  pub taken : (r ≡ 0) ↔ All l
  taken = and_so (exactly 0) (all_said l)

  pub only : (lo hi : ℕ) → numbered lo hi l ≡ true → (r ≡ 0) ⊎ ((lo ≤ r) × (r ≤ hi))
  only lo hi a = within lo hi r l a ((exactly r).0 refl)

-- ---- demands one after the other
pub parted : (k l : List Demand) (n : ℕ) → First n (k ++ l) ↔ (((0 < n) × First n k) ⊎ (Met k × First n l))
parted k l n = (there k, λ x. ⊎_elim (λ y. early k y.0 y.1) (λ y. late k y.0 y.1) x)
  where
    further : (d : Demand) (k : List Demand) → d.met → ((0 < n) × First n k) ⊎ (Met k × First n l) → ((0 < n) × First n (d ∷ k)) ⊎ (Met (d ∷ k) × First n l)
    further d k m (inl x) = inl (x.0, inl (m, x.1))
    further d k m (inr x) = inr ((m, x.0), x.1)

    there : (k : List Demand) → First n (k ++ l) → ((0 < n) × First n k) ⊎ (Met k × First n l)
    there [] f = inr (tt, f)
    there (d ∷ k) (inl f) = further d k f.0 (there k f.1)
    there (d ∷ k) (inr f) = inl (f.2, inr f)

    early : (k : List Demand) → 0 < n → First n k → First n (k ++ l)
    early [] h f = absurd (omega arith)
    early (d ∷ k) h (inl f) = inl (f.0, early k h f.1)
    early (d ∷ k) h (inr f) = inr f

    late : (k : List Demand) → Met k → First n l → First n (k ++ l)
    late [] m f = f
    late (d ∷ k) m f = inl (m.0, late k m.1 f)

-- f 0, .., f (m - 1) in order, where g i is the number of the first demand of f i that is not met
module _ (f : ℕ → List Demand) (g : ℕ → ℕ) where
  abbrev Each : ℕ → Type 0
  Each m = (i : ℕ) → i < m → (n : ℕ) → (g i ≡ n) ↔ First n (f i)

  fewer : (m : ℕ) → Each (suc m) → Each m
  fewer m h i l = h i (omega arith)

  all_there : (m : ℕ) → Each m → First 0 (each_demand f m) → (i : ℕ) → i < m → g i ≡ 0
  all_there zero h x i l = absurd (omega arith)
  all_there (suc m) h x i l = ⊎_elim
      (λ y. absurd (omega (arith, y.0)))
      (λ y. ⊎_elim (λ k. let e : i ≡ m = omega arith in rw e ((h m (omega arith) 0).1 y.1)) (λ k. all_there m (fewer m h) ((none_exactly (each_demand f m)).1 y.0) i k) (le_or_lt m i))
      ((parted (each_demand f m) (f m) 0).0 x)

  all_back : (m : ℕ) → Each m → ((i : ℕ) → i < m → g i ≡ 0) → First 0 (each_demand f m)
  all_back zero h x = refl
  all_back (suc m) h x =
      (parted (each_demand f m) (f m) 0).1 (inr ((none_exactly (each_demand f m)).0 (all_back m (fewer m h) (λ i l. x i (omega arith))), (h m (omega arith) 0).0 (x m (omega arith))))

  -- no number: none of them has one
  pub each_met : (m : ℕ) → Each m → First 0 (each_demand f m) ↔ ((i : ℕ) → i < m → g i ≡ 0)
  each_met m h = (all_there m h, all_back m h)

  -- the number n: one of them has it, and those before it have none
  module _ (n : ℕ) (some : 0 < n) where
    abbrev One : ℕ → Type 0
    One m = (k : ℕ) × (k < m) × ((j : ℕ) → j < k → g j ≡ 0) × (g k ≡ n)

    one_there : (m : ℕ) → Each m → First n (each_demand f m) → One m
    one_there zero h x = absurd (omega arith)
    one_there (suc m) h x = ⊎_elim
        (λ y. let o = one_there m (fewer m h) y.1 in (o.0, omega (arith, o.1), o.2, o.3))
        (λ y. (m, omega arith, (each_met m (fewer m h)).0 ((none_exactly (each_demand f m)).1 y.0), (h m (omega arith) n).1 y.1))
        ((parted (each_demand f m) (f m) n).0 x)

    one_back : (m : ℕ) → Each m → One m → First n (each_demand f m)
    one_back zero h o = absurd (omega (arith, o.1))
    one_back (suc m) h o = (parted (each_demand f m) (f m) n).1 (⊎_elim
        (λ k. let e : m ≡ o.0 = omega (arith, o.1) in inr ((none_exactly (each_demand f m)).0 ((each_met m (fewer m h)).1 (rw e o.2)), (h m (omega arith) n).0 (rw e o.3)))
        (λ k. inl (some, one_back m (fewer m h) (o.0, k, o.2, o.3)))
        (le_or_lt m o.0))

    pub one_of_each : (m : ℕ) → Each m → First n (each_demand f m) ↔ One m
    one_of_each m h = (one_there m h, one_back m h)
