-- Lists of numbers that rise: those of which a test holds rise, and two with the same members are one.
use mathlib.Core.Bool.{Bool, true, false, cond}
use mathlib.Core.List.Memᴰ
use mathlib.Core.List.{List, [], ◌∷◌, ◌++◌, Memᴰ, append-nil}
use mathlib.Core.Logic.{⊎_elim}
use mathlib.Core.Path.{◌≡◌, refl, ap₂}
use Prim.Native.Nat.{ℕ, zero, suc, ◌≤◌, ◌<◌}
use native.Mathlib.Omega.{arith}
use Rattle.rules_number.specs.Over.{those}
use Rattle.rules_number.proofs.OverLaws.{those_iff}
use Rattle.rules_hour.specs.Demand3.{RisingFrom}

-- a member of a rising list lies at its lower bound or above
pub rising_least : (n : ℕ) (l : List ℕ) → RisingFrom n l → (c : ℕ) → Memᴰ c l → n ≤ c
rising_least n [] r c m = absurd (Memᴰ.not-nil m)
rising_least n (x ∷ l) r c m = ⊎_elim (λ e. omega (arith, r.0)) (λ k. omega (arith, r.0, rising_least (suc x) l r.1 c k)) (Memᴰ.cases_cons m)

-- a rising list goes on rising with a number above its members
rising_more : (a : ℕ) (l : List ℕ) (n : ℕ) → RisingFrom a l → a ≤ n → ((c : ℕ) → Memᴰ c l → c < n) → RisingFrom a (l ++ (n ∷ []))
rising_more a [] n r h f = (h, tt)
rising_more a (x ∷ l) n r h f = (r.0, rising_more (suc x) l n r.1 (f x (Memᴰ.head refl)) (λ c m. f c (Memᴰ.tail m)))

-- those of 0, .., n - 1 of which a test holds rise
pub those_rising : (f : ℕ → Bool) (n : ℕ) → RisingFrom 0 (those f n)
unfolding those
those_rising f zero = tt
those_rising f (suc n) = go (f n) (those_rising f n)
  where
    go : (t : Bool) → RisingFrom 0 (those f n) → RisingFrom 0 (those f n ++ cond t (n ∷ []) [])
    go true r = rising_more 0 (those f n) n r (omega arith) (λ c m. ((those_iff f n c).0 m).0)
    go false r = rw (append-nil (those f n)) r

-- two rising lists with the same members are one
pub rising_only : (n : ℕ) (k l : List ℕ) → RisingFrom n k → RisingFrom n l → ((c : ℕ) → Memᴰ c k → Memᴰ c l)
    → ((c : ℕ) → Memᴰ c l → Memᴰ c k) → k ≡ l
rising_only n [] [] r s f g = refl
rising_only n [] (y ∷ l) r s f g = absurd (Memᴰ.not-nil (g y (Memᴰ.head refl)))
rising_only n (x ∷ k) [] r s f g = absurd (Memᴰ.not-nil (f x (Memᴰ.head refl)))
rising_only n (x ∷ k) (y ∷ l) r s f g = ap₂ (λ (a : ℕ) (b : List ℕ). a ∷ b) same (rest (rising_only (suc x) k l r.1))
  where
    below : y ≤ x
    below = ⊎_elim (λ e. omega arith) (λ m. omega (arith, rising_least (suc y) l s.1 x m)) (Memᴰ.cases_cons (f x (Memᴰ.head refl)))

    above : x ≤ y
    above = ⊎_elim (λ e. omega arith) (λ m. omega (arith, rising_least (suc x) k r.1 y m)) (Memᴰ.cases_cons (g y (Memᴰ.head refl)))

    same : x ≡ y
    same = omega (arith, below, above)

    on : (c : ℕ) → Memᴰ c k → Memᴰ c l
    on c m =
        ⊎_elim (λ e. absurd (omega (arith, rising_least (suc x) k r.1 c m, same))) (λ z. z) (Memᴰ.cases_cons (f c (Memᴰ.tail m)))

    back : (c : ℕ) → Memᴰ c l → Memᴰ c k
    back c m =
        ⊎_elim (λ e. absurd (omega (arith, rising_least (suc y) l s.1 c m, same))) (λ z. z) (Memᴰ.cases_cons (g c (Memᴰ.tail m)))

    rest : (RisingFrom (suc x) l → ((c : ℕ) → Memᴰ c k → Memᴰ c l) → ((c : ℕ) → Memᴰ c l → Memᴰ c k) → k ≡ l) → k ≡ l
    rest ih = ih (rw same s.1) on back
