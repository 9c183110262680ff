-- Laws of `largest` and of the sum of the k largest.
use Prim.Native.Nat.{ℕ, zero, suc, ◌+◌, ◌≤◌, ◌<◌, zero-le}
use mathlib.Core.Bool.{Bool, true, false}
use mathlib.Core.List.{List, [], ◌∷◌}
use mathlib.Core.Path.{◌≡◌, refl, sym, ap, ◌∙◌}
use mathlib.Core.Logic.{◌⊎◌, inl, inr, ◌≢◌}
use native.Mathlib.Nat.{le_refl, le_trans, le_of_lt}
use native.Mathlib.Decide.{ℕ_discrete}
use native.Mathlib.Omega.{arith}
use native.Mathlib.Numerals.{add-one}
use lib.ListN.{set}
use lib.Seq.{get_or-set_other, set_comm}
use lib.Dec.{ltb}
use borrow.Author.Tests.{ltb-true, ltb-false, lt-ltb, le-ltb}
use Rattle.rules_number.proofs.OverLaws.{last_or_before}
use Rattle.rules_path.specs.Paths.{at, largest}

-- a struck-out amount is 0, the others stay
pub struck : (w : List ℕ) (p : ℕ) → at (set w p 0) p ≡ 0
struck [] p = refl
struck (x ∷ w) zero = refl
struck (x ∷ w) (suc p) = struck w p

pub kept : (w : List ℕ) (p i : ℕ) → i ≢ p → at (set w p 0) i ≡ at w i
kept w p i h = get_or-set_other w p i 0 0 h

pub struck_le : (w : List ℕ) (p i : ℕ) → at (set w p 0) i ≤ at w i
struck_le [] p i = le_refl 0
struck_le (x ∷ w) zero zero = zero-le
struck_le (x ∷ w) zero (suc i) = le_refl (at w i)
struck_le (x ∷ w) (suc p) zero = le_refl x
struck_le (x ∷ w) (suc p) (suc i) = struck_le w p i

-- the two cases of a step of `largest`
data Step (w : List ℕ) (n : ℕ) : Type 0 where
  higher : at w (largest w n) < at w n → largest w (suc n) ≡ n → Step w n
  same : at w n ≤ at w (largest w n) → largest w (suc n) ≡ largest w n → Step w n

step : (w : List ℕ) (n : ℕ) → Step w n
unfolding largest
step w n = go (ltb (at w (largest w n)) (at w n)) refl
  where
    go : (t : Bool) → ltb (at w (largest w n)) (at w n) ≡ t → Step w n
    go true e = higher (ltb-true _ _ e) (rw e)
    go false e = same (ltb-false _ _ e) (rw e)

largest_zero : (w : List ℕ) → largest w 0 ≡ 0
unfolding largest
largest_zero w = refl

-- no amount is above the largest
pub largest_max : (w : List ℕ) (n i : ℕ) → i < n → at w i ≤ at w (largest w n)
largest_max w zero i h = omega arith
largest_max w (suc n) i h = go (λ l. largest_max w n i l) (last_or_before i n h) (step w n)
  where
    go : (i < n → at w i ≤ at w (largest w n)) → (i ≡ n) ⊎ (i < n) → Step w n → at w i ≤ at w (largest w (suc n))
    go low (inl e) (higher a b) = rw (b, e) (le_refl _)
    go low (inl e) (same a b) = rw (b, e) a
    go low (inr l) (higher a b) = rw b (le_trans (low l) (le_of_lt a))
    go low (inr l) (same a b) = rw b (low l)

pub largest_lt : (w : List ℕ) (n : ℕ) → largest w (suc n) < suc n
unfolding largest
largest_lt w zero = go (step w zero)
  where
    go : Step w zero → largest w 1 < 1
    go (higher a b) = omega arith
    go (same a b) = omega arith
largest_lt w (suc n) = go (largest_lt w n) (step w (suc n))
  where
    go : largest w (suc n) < suc n → Step w (suc n) → largest w (suc (suc n)) < suc (suc n)
    go h (higher a b) = rw b (le_refl _)
    go h (same a b) = rw b (omega arith)

pub largest_le : (w : List ℕ) (n : ℕ) → largest w n ≤ n
largest_le w zero = rw (largest_zero w) (le_refl 0)
largest_le w (suc n) = le_of_lt (largest_lt w n)

-- of equal amounts, the largest is the one with the lowest number
pub largest_first : (w : List ℕ) (n i : ℕ) → i < n → at w i ≡ at w (largest w n) → largest w n ≤ i
largest_first w zero i h e = absurd (omega arith)
largest_first w (suc n) i h e = go (largest_first w n i) (last_or_before i n h) (step w n)
  where
    go : (i < n → at w i ≡ at w (largest w n) → largest w n ≤ i) → (i ≡ n) ⊎ (i < n) → Step w n → largest w (suc n) ≤ i
    go ih (inl z) (higher a b) = rw (b, z) (le_refl n)
    go ih (inl z) (same a b) = rw (b, z) (largest_le w n)
    go ih (inr l) (higher a b) =
        let m : at w i ≤ at w (largest w n) = largest_max w n i l in
        let y : at w i ≡ at w n = e ∙ ap (at w) b in
        absurd (omega arith)
    go ih (inr l) (same a b) = rw b (ih l (e ∙ ap (at w) b))

-- a smaller list has a smaller largest amount
max_mono : (w v : List ℕ) → ((i : ℕ) → at v i ≤ at w i) → (n : ℕ) → at v (largest v n) ≤ at w (largest w n)
max_mono w v h zero = rw (largest_zero v, largest_zero w) (h 0)
max_mono w v h (suc n) = go (max_mono w v h n) (step v n) (step w n)
  where
    go : at v (largest v n) ≤ at w (largest w n) → Step v n → Step w n → at v (largest v (suc n)) ≤ at w (largest w (suc n))
    go l (higher a b) (higher c d) = rw (b, d) (h n)
    go l (higher a b) (same c d) = rw (b, d) (le_trans (h n) c)
    go l (same a b) (higher c d) = rw (b, d) (omega arith)
    go l (same a b) (same c d) = rw (b, d) l

-- striking out another amount leaves the largest where it is
pub largest_kept : (w : List ℕ) (p n : ℕ) → largest w n ≢ p → largest (set w p 0) n ≡ largest w n
largest_kept w p zero h = largest_zero _ ∙ sym (largest_zero w)
largest_kept w p (suc n) h = go (largest_kept w p n) (step (set w p 0) n) (step w n)
  where
    go : (largest w n ≢ p → largest (set w p 0) n ≡ largest w n) → Step (set w p 0) n → Step w n → largest (set w p 0) (suc n) ≡ largest w (suc n)
    go ih (higher a b) (higher c d) = cc
    go ih (same a b) (higher c d) =
        let n≢p : n ≢ p = λ e. h (d ∙ e) in
        let k : at (set w p 0) n ≡ at w n = kept w p n n≢p in
        let m : at (set w p 0) (largest (set w p 0) n) ≤ at w (largest w n) = max_mono w (set w p 0) (struck_le w p) n in
        absurd (omega arith)
    go ih (higher a b) (same c d) =
        let b≢p : largest w n ≢ p = λ e. h (d ∙ e) in
        let k : at (set w p 0) (largest (set w p 0) n) ≡ at w (largest w n) = rw (ih b≢p) (kept w p (largest w n) b≢p) in
        let l : at (set w p 0) n ≤ at w n = struck_le w p n in
        absurd (omega arith)
    go ih (same a b) (same c d) = b ∙ ih (λ e. h (d ∙ e)) ∙ sym d

-- the sum of the k largest of the first n amounts
unfoldable pub top_sum : ℕ → List ℕ → ℕ → ℕ
top_sum zero w n = 0
top_sum (suc k) w n = at w (largest w n) + top_sum k (set w (largest w n) 0) n

-- where the largest is 0, so is the sum
pub top_sum_zero : (k : ℕ) (w : List ℕ) (n : ℕ) → at w (largest w n) ≡ 0 → top_sum k w n ≡ 0
unfolding top_sum
top_sum_zero zero w n h = refl
top_sum_zero (suc k) w n h =
    omega (arith, top_sum_zero k (set w (largest w n) 0) n (omega (arith, max_mono w (set w (largest w n) 0) (struck_le w (largest w n)) n)))

-- any one amount and the k largest of the others are at most the k + 1 largest
pub exchange : (k : ℕ) (w : List ℕ) (p n : ℕ) → p < n → at w p + top_sum k (set w p 0) n ≤ top_sum (suc k) w n
unfolding top_sum
exchange k w p n h = go k w h (ℕ_discrete (largest w n) p)
  where
    first : (k : ℕ) (w : List ℕ) → largest w n ≡ p → at w p + top_sum k (set w p 0) n ≤ at w (largest w n) + top_sum k (set w (largest w n) 0) n
    first k w e = rw e (le_refl _)

    go : (k : ℕ) (w : List ℕ) → p < n → Dec (largest w n ≡ p) → at w p + top_sum k (set w p 0) n ≤ top_sum (suc k) w n
    go zero w h (yes e) = first zero w e
    go (suc k) w h (yes e) = first (suc k) w e
    go zero w h (no e) = omega (arith, largest_max w n p h)
    go (suc k) w h (no e) =
        let ih : at (set w (largest w n) 0) p + top_sum k (set (set w (largest w n) 0) p 0) n ≤ top_sum (suc k) (set w (largest w n) 0) n
        = go k (set w (largest w n) 0) h (ℕ_discrete _ p) in
        let a : at (set w (largest w n) 0) p ≡ at w p = kept w (largest w n) p (λ q. e (sym q)) in
        let b : at (set w p 0) (largest w n) ≡ at w (largest w n) = kept w p (largest w n) e in
        let m : largest (set w p 0) n ≡ largest w n = largest_kept w p n e in
        rw (m, b, set_comm w p (largest w n) 0 0 (λ q. e (sym q))) (omega arith)

-- a turn of a scan that keeps the largest so far
pub scan_higher : (w : List ℕ) (b i : ℕ) → b ≡ largest w i → at w b < at w i → i ≡ largest w (i + 1)
unfolding largest
scan_higher w b i e h =
    let t : ltb (at w (largest w i)) (at w i) ≡ true = rw (← e) (lt-ltb _ _ h) in
    rw (add-one, t)

pub scan_same : (w : List ℕ) (b i : ℕ) → b ≡ largest w i → at w i ≤ at w b → b ≡ largest w (i + 1)
unfolding largest
scan_same w b i e h =
    let t : ltb (at w (largest w i)) (at w i) ≡ false = rw (← e) (le-ltb _ _ h) in
    rw (add-one, t) e
