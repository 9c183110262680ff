-- Laws of `top`: the k largest amounts, whose they are, and how code takes them out one at a time.
use Prim.Native.Nat.{ℕ, zero, suc, ◌+◌, ◌-◌, ◌*◌, ◌^◌, ◌≤◌, ◌<◌, zero-le}
use mathlib.Core.Bool.{Bool, true, false, cond}
use mathlib.Core.List.{List, [], ◌∷◌}
use mathlib.Core.Path.{◌≡◌, refl, sym, ap, ◌∙◌, subst}
use mathlib.Core.Logic.{◌⊎◌, inl, inr, ⊎_elim}
use native.Mathlib.Nat.{le_refl, le_trans, le_of_eq, add-le-add, eq-zero-or-pos}
use native.Mathlib.Decide.{ℕ_discrete}
use native.Mathlib.Omega.{arith}
use lib.Dec.{ltb, eqb}
use lib.ListN.{length, set, replicate, length-set, length-replicate}
use lib.Pow.{pow_mono}
use lib.Seq.{get_or-set_same, get_or-set_other}
use borrow.Author.Tests.{ltb-true, ltb-false, lt-ltb, le-ltb, eq-eqb, ne_eqb}
use Rattle.rules_number.specs.Over.{listed}
use Rattle.rules_number.proofs.OverLaws.{last_or_before}
use Rattle.rules_path.specs.Paths.{at, largest, top, total, mask, amount_of, Withheld, Absent}
use Rattle.rules_number.proofs.ListedLaws.{listed_is}
use Rattle.rules_path.proofs.LargestLaws.{struck, kept, struck_le, largest_lt, largest_max, largest_first, top_sum, top_sum_zero, exchange}

-- ---- at most k of the amounts
-- each entry is one of the n amounts, or less, and none stands twice
unfoldable pub Among : List ℕ → ℕ → List Withheld → Type 0
Among w n [] = Unit {0}
Among w n (x ∷ l) = (x.who < n) × (x.amount ≤ at w x.who) × Absent x.who l × Among w n l

pub among_struck : (w : List ℕ) (n p : ℕ) (l : List Withheld) → Absent p l → Among w n l → Among (set w p 0) n l
unfolding Among Absent
among_struck w n p [] a h = tt
among_struck w n p (x ∷ l) a h =
    (h.0, le_trans h.1 (le_of_eq (sym (kept w p x.who a.0))), h.2, among_struck w n p l a.1 h.3)

pub total_le : (k : ℕ) (w : List ℕ) (n : ℕ) (l : List Withheld) → length l ≤ k → Among w n l → total l ≤ top_sum k w n
unfolding Among total
total_le k w n [] s h = zero-le
total_le zero w n (x ∷ l) s h = absurd (omega arith)
total_le (suc k) w n (x ∷ l) s h =
    le_trans (add-le-add h.1 (total_le k (set w x.who 0) n l (omega arith) (among_struck w n x.who l h.2 h.3))) (exchange k w x.who n h.0)

-- the two cases of a step of `top` and `top_sum`
pub data Pick (k : ℕ) (w : List ℕ) (n : ℕ) : Type 0 where
  some : 0 < at w (largest w n) → top (suc k) w n ≡ record { who = largest w n; amount = at w (largest w n) } ∷ top k (set w (largest w n) 0) n → Pick k w n
  none : at w (largest w n) ≡ 0 → top (suc k) w n ≡ [] → Pick k w n

pub pick : (k : ℕ) (w : List ℕ) (n : ℕ) → Pick k w n
unfolding top
pick k w n = go (ltb 0 (at w (largest w n))) refl
  where
    go : (t : Bool) → ltb 0 (at w (largest w n)) ≡ t → Pick k w n
    go true e = some (ltb-true _ _ e) (rw e)
    go false e = none (omega (arith, ltb-false 0 (at w (largest w n)) e)) (rw e)

pub top_total : (k : ℕ) (w : List ℕ) (n : ℕ) → total (top k w n) ≡ top_sum k w n
unfolding total top_sum top
top_total zero w n = refl
top_total (suc k) w n = go (top_total k (set w (largest w n) 0) n) (pick k w n)
  where
    go : total (top k (set w (largest w n) 0) n) ≡ top_sum k (set w (largest w n) 0) n → Pick k w n → total (top (suc k) w n) ≡ top_sum (suc k) w n
    go ih (some a b) = ap total b ∙ ap (λ (z : ℕ). at w (largest w n) + z) ih
    go ih (none a b) = ap total b ∙ sym (top_sum_zero (suc k) w n a)

pub top_short : (k : ℕ) (w : List ℕ) (n : ℕ) → length (top k w n) ≤ k
unfolding top
top_short zero w n = le_refl 0
top_short (suc k) w n = go (top_short k (set w (largest w n) 0) n) (pick k w n)
  where
    go : length (top k (set w (largest w n) 0) n) ≤ k → Pick k w n → length (top (suc k) w n) ≤ suc k
    go ih (some a b) = rw b (omega arith)
    go ih (none a b) = rw b zero-le

-- an amount of 0 isn't on the list
pub top_absent : (k : ℕ) (w : List ℕ) (n p : ℕ) → at w p ≡ 0 → Absent p (top k w n)
unfolding top Absent
top_absent zero w n p z = tt
top_absent (suc k) w n p z = go (top_absent k (set w (largest w n) 0) n p (omega (arith, struck_le w (largest w n) p))) (pick k w n)
  where
    go : Absent p (top k (set w (largest w n) 0) n) → Pick k w n → Absent p (top (suc k) w n)
    go ih (some a b) = rw b ((λ e. let y : at w (largest w n) ≡ at w p = ap (at w) e in omega arith), ih)
    go ih (none a b) = rw b tt

-- ---- who stands on a list
-- portfolio p stands on the list
unfoldable pub On : ℕ → List Withheld → Type 0
On p [] = ⊥
On p (x ∷ l) = (x.who ≡ p) ⊎ On p l

pub on_absent : (p : ℕ) (l : List Withheld) → On p l → Absent p l → ⊥
unfolding On Absent
on_absent p [] o a = o
on_absent p (x ∷ l) (inl e) a = a.0 e
on_absent p (x ∷ l) (inr o) a = on_absent p l o a.1

pub on_or_absent : (p : ℕ) (l : List Withheld) → On p l ⊎ Absent p l
unfolding On Absent
on_or_absent p [] = inr tt
on_or_absent p (x ∷ l) = go (ℕ_discrete x.who p) (on_or_absent p l)
  where
    go : Dec (x.who ≡ p) → On p l ⊎ Absent p l → On p (x ∷ l) ⊎ Absent p (x ∷ l)
    go (yes e) h = inl (inl e)
    go (no e) (inl o) = inl (inr o)
    go (no e) (inr a) = inr (e, a)

-- no portfolio stands twice
unfoldable pub Distinct : List Withheld → Type 0
Distinct [] = Unit {0}
Distinct (x ∷ l) = Absent x.who l × Distinct l

pub top_distinct : (k : ℕ) (w : List ℕ) (n : ℕ) → Distinct (top k w n)
unfolding top Distinct
top_distinct zero w n = tt
top_distinct (suc k) w n = go (top_distinct k (set w (largest w n) 0) n) (pick k w n)
  where
    go : Distinct (top k (set w (largest w n) 0) n) → Pick k w n → Distinct (top (suc k) w n)
    go ih (some a b) = rw b (top_absent k (set w (largest w n) 0) n (largest w n) (struck w (largest w n)), ih)
    go ih (none a b) = rw b tt

-- an amount of 0 isn't named
pub top_above : (k : ℕ) (w : List ℕ) (n p : ℕ) → On p (top k w n) → 0 < at w p
top_above k w n p o = ⊎_elim (λ e. absurd (on_absent p (top k w n) o (top_absent k w n p e))) (λ l. l) (eq-zero-or-pos (at w p))

-- what the list has of a portfolio on it is all of its amount
pub top_amount : (k : ℕ) (w : List ℕ) (n p : ℕ) → On p (top k w n) → amount_of p (top k w n) ≡ at w p
unfolding top On amount_of
top_amount zero w n p o = absurd o
top_amount (suc k) w n p o = go (top_amount k (set w (largest w n) 0) n p) (pick k w n) (ℕ_discrete (largest w n) p)
  where
    go : (On p (top k (set w (largest w n) 0) n) → amount_of p (top k (set w (largest w n) 0) n) ≡ at (set w (largest w n) 0) p) → Pick k w n → Dec (largest w n ≡ p)
        → amount_of p (top (suc k) w n) ≡ at w p
    go ih (none a b) d = absurd (rw b at o)
    go ih (some a b) (yes e) = rw (b, eq-eqb (largest w n) p e) (ap (at w) e)
    go ih (some a b) (no e) =
        rw (b, ne_eqb (largest w n) p e) (⊎_elim (λ q. absurd (e q)) (λ q. ih q ∙ kept w (largest w n) p (λ z. e (sym z))) (rw b at o))

pub off_amount : (p : ℕ) (l : List Withheld) → Absent p l → amount_of p l ≡ 0
unfolding amount_of Absent
off_amount p [] a = refl
off_amount p (x ∷ l) a = rw (ne_eqb x.who p a.0) (off_amount p l a.1)

-- ---- which ones are named
-- q's amount is smaller than p's, or it is the same and q the higher number
abbrev pub After : List ℕ → ℕ → ℕ → Type 0
After w p q = (at w q < at w p) ⊎ ((at w q ≡ at w p) × (p < q))

-- who isn't named comes after each who is
pub top_before : (k : ℕ) (w : List ℕ) (n p q : ℕ) → q < n → On p (top k w n) → Absent q (top k w n) → After w p q
unfolding top On Absent
top_before zero w n p q l o a = absurd o
top_before (suc k) w n p q l o a = go (top_before k (set w (largest w n) 0) n p q l) (pick k w n)
  where
    first : (largest w n ≡ q → ⊥) → largest w n ≡ p → After w p q
    first d e =
        rw (← e)
        (⊎_elim (λ z. inr (z, ⊎_elim (λ y. absurd (d y)) (λ y. y) (last_or_before (largest w n) q (omega (arith, largest_first w n q l z))))) inl
        (last_or_before (at w q) (at w (largest w n)) (omega (arith, largest_max w n q l))))

    later : (largest w n ≡ q → ⊥) → (largest w n ≡ p → ⊥) → After (set w (largest w n) 0) p q → After w p q
    later d e h = rw (kept w (largest w n) q (λ z. d (sym z)), kept w (largest w n) p (λ z. e (sym z))) at h

    struck_off : largest w n ≡ p → Absent p (top k (set w (largest w n) 0) n)
    struck_off e =
        subst (λ (x : ℕ). Absent x (top k (set w (largest w n) 0) n)) e (top_absent k (set w (largest w n) 0) n (largest w n) (struck w (largest w n)))

    go : (On p (top k (set w (largest w n) 0) n) → Absent q (top k (set w (largest w n) 0) n) → After (set w (largest w n) 0) p q) → Pick k w n → After w p q
    go ih (none x y) = absurd (rw y at o)
    go ih (some x y) =
        let b = rw y at a in
        ⊎_elim (first b.0)
        (λ z. later b.0 (λ m. on_absent p (top k (set w (largest w n) 0) n) z (struck_off m)) (ih z b.1)) (rw y at o)

-- where somebody with an amount isn't named, k are
pub top_full : (k : ℕ) (w : List ℕ) (n q : ℕ) → q < n → 0 < at w q → Absent q (top k w n) → length (top k w n) ≡ k
unfolding top Absent
top_full zero w n q l h a = refl
top_full (suc k) w n q l h a = go (top_full k (set w (largest w n) 0) n q l) (pick k w n)
  where
    go : (0 < at (set w (largest w n) 0) q → Absent q (top k (set w (largest w n) 0) n) → length (top k (set w (largest w n) 0) n) ≡ k) → Pick k w n → length (top (suc k) w n) ≡ suc k
    go ih (none x y) = absurd (omega (arith, largest_max w n q l))
    go ih (some x y) =
        let b = rw y at a in
        rw y (ap suc (ih (le_trans h (le_of_eq (sym (kept w (largest w n) q (λ z. b.0 (sym z)))))) b.1))

-- ---- amounts stored by portfolio
-- an array with each amount of the list stored at its portfolio
unfoldable pub stored : List Withheld → List ℕ → List ℕ
stored [] v = v
stored (x ∷ l) v = stored l (set v x.who x.amount)

stored_length : (l : List Withheld) (v : List ℕ) → length (stored l v) ≡ length v
unfolding stored
stored_length [] v = refl
stored_length (x ∷ l) v = stored_length l (set v x.who x.amount) ∙ length-set v x.who x.amount

stored_absent : (l : List Withheld) (v : List ℕ) (q : ℕ) → Absent q l → at (stored l v) q ≡ at v q
unfolding stored Absent
stored_absent [] v q a = refl
stored_absent (x ∷ l) v q a = stored_absent l (set v x.who x.amount) q a.1 ∙ get_or-set_other v x.who q x.amount 0 (λ e. a.0 (sym e))

stored_at : (l : List Withheld) (v : List ℕ) (q : ℕ) → Distinct l → at v q ≡ 0 → q < length v → at (stored l v) q ≡ amount_of q l
unfolding stored Distinct amount_of
stored_at [] v q d z h = z
stored_at (x ∷ l) v q d z h = go (ℕ_discrete x.who q) (stored_at l (set v x.who x.amount) q d.1)
  where
    go : Dec (x.who ≡ q) → (at (set v x.who x.amount) q ≡ 0 → q < length (set v x.who x.amount) → at (stored l (set v x.who x.amount)) q ≡ amount_of q l)
        → at (stored l (set v x.who x.amount)) q ≡ cond (eqb x.who q) x.amount (amount_of q l)
    go (yes e) ih =
        rw (eq-eqb x.who q e) (stored_absent l (set v x.who x.amount) q (rw e at d.0) ∙ rw e (get_or-set_same v q x.amount 0 h))
    go (no e) ih =
        rw (ne_eqb x.who q e) (ih (get_or-set_other v x.who q x.amount 0 (λ y. e (sym y)) ∙ z) (le_trans h (le_of_eq (sym (length-set v x.who x.amount)))))

pub zeros : (m q : ℕ) → at (replicate m 0) q ≡ 0
zeros zero q = refl
zeros (suc m) zero = refl
zeros (suc m) (suc q) = zeros m q

-- stored into zeros, they are the amounts of 0, .., m - 1
pub stored_all : (k : ℕ) (w : List ℕ) (n m : ℕ) → stored (top k w n) (replicate m 0) ≡ listed (λ p. amount_of p (top k w n)) m
stored_all k w n m =
    listed_is 0 (stored (top k w n) (replicate m 0)) (λ p. amount_of p (top k w n)) m (stored_length (top k w n) (replicate m 0) ∙ length-replicate m 0)
    (λ q h. stored_at (top k w n) (replicate m 0) q (top_distinct k w n) (zeros m q) (le_trans h (le_of_eq (sym (length-replicate m 0)))))

-- ---- the largest is taken out, or there is none left
module _ (w : List ℕ) (n p : ℕ) (here : p ≡ largest w n) where
  taken : (k : ℕ) → 0 < k → 0 < at w p → top k w n ≡ record { who = p; amount = at w p } ∷ top (k - 1) (set w p 0) n
  unfolding top
  taken zero h x = absurd (omega arith)
  taken (suc k) h x =
      let e : suc k - 1 ≡ k = omega arith in
      rw (e, here) (rw (lt-ltb 0 (at w (largest w n)) (rw here at x)))

  pub total_taken : (k : ℕ) → 0 < k → 0 < at w p → total (top k w n) ≡ at w p + total (top (k - 1) (set w p 0) n)
  unfolding total
  total_taken k h x = ap total (taken k h x)

  pub mask_taken : (k : ℕ) → 0 < k → 0 < at w p → mask (top k w n) ≡ 2 ^ p + mask (top (k - 1) (set w p 0) n)
  unfolding mask
  mask_taken k h x = ap mask (taken k h x)

  pub stored_taken : (k : ℕ) (v : List ℕ) → 0 < k → 0 < at w p → stored (top k w n) v ≡ stored (top (k - 1) (set w p 0) n) (set v p (at w p))
  unfolding stored
  stored_taken k v h x = ap (λ (l : List Withheld). stored l v) (taken k h x)

  pub stopped : (k : ℕ) → at w p ≡ 0 → top k w n ≡ []
  unfolding top
  stopped zero x = refl
  stopped (suc k) x = rw (le-ltb 0 (at w (largest w n)) (omega (arith, rw here at x)))

-- ---- bounds
either : (t : Bool) (x y : List Withheld) (f : List Withheld → ℕ) (b : ℕ) → f x ≤ b → f y ≤ b → f (cond t x y) ≤ b
either true x y f b h k = h
either false x y f b h k = k

pub total_bound : (b k : ℕ) (w : List ℕ) (n : ℕ) → ((i : ℕ) → at w i ≤ b) → total (top k w n) ≤ k * b
unfolding top total
total_bound b zero w n h = zero-le
total_bound b (suc k) w n h =
    either (ltb 0 (at w (largest w n))) _ _ total (suc k * b)
    (omega (arith, h (largest w n), total_bound b k (set w (largest w n) 0) n (λ i. le_trans (struck_le w (largest w n) i) (h i))))
    zero-le

pub mask_bound : (k : ℕ) (w : List ℕ) → mask (top k w 16) ≤ k * 32768
unfolding top mask
mask_bound zero w = zero-le
mask_bound (suc k) w =
    either (ltb 0 (at w (largest w 16))) _ _ mask (suc k * 32768)
    (omega (arith, pow_mono {i = largest w 16} {j = 15} (omega (arith, largest_lt w 15)), mask_bound k (set w (largest w 16) 0)))
    zero-le
