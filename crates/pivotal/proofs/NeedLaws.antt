-- The sellers that can withhold most, taken one after the other. Assumes nothing.
use mathlib.Core.Bool.{Bool, true, false}
use mathlib.Core.List.{List}
use mathlib.Core.Logic.{⊎_elim}
use mathlib.Core.Path.{◌≡◌, refl, sym, ap, ◌∙◌}
use Prim.Native.Nat.{ℕ, zero, suc, ◌+◌, ◌*◌, ◌≤◌, ◌<◌, zero-le, max}
use native.Mathlib.Nat.{le_refl, le_trans, le_of_eq, add_assoc}
use native.Mathlib.Numerals.{add-one}
use native.Mathlib.Omega.{arith}
use borrow.Author.Tests.{le-leb, lt-leb}
use lib.Dec.{leb}
use lib.ListN.{set, get_or-eq_default}
use Rattle.rules_number.proofs.OverLaws.{never, last_or_before, le_or_lt, listed_at, listed_length}
use Rattle.rules_number.specs.Over.{listed}
use Rattle.rules_path.specs.Paths.{at, largest, top, total}
use Rattle.rules_path.proofs.LargestLaws.{struck_le, top_sum}
use Rattle.rules_path.proofs.TopLaws.{top_total}
use Rattle.rules_pivotal.specs.Pivotals.{first_to, most_to}
use Rattle.rules_pivotal.proofs.FloorLaws.{first_most, first_le, first_holds}
use Rattle.pivotal.specs.Rows.{Held, lack_at, offer_at, offers_at, need_at, floor_on}

-- what is left of 16 amounts when the k largest are struck out
unfoldable pub left_then : ℕ → List ℕ → List ℕ
left_then zero w = w
left_then (suc k) w = left_then k (set w (largest w 16) 0)

pub left_next : (k : ℕ) (w : List ℕ) → set (left_then k w) (largest (left_then k w) 16) 0 ≡ left_then (suc k) w
unfolding left_then
left_next zero w = refl
left_next (suc k) w = left_next k (set w (largest w 16) 0)

pub sum_next : (k : ℕ) (w : List ℕ) → top_sum k w 16 + at (left_then k w) (largest (left_then k w) 16) ≡ top_sum (suc k) w 16
unfolding left_then top_sum
sum_next zero w = omega arith
sum_next (suc k) w = add_assoc (at w (largest w 16)) (top_sum k (set w (largest w 16) 0) 16) _ ∙ ap (λ (x : ℕ). at w (largest w 16) + x) (sum_next k (set w (largest w 16) 0))

pub left_le : (k : ℕ) (w : List ℕ) (i : ℕ) → at (left_then k w) i ≤ at w i
unfolding left_then
left_le zero w i = le_refl (at w i)
left_le (suc k) w i = le_trans (left_le k (set w (largest w 16) 0) i) (struck_le w (largest w 16) i)

-- ---- the first of which a test holds, as a loop finds it
module _ (f : ℕ → Bool) (n k : ℕ) (none : (j : ℕ) → j < k → f j ≡ false) where
  not_before : k ≤ n → first_to f n < k → ⊥
  not_before l h = let e = first_holds f n (omega arith) in let z : ◌≡◌ {A = ℕ} 0 1 = never (sym (none (first_to f n) h) ∙ e) in omega arith

  pub first_here : k < n → f k ≡ true → k ≡ first_to f n
  first_here l e = ⊎_elim (λ h. omega (arith, first_le f n k e)) (λ h. absurd (not_before (omega arith) h)) (le_or_lt k (first_to f n))

  pub first_none : k ≡ n → k ≡ first_to f n
  first_none e = ⊎_elim (λ h. omega (arith, first_most f n)) (λ h. absurd (not_before (omega arith) h)) (le_or_lt k (first_to f n))

-- a loop's state after k of 16: the sum, what is left, and that no fewer were enough
pub record Taken (rows : List ℕ) (c k sum : ℕ) (offers : List ℕ) : Type 0 where
  pub left : offers ≡ left_then k (offers_at rows c)
  pub summed : sum ≡ top_sum k (offers_at rows c) 16
  pub few : (j : ℕ) → j < k → leb (lack_at rows c) (total (top j (offers_at rows c) 16)) ≡ false

module _ (rows : List ℕ) (c : ℕ) where
  test : ℕ → Bool
  test k = leb (lack_at rows c) (total (top k (offers_at rows c) 16))

  pub taken_none : Taken rows c 0 0 (offers_at rows c)
  unfolding left_then top_sum
  taken_none = record { left = refl; summed = refl; few = λ j l. absurd (omega arith) }

  module _ (k sum : ℕ) (offers : List ℕ) (t : Taken rows c k sum offers) where
    is_sum : sum ≡ total (top k (offers_at rows c) 16)
    is_sum = t.summed ∙ sym (top_total k (offers_at rows c) 16)

    pub taken_more : (p : ℕ) → p ≡ largest offers 16 → sum < lack_at rows c → Taken rows c (k + 1) (sum + at offers p) (set offers p 0)
    taken_more p e l = rw (add-one k) (record {
      left = rw (e, t.left) (left_next k (offers_at rows c));
      summed = rw (e, t.summed, t.left) (sum_next k (offers_at rows c));
      few = λ j h. ⊎_elim (λ x. rw x (lt-leb (lack_at rows c) (total (top k (offers_at rows c) 16)) (omega (arith, is_sum)))) (λ x. t.few j x) (last_or_before j k h);
    })

    pub need_here : k < 16 → lack_at rows c ≤ sum → k ≡ need_at rows c
    unfolding need_at test
    need_here l h = first_here test 16 k t.few l (le-leb (lack_at rows c) (total (top k (offers_at rows c) 16)) (omega (arith, is_sum)))

    pub need_last : k ≡ 16 → k ≡ need_at rows c
    unfolding need_at test
    need_last e = first_none test 16 k t.few e

    -- no amount is above one of the offers
    pub taken_le : (b : ℕ) → ((i : ℕ) → at (offers_at rows c) i ≤ b) → (p : ℕ) → at offers p ≤ b
    taken_le b h p = rw t.left (le_trans (left_le k (offers_at rows c) p) (h p))

-- ---- the largest of the needs
pub floor_next : (rows : List ℕ) (n floor need : ℕ) → floor ≡ floor_on rows n → need ≡ need_at rows n → (r : ℕ) → r ≡ max floor need → r ≡ floor_on rows (n + 1)
unfolding floor_on most_to
floor_next rows n floor need e f r z = rw (add-one n) (omega arith)

-- ---- no offer is above the limit of the rows
pub offers_held : (rows : List ℕ) (c : ℕ) → Held rows → (i : ℕ) → at (offers_at rows c) i ≤ 64000000000001
unfolding offers_at
offers_held rows c h i =
    ⊎_elim (λ l. le_trans (le_of_eq (get_or-eq_default (listed (offer_at rows c) 16) 0 (omega (arith, listed_length (offer_at rows c) 16)))) zero-le)
    (λ l. le_trans (le_of_eq (listed_at (offer_at rows c) 0 16 i l)) (h (17 * c + 1 + i))) (le_or_lt 16 i)
