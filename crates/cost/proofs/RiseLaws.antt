-- Quantities that rise from above -1, of which the last is at most 1,000,000: each is in range. Assumes nothing.
use mathlib.Core.Bool.{Bool, true, false, ◌&&◌}
use mathlib.Core.Logic.{⊎_elim}
use mathlib.Core.Path.{◌≡◌, refl, sym, ap, ap₂, ◌∙◌}
use Prim.Native.Nat.{ℕ, zero, suc, ◌≤◌, ◌<◌}
use native.Mathlib.Omega.{arith}
use lib.IntN.{pos}
use lib.Signed.{le_z, lt_z}
use Rattle.rules_number.specs.Order.{in_range}
use Rattle.rules_number.specs.Over.{all_to}
use Rattle.rules_number.proofs.Kit.{le_true, lt_true, true_le}
use Rattle.rules_number.proofs.OverLaws.{last_or_before, all_at, all_of, all_fails}
use Rattle.rules_cost.specs.Costs.{mw_at, mw_in_range, mw_suits, mw_good}
use Rattle.rules_cost.proofs.RangeLaws.{mw_before, suits_is}
use Rattle.rules_cost.specs.declared.Costs.{Costs}

and_no : (a : Bool) → (a && false) ≡ false
and_no true = refl
and_no false = refl

module _ (c : Costs) where
  -- point i lies above the one before it
  abbrev pub rises_at : ℕ → Bool
  rises_at i = lt_z (mw_before c i) (mw_at c i)

  pub falls : (n i : ℕ) → i < n → rises_at i ≡ false → all_to (mw_suits c) n ≡ false
  falls n i h e = all_fails (mw_suits c) n i h (suits_is c i ∙ ap (λ (t : Bool). mw_in_range (mw_at c i) && t) e ∙ and_no (mw_in_range (mw_at c i)))

  low : (i : ℕ) → ((j : ℕ) → j ≤ i → rises_at j ≡ true) → le_z (pos 0) (mw_at c i) ≡ true
  unfolding mw_before
  low zero h = true_le (pos 0) (mw_at c 0) (omega (arith, lt_true (mw_before c 0) (mw_at c 0) (h 0 (omega arith))))
  low (suc i) h =
      true_le (pos 0) (mw_at c (suc i)) (omega (arith, lt_true (mw_at c i) (mw_at c (suc i)) (h (suc i) (omega arith)), le_true (pos 0) (mw_at c i) (low i (λ j l. h j (omega arith)))))

  high : (n i : ℕ) → i ≤ n → ((j : ℕ) → j ≤ n → rises_at j ≡ true) → le_z (mw_at c n) (pos 1000000) ≡ true → le_z (mw_at c i) (pos 1000000) ≡ true
  unfolding mw_before
  high zero i l h e = let z : i ≡ 0 = omega arith in rw z e
  high (suc n) i l h e =
      let under = true_le (mw_at c n) (pos 1000000) (omega (arith, lt_true (mw_at c n) (mw_at c (suc n)) (h (suc n) (omega arith)), le_true (mw_at c (suc n)) (pos 1000000) e)) in
      ⊎_elim (λ q. rw q e) (λ k. high n i (omega arith) (λ j m. h j (omega arith)) under) (last_or_before i (suc n) (omega arith))

  all_suit : (n : ℕ) → all_to rises_at (suc n) ≡ true → le_z (mw_at c n) (pos 1000000) ≡ true → all_to (mw_suits c) (suc n) ≡ true
  unfolding in_range
  all_suit n e top =
      let up : (i : ℕ) → i < suc n → rises_at i ≡ true = λ i h. all_at rises_at (suc n) e i h in
      all_of (mw_suits c) (suc n) (λ i h. suits_is c i
      ∙ ap₂ ◌&&◌ (ap₂ ◌&&◌ (low i (λ j l. up j (omega arith))) (high n i (omega arith) (λ j l. up j (omega arith)) top)) (up i h))

  last_out : (n : ℕ) → le_z (mw_at c n) (pos 1000000) ≡ false → all_to (mw_suits c) (suc n) ≡ false
  unfolding in_range
  last_out n e =
      all_fails (mw_suits c) (suc n) n (omega arith) (suits_is c n
      ∙ ap (λ (t : Bool). t && rises_at n) (ap (λ (t : Bool). le_z (pos 0) (mw_at c n) && t) e ∙ and_no (le_z (pos 0) (mw_at c n))))

  pub good_by : (n : ℕ) → n ≡ c.count → all_to rises_at n ≡ true → le_z (mw_before c n) (pos 1000000) ≡ mw_good c
  unfolding mw_good mw_before all_to
  good_by zero z e = ap (λ (k : ℕ). all_to (mw_suits c) k) z
  good_by (suc n) z e = go (le_z (mw_at c n) (pos 1000000)) refl ∙ ap (λ (k : ℕ). all_to (mw_suits c) k) z
    where
      go : (t : Bool) → le_z (mw_at c n) (pos 1000000) ≡ t → t ≡ all_to (mw_suits c) (suc n)
      go true q = sym (all_suit n e q)
      go false q = sym (last_out n q)
