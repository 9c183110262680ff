-- 1 to 3 of both parts, then 23 and 24, exactly (paper 02, 2.9). Assumes nothing.
use mathlib.Core.Bool.{Bool, true, false, ◌&&◌}
use mathlib.Core.List.{[], ◌∷◌}
use mathlib.Core.Logic.{◌↔◌}
use mathlib.Core.Path.{◌≡◌, refl, subst}
use Prim.Native.Nat.{ℕ, zero, suc, ◌+◌, ◌≤◌}
use native.Mathlib.Omega.{arith}
use lib.IntN.{ℤ}
use lib.ListN.{length}
use Rattle.rules_number.specs.Order.{eq_z}
use Rattle.rules_number.proofs.ExactLaws.{le_exactly, and_exactly}
use Rattle.rules_number.proofs.OrderLaws.{eq_z_true, eq_z_same}
use Rattle.rules_curve.specs.Conditions.{edge, Counted, Edged, DefaultPriced}
use Rattle.rules_curve.specs.Curves.{most_steps, count_good, edges_good, prices_good, lowest_default, highest_default, curve_refusal, default_refusal}
use Rattle.rules_curve.specs.Demands.{Demand, ◌asks◌, First, Met}
use Rattle.rules_curve.specs.Refusals.{unless, ◌then◌}
use Rattle.rules_curve.specs.declared.RawCurve.{RawCurve}
use Rattle.rules_curve.proofs.CheckLaws.{then_both}
use Rattle.rules_curve.proofs.Exactly.{count_exactly, edges_exactly, prices_exactly}
use Rattle.rules_curve.proofs.FirstLaws.{exactly, accepted_exactly, first_more}
use Rattle.rules_contract.specs.Conditions.{contract_demands}
use Rattle.rules_contract.specs.ContractUnits.{lowest, meets, few_together, contract_refusal}

-- ---- the lower of the parts' own numbers: 1 of either part, then 2 of either, then 3 of either
abbrev prices_suit : RawCurve → Bool
prices_suit c = prices_good lowest_default highest_default c

in_order : (a b : RawCurve) → contract_refusal a b
    ≡ (unless (count_good most_steps a && count_good most_steps b) 1 then unless (edges_good a && edges_good b) 2 then unless (prices_suit a && prices_suit b) 3
    then unless (meets a b) 23 then unless (few_together a b) 24)
unfolding contract_refusal curve_refusal
in_order a b =
    go (count_good most_steps a) (edges_good a) (prices_suit a) (count_good most_steps b) (edges_good b) (prices_suit b) (unless (meets a b) 23) (unless (few_together a b) 24)
  where
    go : (c e p c' e' p' : Bool) (m n : ℕ) → (lowest (unless c 1 then unless e 2 then unless p 3) (unless c' 1 then unless e' 2 then unless p' 3) then m then n)
        ≡ (unless (c && c') 1 then unless (e && e') 2 then unless (p && p') 3 then m then n)
    go true true true true true true m n = refl
    go true true true true true false m n = refl
    go true true true true false p' m n = refl
    go true true true false e' p' m n = refl
    go true true false true true true m n = refl
    go true true false true true false m n = refl
    go true true false true false p' m n = refl
    go true true false false e' p' m n = refl
    go true false p true true true m n = refl
    go true false p true true false m n = refl
    go true false p true false p' m n = refl
    go true false p false e' p' m n = refl
    go false e p true true true m n = refl
    go false e p true true false m n = refl
    go false e p true false p' m n = refl
    go false e p false e' p' m n = refl

same_exactly : (x y : ℤ) → (eq_z x y ≡ true) ↔ (x ≡ y)
same_exactly x y = (eq_z_true x y, λ e. subst (λ (z : ℤ). eq_z x z ≡ true) e (eq_z_same x))

-- ---- the theorems: a curve holds an array of eleven steps
module _ (a b : RawCurve) (full-a : length a.steps ≡ most_steps) (full-b : length b.steps ≡ most_steps) where
  room : (c : RawCurve) → length c.steps ≡ most_steps → Counted 11 c → c.count ≤ length c.steps
  room c full k = omega (arith, k.at_most)

  abbrev counts : Demand
  counts = 1 asks (Counted 11 a × Counted 11 b)

  abbrev edges : Demand
  edges = 2 asks (Edged a × Edged b)

  abbrev prices : Demand
  prices = 3 asks (DefaultPriced a × DefaultPriced b)

  abbrev meeting : Demand
  meeting = 23 asks (edge a a.count ≡ b.start)

  contract_first : First (contract_refusal a b) (contract_demands a b)
  contract_first =
      rw (in_order a b)
      (first_more (counts ∷ edges ∷ prices ∷ meeting ∷ []) _ (few_together a b) 23
      (first_more (counts ∷ edges ∷ prices ∷ []) _ (meets a b) 22
      (first_more (counts ∷ edges ∷ []) _ (prices_suit a && prices_suit b) 2
      (first_more (counts ∷ []) _ (edges_good a && edges_good b) 1
      (first_more [] 0 (count_good most_steps a && count_good most_steps b) 0 refl (λ m. and_exactly _ _ (count_exactly most_steps a) (count_exactly most_steps b)))
      (λ m. and_exactly _ _ (edges_exactly a (room a full-a m.0.0)) (edges_exactly b (room b full-b m.0.1))))
      (λ m. and_exactly _ _ (prices_exactly a (room a full-a m.0.0) lowest_default highest_default) (prices_exactly b (room b full-b m.0.1) lowest_default highest_default)))
      (λ m. same_exactly (edge a a.count) b.start))
      (λ m. le_exactly (a.count + b.count) most_steps))

  -- the parts are refused with n exactly when n is the number of the first demand that they don't meet: "Each part passes a default curve's checks first. It adds 23 ..;
  -- 24 ..; both after 3."
  pub contract_exactly : (n : ℕ) → (contract_refusal a b ≡ n) ↔ First n (contract_demands a b)
  contract_exactly n = exactly (contract_demands a b) (contract_refusal a b) contract_first n

  pub contract_accepted : (contract_refusal a b ≡ 0) ↔ Met (contract_demands a b)
  contract_accepted = accepted_exactly (contract_demands a b) (contract_refusal a b) contract_first

-- ---- "Each part passes a default curve's checks first"
pub none_lowest : (m n : ℕ) → lowest m n ≡ 0 → (m ≡ 0) × (n ≡ 0)
none_lowest zero n e = (refl, e)
none_lowest (suc m) zero e = absurd (omega arith)
none_lowest (suc m) (suc n) e = absurd (omega arith)

pub parts_pass : (a b : RawCurve) → contract_refusal a b ≡ 0 → (default_refusal a ≡ 0) × (default_refusal b ≡ 0)
unfolding contract_refusal
parts_pass a b e =
    let m = lowest (default_refusal a) (default_refusal b) in
    none_lowest (default_refusal a) (default_refusal b) (then_both m (unless (meets a b) 23) (then_both (m then unless (meets a b) 23) (unless (few_together a b) 24) e).0).0
