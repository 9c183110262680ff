-- The path verdict means what paper 01 says (Path verdict; 39.7.2.2), for any number of resources and portfolios.
use mathlib.Core.Bool.{Bool, true, false, cond}
use mathlib.Core.List.{List}
use mathlib.Core.Logic.{◌⊎◌, ⊎_elim, ◌↔◌}
use mathlib.Core.Path.{◌≡◌, refl, sym, ap, ◌∙◌}
use Prim.Native.Nat.{ℕ, ◌-◌, ◌≤◌, ◌<◌}
use native.Mathlib.Nat.{le_trans, le_of_eq}
use native.Mathlib.Omega.{arith}
use lib.Count.{ones}
use lib.IntN.{pos}
use lib.ListN.{length}
use lib.Signed.{◌≤ℤ◌, ◌<ℤ◌}
use Rattle.rules_number.proofs.OverLaws.{listed_at, never, both, tested}
use Rattle.rules_path.specs.declared.Finding.{Finding}
use Rattle.rules_path.specs.declared.Finding.TheVariants as finding
use Rattle.rules_path.specs.Paths.{Path, binds, supply, withholdable, offers, at, Withheld, total, sellers, named, left, Absent, NetSeller, Possible, is_non_competitive, NonCompetitive}
use Rattle.rules_path.specs.Verdicts.{verdict_of, finding_number, bit}
use Rattle.rules_path.proofs.BitLaws.{bit_zero}
use Rattle.rules_number.proofs.TestLaws.{above_exactly, not_above_exactly}
use Rattle.rules_path.proofs.TopLaws.{On, on_or_absent, off_amount, zeros, top_distinct, top_above, top_amount, top_before, top_full}
use Rattle.rules_path.proofs.MaskLaws.{mask_on, mask_ones}
use Rattle.rules_path.proofs.PathLaws.{offer_of_seller, seller_of_offer, sellers_possible, sellers_few, sellers_most, withheld_le_supply, non_competitive}

-- one choice leaves exactly `left`, and none of at most three leaves less
pub record LeastLeft (d : Path) : Type 0 where
  pub choice : List Withheld
  pub few : length choice ≤ 3
  pub possible : Possible d choice
  pub exactly : left d ≡ supply d - total choice
  pub none_less : (l : List Withheld) → length l ≤ 3 → Possible d l → left d ≤ supply d - total l

-- ---- the finding by the two tests
picked : Bool → Bool → Finding
picked b n = cond b (cond n finding.NonCompetitive finding.Competitive) finding.NotBinding

clash : {f g : Finding} {X : Type 0} → (finding_number f ≡ finding_number g → ⊥) → f ≡ g → X
clash h e = absurd (h (ap finding_number e))

picked_non_competitive : (b n : Bool) → (n ≡ true → b ≡ true) → (picked b n ≡ finding.NonCompetitive) ↔ (n ≡ true)
unfolding picked
picked_non_competitive true true h = ((λ e. refl), λ e. refl)
picked_non_competitive false true h = ((λ e. refl), λ e. never (h refl))
picked_non_competitive true false h = ((λ e. clash (λ z. omega arith) e), λ e. never e)
picked_non_competitive false false h = ((λ e. clash (λ z. omega arith) e), λ e. never e)

picked_competitive : (b n : Bool) → (picked b n ≡ finding.Competitive) ↔ ((b ≡ true) × (n ≡ false))
unfolding picked
picked_competitive true false = ((λ e. (refl, refl)), λ e. refl)
picked_competitive true true = ((λ e. clash (λ z. omega arith) e), λ e. never (sym e.1))
picked_competitive false true = ((λ e. clash (λ z. omega arith) e), λ e. never e.0)
picked_competitive false false = ((λ e. clash (λ z. omega arith) e), λ e. never e.0)

picked_not_binding : (b n : Bool) → (picked b n ≡ finding.NotBinding) ↔ (b ≡ false)
unfolding picked
picked_not_binding false n = ((λ e. refl), λ e. refl)
picked_not_binding true true = ((λ e. clash (λ z. omega arith) e), λ e. never (sym e))
picked_not_binding true false = ((λ e. clash (λ z. omega arith) e), λ e. never (sym e))

finding_is : (d : Path) → (verdict_of d).finding ≡ picked (binds d) (is_non_competitive d)
unfolding verdict_of picked
finding_is d = ⊎_elim (λ e. rw e) (λ e. rw e) (tested (binds d))

module _ (d : Path) where
  -- ---- "Non-competitive: it binds and some set of at most three net sellers, each withholding a whole amount up to that, leaves supply less withheld below demand."
  pub non_competitive_exactly : ((verdict_of d).finding ≡ finding.NonCompetitive) ↔ NonCompetitive d
  unfolding is_non_competitive
  non_competitive_exactly =
      let tests = picked_non_competitive (binds d) (is_non_competitive d) (λ e. (both (binds d) _ e).0) in
      ((λ e. (non_competitive d).0 (tests.0 (sym (finding_is d) ∙ e))), λ h. finding_is d ∙ tests.1 ((non_competitive d).1 h))

  -- ---- "A constraint binds exactly when its shadow price is above 0."
  pub not_binding_exactly : ((verdict_of d).finding ≡ finding.NotBinding) ↔ (d.shadow ≤ℤ pos 0)
  not_binding_exactly =
      let tests = picked_not_binding (binds d) (is_non_competitive d) in (
        (λ e. (not_above_exactly d.shadow).0 (tests.0 (sym (finding_is d) ∙ e))),
        λ h. finding_is d ∙ tests.1 ((not_above_exactly d.shadow).1 h),
      )

  pub competitive_exactly : ((verdict_of d).finding ≡ finding.Competitive) ↔ ((pos 0 <ℤ d.shadow) × (NonCompetitive d → ⊥))
  competitive_exactly =
      let tests = picked_competitive (binds d) (is_non_competitive d) in (
        (λ e.
            let t = tests.0 (sym (finding_is d) ∙ e) in
            ((above_exactly d.shadow).0 t.0, λ h. never (sym t.1 ∙ (non_competitive d).1 h))),
        λ h.
            finding_is d
            ∙ tests.1 ((above_exactly d.shadow).1 h.0, ⊎_elim (λ e. absurd (h.1 ((non_competitive d).0 e))) (λ e. e) (tested (is_non_competitive d))),
      )

  -- ---- "Floor is output that can't be withheld": no choice withholds more than supply
  pub withheld_within_supply : (l : List Withheld) → Possible d l → total l ≤ supply d
  withheld_within_supply = withheld_le_supply d

  -- ---- "left", supply less the three largest such amounts
  pub least_left : LeastLeft d
  unfolding left
  least_left = record {
    choice = sellers d;
    few = sellers_few d;
    possible = sellers_possible d;
    exactly = refl;
    none_less = λ l few h. omega (arith, sellers_most d l few h);
  }

  -- ---- "The sellers named for a constraint are one number, bit p standing for portfolio p, and at most three bits are ones."
  pub ones_are_sellers : ones (named d) ≡ length (sellers d)
  unfolding named sellers
  ones_are_sellers = mask_ones (sellers d) (top_distinct 3 (offers d) d.portfolios)

  pub at_most_three_named : ones (named d) ≤ 3
  at_most_three_named = omega (arith, ones_are_sellers, sellers_few d)

  pub bit_exactly : (p : ℕ) → On p (sellers d) ↔ (bit p (named d) ≡ 1)
  unfolding named sellers
  bit_exactly p = mask_on p (sellers d) (top_distinct 3 (offers d) d.portfolios)

  -- whose bit isn't one isn't on the list
  unnamed : (q : ℕ) → bit q (named d) ≡ 0 → Absent q (sellers d)
  unnamed q z = ⊎_elim (λ o. absurd (omega (arith, (bit_exactly q).0 o))) (λ a. a) (on_or_absent q (sellers d))

  -- ---- "A seller that can withhold 0 isn't named."
  pub named_can_withhold : (p : ℕ) → bit p (named d) ≡ 1 → NetSeller d p × (0 < withholdable d p)
  unfolding sellers
  named_can_withhold p b =
      let o = top_above 3 (offers d) d.portfolios p ((bit_exactly p).1 b) in
      let s = seller_of_offer d p o in
      (s.0, le_trans o s.1)

  -- ---- "the three largest such amounts (ties: lower portfolio number)"
  pub ties_to_lower : (p q : ℕ) → bit p (named d) ≡ 1 → NetSeller d q → bit q (named d) ≡ 0
      → (withholdable d q < withholdable d p) ⊎ ((withholdable d q ≡ withholdable d p) × (p < q))
  unfolding sellers
  ties_to_lower p q b s z =
      rw (offer_of_seller d p (named_can_withhold p b).0, offer_of_seller d q s) at
      (top_before 3 (offers d) d.portfolios p q s.0 ((bit_exactly p).1 b) (unnamed q z))

  pub named_until_three : (q : ℕ) → NetSeller d q → 0 < withholdable d q → bit q (named d) ≡ 0 → ones (named d) ≡ 3
  unfolding sellers
  named_until_three q s h z =
      ones_are_sellers ∙ top_full 3 (offers d) d.portfolios q s.0 (le_trans h (le_of_eq (sym (offer_of_seller d q s)))) (unnamed q z)

  -- ---- what is printed as withheld: all that a seller named can withhold, and nothing of any other
  pub withheld_of_named : (p : ℕ) → p < 16 → bit p (verdict_of d).named ≡ 1 → at (verdict_of d).withheld p ≡ withholdable d p
  unfolding verdict_of sellers
  withheld_of_named p l b = go (binds d) refl
    where
      go : (t : Bool) → binds d ≡ t → at (verdict_of d).withheld p ≡ withholdable d p
      go true e =
          let m : bit p (named d) ≡ 1 = rw e at b in
          rw e
          (listed_at _ 0 16 p l ∙ top_amount 3 (offers d) d.portfolios p ((bit_exactly p).1 m) ∙ offer_of_seller d p (named_can_withhold p m).0)
      go false e = let z : bit p 0 ≡ 1 = rw e at b in absurd (omega (arith, bit_zero p))

  pub withheld_of_others : (p : ℕ) → p < 16 → bit p (verdict_of d).named ≡ 0 → at (verdict_of d).withheld p ≡ 0
  unfolding verdict_of
  withheld_of_others p l z = go (binds d) refl
    where
      go : (t : Bool) → binds d ≡ t → at (verdict_of d).withheld p ≡ 0
      go true e = rw e (listed_at _ 0 16 p l ∙ off_amount p (sellers d) (unnamed p (rw e at z)))
      go false e = rw e (zeros 16 p)
