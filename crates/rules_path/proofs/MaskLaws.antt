-- The portfolios on a list as bits of one number.
use Prim.Native.Nat.{ℕ, suc}
use mathlib.Core.List.{List, [], ◌∷◌}
use mathlib.Core.Path.{◌≡◌, refl, sym, ap, ◌∙◌}
use mathlib.Core.Logic.{inl, inr, ⊎_elim, ◌↔◌}
use native.Mathlib.Decide.{ℕ_discrete}
use native.Mathlib.Omega.{arith}
use lib.Count.{ones}
use lib.ListN.{length}
use Rattle.rules_path.specs.Paths.{Withheld, Absent, mask}
use Rattle.rules_path.specs.Verdicts.{bit}
use Rattle.rules_path.proofs.BitLaws.{add_bit_same, add_bit_other, add_bit_ones, bit_zero}
use Rattle.rules_path.proofs.TopLaws.{On, Distinct}

pub mask_absent : (p : ℕ) (l : List Withheld) → Distinct l → Absent p l → bit p (mask l) ≡ 0
unfolding mask Distinct Absent
mask_absent p [] d a = bit_zero p
mask_absent p (x ∷ l) d a = add_bit_other p x.who (mask l) (mask_absent x.who l d.1 d.0) (λ e. a.0 (sym e)) ∙ mask_absent p l d.1 a.1

pub mask_on : (p : ℕ) (l : List Withheld) → Distinct l → On p l ↔ (bit p (mask l) ≡ 1)
unfolding mask Distinct On
mask_on p [] d = ((λ h. absurd h), λ e. absurd (omega (arith, bit_zero p)))
mask_on p (x ∷ l) d = go (ℕ_discrete p x.who) (mask_on p l d.1)
  where
    off : bit x.who (mask l) ≡ 0
    off = mask_absent x.who l d.1 d.0

    go : Dec (p ≡ x.who) → On p l ↔ (bit p (mask l) ≡ 1) → On p (x ∷ l) ↔ (bit p (mask (x ∷ l)) ≡ 1)
    go (yes e) ih = ((λ h. rw e (add_bit_same x.who (mask l) off)), λ b. inl (sym e))
    go (no e) ih = (
      ⊎_elim (λ q. absurd (e (sym q))) (λ o. add_bit_other p x.who (mask l) off e ∙ ih.0 o),
      λ b. inr (ih.1 (sym (add_bit_other p x.who (mask l) off e) ∙ b)),
    )

pub mask_ones : (l : List Withheld) → Distinct l → ones (mask l) ≡ length l
unfolding mask Distinct ones lib.Count.ones_in
mask_ones [] d = refl
mask_ones (x ∷ l) d = add_bit_ones x.who (mask l) (mask_absent x.who l d.1 d.0) ∙ ap suc (mask_ones l d.1)
