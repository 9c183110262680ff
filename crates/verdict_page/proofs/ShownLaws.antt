-- Laws of a verdict's line that is printed from its cells. Assumes nothing.
use Prim.Native.Nat.{ℕ, zero, suc, ◌+◌, ◌*◌, ◌^◌, ◌<◌, zero-le}
use mathlib.Core.Bool.{Bool, true, false, cond, false≢true}
use mathlib.Core.List.{List, [], ◌∷◌}
use borrow.Author.Tests.{le-leb}
use mathlib.Core.Path.{◌≡◌, refl, sym, ap, ◌∙◌}
use native.Mathlib.Omega.{arith}
use lib.IntN.{ℤ, pos, negsuc}
use lib.Signed.{mag}
use Rattle.rules_number.specs.Order.{max_z, nat_of}
use Rattle.rules_path.specs.Verdicts.{finding_number}
use Rattle.rules_path.specs.declared.Finding.{Finding}
use Rattle.rules_path.specs.declared.Finding.TheVariants.{Competitive, NonCompetitive, NotBinding}
use Rattle.rules_page.specs.Pages.{printable, unless_not_binding, shown, verdict_row}
use Rattle.rules_library.specs.Slices.{cell_at}
use Rattle.rules_state.specs.Layout.{verdict_width}
use Rattle.rules_state.specs.Verdicts.{finding_by, verdict_in}
use Rattle.verdict_page.specs.Shown.{is_judged, shown_whole}

-- a finding that is neither 0 nor 1
pub not_binding_lem : (z : ℤ) → (z ≡ pos 0 → ⊥) → (z ≡ pos 1 → ⊥) → false ≡ is_judged z
not_binding_lem (pos zero) h k = absurd (h refl)
not_binding_lem (pos (suc zero)) h k = absurd (k refl)
not_binding_lem (pos (suc (suc n))) h k = refl
not_binding_lem (negsuc n) h k = refl

-- what is shown of a constraint that binds, and of another
pub judged_number : (z : ℤ) → is_judged z ≡ true → z ≡ pos (finding_number (finding_by z))
judged_number (pos zero) e = refl
judged_number (pos (suc zero)) e = refl
judged_number (pos (suc (suc n))) e = absurd (false≢true e)
judged_number (negsuc n) e = absurd (false≢true e)

judged_shown : (z : ℤ) (n : ℕ) → is_judged z ≡ true → n ≡ shown_whole (finding_by z) n
judged_shown (pos zero) n e = refl
judged_shown (pos (suc zero)) n e = refl
judged_shown (pos (suc (suc k))) n e = absurd (false≢true e)
judged_shown (negsuc k) n e = absurd (false≢true e)

pub other_number : (z : ℤ) → is_judged z ≡ false → 2 ≡ finding_number (finding_by z)
other_number (pos zero) e = absurd (false≢true (sym e))
other_number (pos (suc zero)) e = absurd (false≢true (sym e))
other_number (pos (suc (suc n))) e = refl
other_number (negsuc n) e = refl

other_shown : (z : ℤ) (n : ℕ) → is_judged z ≡ false → 0 ≡ shown_whole (finding_by z) n
other_shown (pos zero) n e = absurd (false≢true (sym e))
other_shown (pos (suc zero)) n e = absurd (false≢true (sym e))
other_shown (pos (suc (suc k))) n e = refl
other_shown (negsuc k) n e = refl

-- a number, or 0 for a negative one
at_least_zero : (z : ℤ) → max_z (pos 0) z ≡ pos (nat_of z)
at_least_zero (pos n) = ap (λ (b : Bool). cond b (pos n) (pos 0)) (le-leb 0 n zero-le)
at_least_zero (negsuc n) = refl

-- as a cell is shown
pub judged_cell : (z x : ℤ) → is_judged z ≡ true → max_z (pos 0) x ≡ pos (shown_whole (finding_by z) (nat_of x))
judged_cell z x e = at_least_zero x ∙ ap pos (judged_shown z (nat_of x) e)

pub other_cell : (z x : ℤ) → is_judged z ≡ false → pos 0 ≡ pos (shown_whole (finding_by z) (nat_of x))
other_cell z x e = ap pos (other_shown z (nat_of x) e)

-- five values
pub row_same : {a b c d e a' b' c' d' e' : ℤ} → a ≡ a' → b ≡ b' → c ≡ c' → d ≡ d' → e ≡ e' → a ∷ b ∷ c ∷ d ∷ e ∷ [] ≡ a' ∷ b' ∷ c' ∷ d' ∷ e' ∷ []
row_same p q r s t = rw (p, q, r, s, t) refl

-- a number of 63 bits is printed as it is
pub cell_printable : (z : ℤ) → mag z < 2 ^ 63 → printable (nat_of z) ≡ nat_of z
cell_printable (pos n) h = omega arith
cell_printable (negsuc n) h = refl

-- ---- the line of a verdict
row_of_lem : (f : Finding) (d k n : ℕ) (w : List ℕ) → printable d ≡ d → printable k ≡ k
    → verdict_row (unless_not_binding f (record { finding = f; demand = d; left = k; named = n; withheld = w })) ≡ pos (finding_number f) ∷ pos (shown_whole f d) ∷ pos (shown_whole f k) ∷ []
row_of_lem Competitive d k n w g h = rw (g, h)
row_of_lem NonCompetitive d k n w g h = rw (g, h)
row_of_lem NotBinding d k n w g h = refl

-- of constraint c
module _ (l : List ℤ) (c : ℕ) where
  abbrev finding : Finding
  finding = finding_by (cell_at l (verdict_width * c))

  pub verdict_row_lem : mag (cell_at l (verdict_width * c + 1)) < 2 ^ 63 → mag (cell_at l (verdict_width * c + 2)) < 2 ^ 63
      → verdict_row (shown (verdict_in l c))
      ≡ pos (finding_number finding) ∷ pos (shown_whole finding (nat_of (cell_at l (verdict_width * c + 1)))) ∷ pos (shown_whole finding (nat_of (cell_at l (verdict_width * c + 2)))) ∷ []
  unfolding shown verdict_in
  verdict_row_lem g h = row_of_lem finding _ _ _ _ (cell_printable (cell_at l (verdict_width * c + 1)) g) (cell_printable (cell_at l (verdict_width * c + 2)) h)
