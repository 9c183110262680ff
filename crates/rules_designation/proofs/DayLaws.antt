-- Refusal 25: what it asks of a day, and what a refused day leaves. Assumes nothing.
use mathlib.Core.Bool.{true, ◌&&◌}
use mathlib.Core.List.{List, [], ◌∷◌}
use mathlib.Core.Logic.{◌↔◌, ⊎_elim}
use mathlib.Core.Path.{◌≡◌, refl}
use Prim.Native.Nat.{ℕ, zero, suc, ◌^◌, ◌≤◌, ◌<◌}
use native.Mathlib.Nat.{le_trans}
use native.Mathlib.Omega.{arith}
use borrow.Author.Tests.{ltb-true, lt-ltb}
use lib.Dec.{ltb}
use lib.Pow.{pow_mono}
use Rattle.rules_number.proofs.ExactLaws.{and_exactly, iff_then}
use Rattle.rules_curve.specs.Demands.{◌asks◌, First}
use Rattle.rules_curve.proofs.FirstLaws.{first_one}
use Rattle.rules_path.specs.Verdicts.{bit}
use Rattle.rules_path.proofs.BitLaws.{bit_past}
use Rattle.rules_mask.specs.Masks.{is_within}
use Rattle.rules_mask.proofs.SetLaws.{within_exactly, bit_two, in_or_not, low_bits}
use Rattle.rules_designation.specs.Meaning.{Above, Fits}
use Rattle.rules_designation.specs.Tallies.{is_later, marks_good, marks_within, day_refusal, with_day, tally_unless, tally_after}
use Rattle.rules_designation.specs.declared.Day.{Day}
use Rattle.rules_designation.specs.declared.Tally.{Tally}

-- a mask has no mark past the 24 hours exactly where it is below 2 ^ 24
below_exactly : (m : ℕ) → (ltb m (2 ^ 24) ≡ true) ↔ ((h : ℕ) → 24 ≤ h → bit h m ≡ 0)
below_exactly m = (
  (λ e h l. bit_past h m (le_trans (ltb-true m (2 ^ 24) e) (pow_mono l))),
  λ each. lt-ltb m (2 ^ 24) (low_bits 24 m each),
)

-- the tests pass exactly where the day fits the accepted days, if the first does where its number is above theirs
module _ (t : Tally) (l : List Day) (d : Day) (later : (is_later t d ≡ true) ↔ Above l d) where
  one : (p : ℕ) → bit p d.noncompetitive ≤ bit p d.bound → bit p d.noncompetitive ≡ 1 → bit p d.bound ≡ 1
  one p k e = omega (arith, bit_two p d.bound)

  most : (p : ℕ) → (bit p d.noncompetitive ≡ 1 → bit p d.bound ≡ 1) → bit p d.noncompetitive ≤ bit p d.bound
  most p k = ⊎_elim (λ e. omega (arith, k e)) (λ e. omega arith) (in_or_not p d.noncompetitive)

  fits_exactly : ((is_later t d && marks_good d) ≡ true) ↔ Fits l d
  unfolding marks_within
  fits_exactly =
      let non = and_exactly (ltb d.noncompetitive (2 ^ 24)) (is_within d.bound d.noncompetitive) (below_exactly d.noncompetitive) (within_exactly d.bound d.noncompetitive) in
      let marks = and_exactly (ltb d.bound (2 ^ 24)) (ltb d.noncompetitive (2 ^ 24) && is_within d.bound d.noncompetitive) (below_exactly d.bound) non in
      iff_then (and_exactly (is_later t d) (marks_good d) later marks)
      (λ h. record { above = h.0; bound_within = h.1.0; non_competitive_within = h.1.1.0; non_competitive_bound = λ p. one p (h.1.1.1 p) })
      (λ f. (f.above, (f.bound_within, (f.non_competitive_within, λ p. most p (f.non_competitive_bound p)))))

  -- "25 [..] the only check"
  pub answered : First (day_refusal t d) ((25 asks Fits l d) ∷ [])
  unfolding day_refusal
  answered = first_one (is_later t d && marks_good d) 24 fits_exactly

-- a refused day leaves the tally as it was, and an accepted one is added
pub refused_leaves : (t : Tally) (d : Day) → 0 < day_refusal t d → tally_after t d ≡ t
unfolding tally_after
refused_leaves t d h = go (day_refusal t d) h
  where
    go : (k : ℕ) → 0 < k → tally_unless k (with_day t d) t ≡ t
    go zero l = absurd (omega arith)
    go (suc k) l = refl

pub accepted_adds : (t : Tally) (d : Day) → day_refusal t d ≡ 0 → tally_after t d ≡ with_day t d
unfolding tally_after
accepted_adds t d e = rw e
