-- What a check hands back: the curve that was read, or "its number alone". Assumes nothing.
use mathlib.Core.List.{List, [], ◌∷◌, map}
use mathlib.Core.Path.{◌≡◌, refl, sym, ap, ◌∙◌}
use Prim.Native.Nat.{ℕ, zero, suc, ◌≤◌, ◌<◌}
use native.Mathlib.Omega.{arith}
use lib.IntN.{ℤ, pos}
use lib.ListN.{replicate, length, take}
use Rattle.rules_number.specs.Order.{nat_of}
use Rattle.rules_number.specs.Over.{padded}
use Rattle.rules_curve.specs.Conditions.{edge}
use Rattle.rules_curve.specs.Curves.{most_steps, raw_steps, steps_of, step_of, end_of, blank_curve, curve_of, unless_refused, no_pack, pack_unless, checked_curve, checked_default, curve_refusal, default_refusal}
use Rattle.rules_curve.specs.declared.Curve.{Curve}
use Rattle.rules_curve.specs.declared.RawStep.{RawStep}
use Rattle.rules_curve.specs.declared.RawCurve.{RawCurve}
use Rattle.rules_curve.proofs.CheckLaws.{with_used}

-- the curve of nothing: start 0 and no steps
pub blank_is : blank_curve ≡ record { start = 0; count = 0; steps = replicate most_steps (record { end = 0; price = pos 0 }) }
unfolding blank_curve padded
blank_is = refl

pub refused_alone : (n : ℕ) (c : Curve) → 0 < n → unless_refused n c ≡ blank_curve
refused_alone zero c h = absurd (omega arith)
refused_alone (suc n) c h = refl

pub accepted_whole : (most : ℕ) (low top : ℤ) (c : RawCurve) → curve_refusal most low top c ≡ 0 → checked_curve most low top c ≡ curve_of c
accepted_whole most low top c e = ap (λ (n : ℕ). unless_refused n (curve_of c)) e

-- its start and its steps are those that were read
pub same_start : (c : RawCurve) → (curve_of c).start ≡ nat_of c.start
unfolding curve_of
same_start c = refl

pub same_steps : (c : RawCurve) → steps_of (curve_of c) ≡ map step_of (raw_steps c)
unfolding curve_of
same_steps c = with_used (nat_of c.start) (map step_of (raw_steps c))

-- and it ends at the last edge that was read
end_in_lem : (p : ℤ) (n : ℕ) (l : List RawStep) → n ≤ length l → end_of (nat_of p) (map step_of (take n l)) ≡ nat_of (edge (record { start = p; count = n; steps = l }) n)
end_in_lem p zero l h = refl
end_in_lem p (suc n) [] h = absurd (omega arith)
end_in_lem p (suc zero) (s ∷ l) h = refl
end_in_lem p (suc (suc n)) (s ∷ l) h = end_in_lem s.end (suc n) l (omega arith)

pub raw_end : (c : RawCurve) → c.count ≤ length c.steps → end_of (curve_of c).start (steps_of (curve_of c)) ≡ nat_of (edge c c.count)
raw_end c h = rw (same_start c, same_steps c) (end_in_lem c.start c.count c.steps h)

-- ---- a default curve that is made for a pack: what a refusal leaves of it has no step, which is 1
pub packed_alone : (n : ℕ) (c : RawCurve) → 0 < n → pack_unless n c ≡ no_pack
packed_alone zero c h = absurd (omega arith)
packed_alone (suc n) c h = refl

no_pack_lem : default_refusal no_pack ≡ 1
unfolding no_pack curve_refusal
no_pack_lem = refl

pub packed_taken : (n : ℕ) (c : RawCurve) → default_refusal (pack_unless n c) ≡ 0 → n ≡ 0
packed_taken zero c e = refl
packed_taken (suc n) c e = let z = sym no_pack_lem ∙ e in absurd (omega arith)

pub packed_checked : (n : ℕ) (c : RawCurve) → (n ≡ 0 → default_refusal c ≡ 0) → checked_default (pack_unless n c) ≡ unless_refused n (curve_of c)
packed_checked zero c passes = ap (λ (k : ℕ). unless_refused k (curve_of c)) (passes refl)
packed_checked (suc n) c passes = ap (λ (k : ℕ). unless_refused k (curve_of no_pack)) no_pack_lem
