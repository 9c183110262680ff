-- A refusal of the pack has a number of two digits, and a pack that is taken is checked as it is. Assumes nothing.
use Rattle.std.specs.Prelude.{Err, ⊤}
use mathlib.Core.Path.{◌≡◌, refl, sym, ap, ◌∙◌}
use Prim.Native.Nat.{ℕ, ◌≤◌, ◌<◌}
use native.Mathlib.Omega.{arith}
use Rattle.rules_curve.specs.Curves.{default_refusal, pack_unless}
use Rattle.rules_curve.specs.Refusals.{unless, number_of}
use Rattle.rules_curve.specs.declared.RawCurve.{RawCurve}
use Rattle.rules_curve.proofs.CheckLaws.{then_both}
use Rattle.rules_curve.proofs.RefusalLaws.{told_number}
use Rattle.rules_hydro.specs.Hydros.{hydro_number, limits_good, hydro_curve, hydro_refusal, hydro_pack}
use Rattle.rules_hydro.specs.declared.Hydro.{Hydro}
use Rattle.rules_hydro.specs.declared.HydroRefusal.{HydroRefusal}
use Rattle.rules_hydro.specs.declared.HydroRefusal.TheVariants as why

pub told : (r : HydroRefusal) → (0 < hydro_number {T = ⊤} (Err r)) × (hydro_number {T = ⊤} (Err r) ≤ 99)
told why.OutsideLimits = (omega arith, omega arith)
told (why.Curve r) = told_number r (number_of r) refl

-- whatever an accepted call gives
pub same_number : (r : HydroRefusal) → hydro_number {T = ⊤} (Err r) ≡ hydro_number {T = RawCurve} (Err r)
same_number why.OutsideLimits = refl
same_number (why.Curve r) = refl

pub taken_pack : (x : Hydro) (p : RawCurve) → 0 ≡ hydro_refusal x → p ≡ hydro_pack x → (p ≡ hydro_curve x) × (default_refusal p ≡ 0)
unfolding hydro_refusal
taken_pack x p e f =
    let g : p ≡ hydro_curve x = f ∙ ap (λ (n : ℕ). pack_unless n (hydro_curve x)) (sym e) in
    (g, ap default_refusal g ∙ (then_both (unless (limits_good x) 22) (default_refusal (hydro_curve x)) (sym e)).1)
