-- Tests against 0 on ℤ, as flags and as orders; tests of room.
use mathlib.Core.Bool.{Bool, true, false}
use mathlib.Core.Logic.{◌↔◌, ⊎_elim}
use mathlib.Core.Path.{◌≡◌, refl, sym, subst, ◌∙◌}
use Prim.Native.Nat.{ℕ, ◌+◌, ◌-◌, ◌≤◌, ◌<◌}
use native.Mathlib.Omega.{arith}
use borrow.Author.Tests.{le-leb, lt-leb, le-ltb, leb-true, lt-ltb, leb-false}
use lib.Dec.{T, leb}
use lib.IntN.{ℤ, pos, negsuc}
use lib.Signed.{le_z, lt_z, ◌≤ℤ◌, ◌<ℤ◌}
use Rattle.rules_number.proofs.Kit.{var, lit, le_by, lt_false}
use Rattle.rules_number.proofs.OverLaws.{never, le_or_lt}

pub is_true : (t : Bool) → T t → t ≡ true
is_true true x = refl
is_true false x = absurd x

pub above : (x : ℤ) → le_z x (pos 0) ≡ false → lt_z (pos 0) x ≡ true
above (pos n) e = lt-ltb 0 n (leb-false n 0 e)
above (negsuc n) e = never (sym e)

pub not_above : (x : ℤ) → le_z x (pos 0) ≡ true → lt_z (pos 0) x ≡ false
not_above (pos n) e = le-ltb 0 n (leb-true n 0 e)
not_above (negsuc n) e = refl

pub above_exactly : (x : ℤ) → (lt_z (pos 0) x ≡ true) ↔ (pos 0 <ℤ x)
above_exactly x = ((λ e. record { lt = subst T (sym e) tt }), λ h. is_true (lt_z (pos 0) x) h.lt)

pub not_above_exactly : (x : ℤ) → (lt_z (pos 0) x ≡ false) ↔ (x ≤ℤ pos 0)
not_above_exactly x = (
  (λ e. le_by (var x) (lit 0) (omega (arith, lt_false (pos 0) x e))),
  λ h. not_above x (is_true (le_z x (pos 0)) h.le),
)

-- ---- where a text fits, and where not
pub room_none : (length at width : ℕ) → length < width → false ≡ leb (at + width) length
room_none length at width h = sym (lt-leb (at + width) length (omega arith))

pub room_some : (length at width : ℕ) → width ≤ length → leb at (length - width) ≡ leb (at + width) length
room_some length at width h =
    ⊎_elim (λ k. le-leb at (length - width) (omega arith) ∙ sym (le-leb (at + width) length k)) (λ k. lt-leb at (length - width) (omega arith) ∙ sym (lt-leb (at + width) length k))
    (le_or_lt (at + width) length)
