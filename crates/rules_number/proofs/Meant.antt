-- What the machine computes, beside the integer that it stands for and a bound on it.
-- A `Meant` follows an expression of the code: `code` reads i64 locals back from their bits, `means` is the integer, `size` bounds it.
-- `fits d tt` answers the overflow need of the expression's last operation, and `d.same` gives the value.
-- All are abbreviations, so that the parts compute: an answer names a subexpression by a function into `Meant`, with no long type. Assumes nothing.
use mathlib.Core.Path.{◌≡◌, refl, sym, ap, ap₂, ◌∙◌, subst}
use Prim.Native.Nat.{ℕ, ◌+◌, ◌*◌, ◌/◌, ◌^◌, ◌≤◌, ◌<◌}
use native.Mathlib.Nat.{lt_of_le_of_lt}
use lib.Dec.{T, ltb, ltb→lt}
use lib.IntN.{ℤ, pos, nat_abs, ◌+ℤ◌, ◌-ℤ◌, ◌*ℤ◌}
use mir.Syntax.{w64}
use mir.Val.{SFits, to_z}
use mir.ValLaws.{to_z-of_z, to_z_pos}
use Rattle.rules_number.specs.Ceil.{ceil_div}
use Rattle.rules_number.proofs.Kit.{Bd, bd_add, bd_sub, bd_mul, bd_pos, bd_abs, bd_lit, fit, rd}
use Rattle.rules_number.proofs.CeilSize.{bd_ceil}

pub record Meant : Type 0 where
  pub code : ℤ
  pub means : ℤ
  pub size : ℕ
  pub same : code ≡ means
  pub within : Bd size means

pub fits : (d : Meant) → T (ltb d.size (2 ^ 63)) → SFits w64 d.code
fits d t = subst (SFits w64) (sym d.same) (fit d.within t)

-- a value that was stored in a local and is read back
abbrev pub kept : (d : Meant) → T (ltb d.size (2 ^ 63)) → Meant
kept d t = record { code = rd d.code; means = d.means; size = d.size; same = to_z-of_z w64 d.code (fits d t) ∙ d.same; within = d.within }

-- a parameter, or a call's result, of which the range is known
abbrev pub arg : {A : ℕ} {z : ℤ} → SFits w64 z → Bd A z → Meant
arg {A} {z} f b = record { code = rd z; means = z; size = A; same = to_z-of_z w64 z f; within = b }

-- a value with a bound that fits, kept in a local; and a signed local's own bits, as a loop has them
abbrev pub local : (z : ℤ) {A : ℕ} → nat_abs z ≤ A → T (ltb A (2 ^ 63)) → Meant
local z h t = arg (fit (bd_abs {z = z} h) t) (bd_abs {z = z} h)

abbrev pub bits : (n : ℕ) {A : ℕ} → Bd A (to_z w64 n) → Meant
bits n {A} b = record { code = to_z w64 n; means = to_z w64 n; size = A; same = refl; within = b }

-- an unsigned number, cast
abbrev pub cast : {n A : ℕ} → n ≤ A → T (ltb A (2 ^ 63)) → Meant
cast {n} {A} h t = record { code = to_z w64 n; means = pos n; size = A; same = to_z_pos w64 n (lt_of_le_of_lt h (ltb→lt A (2 ^ 63) t)); within = bd_pos h }

abbrev pub const : ℕ → Meant
const k = record { code = pos k; means = pos k; size = k; same = refl; within = bd_lit k }

infixl 6 ◌⊕◌
abbrev pub ◌⊕◌ : Meant → Meant → Meant
d ⊕ k = record { code = d.code +ℤ k.code; means = d.means +ℤ k.means; size = d.size + k.size; same = ap₂ ◌+ℤ◌ d.same k.same; within = bd_add d.within k.within }

infixl 6 ◌⊖◌
abbrev pub ◌⊖◌ : Meant → Meant → Meant
d ⊖ k = record { code = d.code -ℤ k.code; means = d.means -ℤ k.means; size = d.size + k.size; same = ap₂ ◌-ℤ◌ d.same k.same; within = bd_sub d.within k.within }

infixl 7 ◌⊗◌
abbrev pub ◌⊗◌ : Meant → Meant → Meant
d ⊗ k = record { code = d.code *ℤ k.code; means = d.means *ℤ k.means; size = d.size * k.size; same = ap₂ ◌*ℤ◌ d.same k.same; within = bd_mul d.within k.within }

-- the result of `ceil_div`, from what that ensures
abbrev pub ceiled : {r : ℤ} (w : ℕ) → 0 < w → (d : Meant) → r ≡ ceil_div d.code w → Meant
ceiled {r} w h d q = record { code = r; means = ceil_div d.means w; size = d.size / w + 1; same = q ∙ ap (λ (x : ℤ). ceil_div x w) d.same; within = bd_ceil w h d.within }

-- a value whose size is known, as the code reads it
abbrev pub held : {A : ℕ} {z : ℤ} → Bd A z → T (ltb A (2 ^ 63)) → Meant
held b t = arg (fit b t) b

-- a value under a bound of one's own
abbrev pub bounded : (d : Meant) {A : ℕ} → Bd A d.means → Meant
bounded d {A} b = record { code = d.code; means = d.means; size = A; same = d.same; within = b }
