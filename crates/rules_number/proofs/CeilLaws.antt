-- `ceil_div` is the one number r with r * w ≥ n > (r - 1) * w. Assumes nothing.
use mathlib.Core.Path.{◌≡◌, sym}
use Prim.Native.Nat.{ℕ, suc, ◌+◌, ◌*◌, ◌≤◌, ◌<◌}
use native.Mathlib.Nat.{lt_of_mul-lt-mul_right}
use native.Mathlib.Omega.{arith}
use lib.IntN.{ℤ, pos, ◌+ℤ◌, ◌-ℤ◌, ◌*ℤ◌}
use lib.Signed.{◌≤ℤ◌, ◌<ℤ◌}
use Rattle.rules_number.specs.Ceil.{ceil_div}
use Rattle.rules_number.proofs.Kit.{P, N, var, lit, add, sub, mul, le_by, lt_by, eq_by, le_from, lt_from}
use Rattle.rules_number.proofs.CeilSize.{ceil_ge, ceil_lt}

-- (x - 1) * w < n ≤ y * w: x ≤ y
squeeze : (x y n : ℤ) (w : ℕ) → ((x -ℤ pos 1) *ℤ pos w) <ℤ n → n ≤ℤ (y *ℤ pos w) → P x + N y < suc (P y + N x)
squeeze x y n w h k =
    lt_of_mul-lt-mul_right w
    (omega (arith, lt_from (mul (sub (var x) (lit 1)) (lit w)) (var n) h, le_from (var n) (mul (var y) (lit w)) k))

pub ceil_unique : (n r : ℤ) (w : ℕ) → 0 < w → n ≤ℤ (r *ℤ pos w) → ((r -ℤ pos 1) *ℤ pos w) <ℤ n → r ≡ ceil_div n w
ceil_unique n r w p h k =
    eq_by (var r) (var (ceil_div n w))
    (omega (arith, squeeze r (ceil_div n w) n w k (ceil_ge n w p), squeeze (ceil_div n w) r n w (ceil_lt n w p) h))

-- a whole number comes out
pub ceil_shift : (a n : ℤ) (w : ℕ) → 0 < w → ceil_div (a *ℤ pos w +ℤ n) w ≡ a +ℤ ceil_div n w
ceil_shift a n w p =
    sym (ceil_unique (a *ℤ pos w +ℤ n) (a +ℤ ceil_div n w) w p
    (le_by (add (mul (var a) (lit w)) (var n)) (mul (add (var a) (var (ceil_div n w))) (lit w))
    (omega (arith, le_from (var n) (mul (var (ceil_div n w)) (lit w)) (ceil_ge n w p))))
    (lt_by (mul (sub (add (var a) (var (ceil_div n w))) (lit 1)) (lit w)) (add (mul (var a) (lit w)) (var n))
    (omega (arith, lt_from (mul (sub (var (ceil_div n w)) (lit 1)) (lit w)) (var n) (ceil_lt n w p)))))
