-- `designation::marked_at`: the mask with the hour's bit.
use mathlib.Core.Bool.{Bool, true, false}
use mathlib.Core.Path.{◌≡◌, ap, ◌∙◌}
use Prim.Native.Nat.{ℕ, min, ◌*◌, ◌%◌, ◌^◌, ◌<◌}
use native.Mathlib.Nat.{one-mul, mod-eq_of_lt}
use native.Mathlib.Omega.{arith}
use lib.Bits.{bit_or}
use lib.Pow.{pow-lt}
use Rattle.rules_designation.specs.Marks.{marked_at}
use Rattle.designation.proofs.marked_at.Goals as goal

one_bit : (p : ℕ) → p < 32 → 1 * 2 ^ p % 4294967296 ≡ 2 ^ p
one_bit p h = ap (λ (z : ℕ). z % 4294967296) (one-mul (2 ^ p)) ∙ mod-eq_of_lt (pow-lt {i = p} {j = 32} h)

marks : (hour m p : ℕ) (test : Bool) → test ≡ true → p ≡ min hour 24 → bit_or m (1 * 2 ^ p % 4294967296) ≡ marked_at hour test m
marks hour m p test t e = rw t (rw (← e) (ap (bit_or m) (one_bit p (omega arith))))

leaves : (hour m : ℕ) (test : Bool) → test ≡ false → m ≡ marked_at hour test m
leaves hour m test t = rw t

pub returns-else-test : goal.returns-else-test
returns-else-test c = leaves c.args.hour c.args.mask c.args.test c.if-test.false

pub returns-then-test : goal.returns-then-test
returns-then-test c =
    marks c.args.hour c.args.mask c.at_most.result c.args.test c.if-test.true c.at_most.ensures
