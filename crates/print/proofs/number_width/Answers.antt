-- Goals of `print::number_width` that the search leaves. Assumes nothing.
use Rattle.std.proofs.Common.{◌≡◌, ℕ, length, sym, ap, ◌∙◌, arith}
use Rattle.std.proofs.Math.IntN.{nat_abs}
use Rattle.rules_number.proofs.Kit.{came}
use Rattle.rules_text.specs.Printing.{digits}
use Rattle.rules_text.proofs.PrintLaws.{digits_few, decimal_minus, decimal_plus}
use Rattle.print.proofs.number_width.Goals as goal
use Rattle.print.proofs.number_width.Goals.{After-digit_count-count}

-- the digits that are counted are those of the number
counted : (c : After-digit_count-count) → c.digit_count-count.result ≡ length (digits 19 (nat_abs c.args.x))
counted c = c.digit_count-count.ensures ∙ ap (λ (j : ℕ). length (digits 19 j)) (c.unsigned_abs.ensures.value ∙ ap nat_abs (came c.args.x c.ranges.x.sfits))

pub overflow_add-result : goal.overflow_add-result
overflow_add-result c = omega (arith, c.digit_count-count.ensures, digits_few 19 c.unsigned_abs.result)

pub returns-then-x-lt0 : goal.returns-then-x-lt0
returns-then-x-lt0 c = omega (arith, ap length (decimal_minus c.args.x (rw (came c.args.x c.ranges.x.sfits) at c.if-x-lt0.true)), counted (goal.at.returns-then-x-lt0 c).After-digit_count-count)

pub returns-else-x-lt0 : goal.returns-else-x-lt0
returns-else-x-lt0 c =
    counted (goal.at.returns-else-x-lt0 c).After-digit_count-count
    ∙ sym (ap length (decimal_plus c.args.x (rw (came c.args.x c.ranges.x.sfits) at c.if-x-lt0.false)))
