-- `text_numbers::late_at` meets its contract. Assumes nothing.
use Rattle.std.proofs.Common.{arith}
use Rattle.rules_text.proofs.LineLaws.{number_ends}
use Rattle.text_numbers.proofs.late_at.Goals as goal

pub overflow_add-result : goal.overflow_add-result
overflow_add-result c = omega (arith, c.well_formed, number_ends c.args.s.now c.args.at _ _ c.in_ok-x.ensures)
