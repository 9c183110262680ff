-- Goals of `noskjerf::noskjerf_run` that the search leaves. Assumes nothing.
use Rattle.std.proofs.Common.{◌≤◌, sym, ap, ◌∙◌, arith}
use mir.Syntax.{w64}
use mir.Facts.{to_z_pos}
use Rattle.rules_run.specs.Run.{output, end_of}
use Rattle.rules_run.proofs.RunLaws.{count_few}
use Rattle.rules_library.specs.Answers.{ran_number}
use Rattle.noskjerf.proofs.noskjerf_run.Goals as goal
use Rattle.noskjerf.proofs.noskjerf_run.Goals.{In-Printed}

-- the count is small
few : (c : In-Printed) → c.in-Printed.count ≤ 655424
few c = count_few c.args.page.now (output c.args.text.now) (end_of c.args.text.now) c.in-Printed.count _ _ (sym c.in-Printed.is ∙ c.run.ensures.count) c.run.ensures.whole

pub overflow_cast-result : goal.overflow_cast-result
overflow_cast-result c = record { sfits = omega (arith, few (goal.at.overflow_cast-result c).In-Printed) }

pub returns-in-Printed : goal.returns-in-Printed
returns-in-Printed c =
    record { page = c.run.ensures.buffer; count = to_z_pos w64 {n = c.in-Printed.count} (omega (arith, few (goal.at.returns-in-Printed c).In-Printed)) ∙ ap ran_number (sym c.in-Printed.is ∙ c.run.ensures.count) }

pub returns-in-TooSmall : goal.returns-in-TooSmall
returns-in-TooSmall c = record { page = c.run.ensures.buffer; count = ap ran_number (sym c.in-TooSmall.is ∙ c.run.ensures.count) }
