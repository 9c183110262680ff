-- Goals of `noskjerf::noskjerf_told` that the search leaves. Assumes nothing.
use Rattle.std.proofs.Common.{◌≡◌, ◌≤◌, sym, ◌∙◌, arith}
use mir.Syntax.{w64}
use mir.Facts.{to_z_pos}
use Rattle.rules_run.specs.Run.{output, end_of, ran_to}
use Rattle.rules_run.specs.declared.Ran.TheVariants.{Printed}
use Rattle.rules_run.proofs.RunLaws.{count_few}
use Rattle.noskjerf.proofs.ToldLaws.{few_told, no_room, written}
use Rattle.noskjerf.proofs.noskjerf_told.Goals as goal
use Rattle.noskjerf.proofs.noskjerf_told.Goals.{In-Printed}

-- the run's answer
printed : (c : In-Printed) → Printed c.in-Printed.count c.in-Printed.number c.in-Printed.line ≡ ran_to c.args.page.now (output c.args.text.now) (end_of c.args.text.now)
printed c = sym c.in-Printed.is ∙ c.run.ensures.count

-- the count is small
few : (c : In-Printed) → c.in-Printed.count ≤ 655424
few c = count_few c.args.page.now (output c.args.text.now) (end_of c.args.text.now) c.in-Printed.count _ _ (printed c) c.run.ensures.whole

pub returns-then-told-lt-TOLD : goal.returns-then-told-lt-TOLD
returns-then-told-lt-TOLD c =
    let w = few_told c.args.page.now c.args.told.now (output c.args.text.now) (end_of c.args.text.now) c.if-told-lt-TOLD.true in
    record { answer = w.0; page = w.1.0; told = w.1.1 }

pub returns-in_default : goal.returns-in_default
returns-in_default c =
    let w = no_room c.args.page.now c.args.told.now (output c.args.text.now) (end_of c.args.text.now) c.if-told-lt-TOLD.false _ c.run.ensures.buffer (sym c.in_default.is ∙ c.run.ensures.count) in
    record { answer = w.0; page = w.1.0; told = w.1.1 }

pub overflow_cast-result : goal.overflow_cast-result
overflow_cast-result c = record { sfits = omega (arith, few (goal.at.overflow_cast-result c).In-Printed) }

pub returns : goal.returns
returns c =
    let l = (goal.at.returns c).In-Printed in
    let w = written c.args.page.now c.args.told.now (output c.args.text.now) (end_of c.args.text.now) c.if-told-lt-TOLD.false _ c.run.ensures.buffer _ _ _ (printed l) in
    record { answer = to_z_pos w64 {n = c.in-Printed.count} (omega (arith, few l)) ∙ w.0; page = w.1.0; told = w.1.1 }
