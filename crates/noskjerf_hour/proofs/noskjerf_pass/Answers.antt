-- `noskjerf_hour::noskjerf_pass`: what is answered of the numbers.
use mathlib.Core.Path.{◌∙◌}
use Rattle.rules_number.proofs.Kit.{came}
use Rattle.noskjerf_hour.proofs.noskjerf_pass.Goals as goal

pub returns : goal.returns
returns c =
    let e = c.called.ensures in
    let f = came c.args.parameter c.ranges.parameter.sfits in
    record { answer = came c.called.result c.called.type_inv ∙ rw f at e.answer; state = rw f at e.state; verdicts = rw f at e.verdicts }
