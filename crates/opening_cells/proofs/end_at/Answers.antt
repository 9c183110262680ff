-- `opening_cells::end_at`: at its start where it has no step, else at its last step's end.
use Rattle.std.proofs.Common.{arith, rules, ◌≡◌, ◌∙◌, ◌*◌, ◌-◌}
use Rattle.rules_number.specs.Order.{nat_of}
use Rattle.rules_number.proofs.Kit.{rd}
use Rattle.rules_library.specs.Slices.{cell_at}
use Rattle.opening_cells.proofs.StepLaws.{ends_none, ends_last}
use Rattle.opening_cells.proofs.end_at.Goals as goal

pub returns-then-raw-eq0 : goal.returns-then-raw-eq0
returns-then-raw-eq0 c =
    let f : rd c.args.raw.now.start ≡ c.args.raw.now.start = search rules in
    let e : c.whole.result ≡ nat_of c.args.raw.now.start = rw f at c.whole.ensures in
    e ∙ ends_none c.args.raw.now.start c.args.raw.now.count c.args.raw.now.steps.now (omega arith) c.if-raw-eq0.true

pub returns : goal.returns
returns c =
    let z = cell_at c.args.raw.now.steps.now (2 * (c.args.raw.now.count - 1)) in
    let f : rd z ≡ z = search rules in
    let e : c.whole-2.result ≡ nat_of z = rw f at c.whole-2.ensures in
    e ∙ ends_last c.args.raw.now.start c.args.raw.now.count c.args.raw.now.steps.now (omega arith) (omega arith)
