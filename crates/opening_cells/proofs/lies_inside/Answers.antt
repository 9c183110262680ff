-- `opening_cells::lies_inside`: by its start and its end.
use native.Mathlib.Omega.{arith}
use mathlib.Core.Path.{◌≡◌}
use borrow.Author.Tests.{le-leb, lt-leb}
use Rattle.std.proofs.Common.{rules}
use Rattle.rules_number.specs.Order.{nat_of}
use Rattle.rules_number.proofs.Kit.{rd}
use Rattle.opening_cells.proofs.StepLaws.{start_in}
use Rattle.opening_cells.proofs.lies_inside.Goals as goal

pub returns-then-whole-default : goal.returns-then-whole-default
returns-then-whole-default c =
    let f : rd c.args.raw.now.start ≡ c.args.raw.now.start = search rules in
    let e = rw f at c.whole.ensures in
    rw (start_in c.args.raw.now.start c.args.raw.now.count c.args.raw.now.steps.now (omega arith), lt-leb c.args.default.start (nat_of c.args.raw.now.start) (rw e at c.if-whole-default.true))

pub returns : goal.returns
returns c =
    let f : rd c.args.raw.now.start ≡ c.args.raw.now.start = search rules in
    let e = rw f at c.whole.ensures in
    let g = start_in c.args.raw.now.start c.args.raw.now.count c.args.raw.now.steps.now (omega arith) in
    let b = c.end_at.ensures in
    rw (g, le-leb c.args.default.start (nat_of c.args.raw.now.start) (rw e at c.if-whole-default.false), b)
