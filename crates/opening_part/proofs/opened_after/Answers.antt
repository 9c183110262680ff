-- `opening_part::opened_after` meets its contract. Assumes nothing.
use Rattle.std.proofs.Common.{◌+◌, drop, refl, arith}
use Rattle.rules_text.specs.Numbers.{lines}
use Rattle.rules_text.proofs.StageLaws.{names_few}
use Rattle.opening_part.specs.Parts.{headed_four}
use Rattle.opening_part.proofs.OpenedLaws.{opened_fault}
use Rattle.opening_part.proofs.PartLaws.{unnamed_four, named_opened}
use Rattle.opening_part.proofs.opened_after.Goals as goal

pub returns-in_default : goal.returns-in_default
returns-in_default c =
    let a = c.args in
    opened_fault a.s.now a.n a.at (headed_four a.head.now.month a.head.now.portfolios a.head.now.sellers.now a.n (lines (drop a.at a.s.now))) (a.n + 1)
    (unnamed_four a.head.now.month a.head.now.portfolios a.head.now.sellers.now a.s.now a.n a.at c.in_default.ensures) a.state.now c.faulty_line.result c.faulty_line.ensures

pub opened_short-requires : goal.opened_short-requires
opened_short-requires c =
    let a = c.args in
    omega (arith, names_few "resource portfolio start\n" a.s.now a.at refl c.in-Some.at c.in-Some.ensures, c.requires)

pub returns-then-s-le-SHORT_BYTES : goal.returns-then-s-le-SHORT_BYTES
returns-then-s-le-SHORT_BYTES c =
    let a = c.args in
    let o = c.opened_short in
    named_opened a.head.now.month a.head.now.portfolios a.head.now.sellers.now a.s.now a.n a.at c.in-Some.at c.in-Some.ensures a.state.now _ o.result o.ensures

pub opened_long-requires : goal.opened_long-requires
opened_long-requires c =
    let a = c.args in
    omega (arith, names_few "resource portfolio start\n" a.s.now a.at refl c.in-Some.at c.in-Some.ensures, c.requires)

pub returns : goal.returns
returns c =
    let a = c.args in
    let o = c.opened_long in
    named_opened a.head.now.month a.head.now.portfolios a.head.now.sellers.now a.s.now a.n a.at c.in-Some.at c.in-Some.ensures a.state.now _ o.result o.ensures
