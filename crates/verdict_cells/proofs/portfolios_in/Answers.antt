-- `verdict_cells::portfolios_in` meets its contract. Assumes nothing.
use Rattle.std.proofs.Common.{◌+◌, refl, arith}
use Rattle.rules_number.specs.Order.{nat_of}
use Rattle.rules_number.specs.Over.{listed, padded}
use Rattle.rules_library.specs.Slices.{cell_at}
use Rattle.rules_library.proofs.SliceLaws.{filled_next, filled}
use Rattle.rules_state.specs.Layout.{most_portfolios}
use Rattle.rules_state.specs.States.{wholes_in}
use Rattle.verdict_cells.proofs.VerdictLaws.{none_there}
use Rattle.verdict_cells.proofs.portfolios_in.Goals as goal

pub returns-then-numbers-at : goal.returns-then-numbers-at
returns-then-numbers-at c = none_there c.args.numbers.now c.args.at most_portfolios c.if-numbers-at.true

pub loop-p-init : goal.loop-p-init
unfolding padded listed
loop-p-init c = refl

pub loop-p-preserved : goal.loop-p-preserved
loop-p-preserved c =
    filled_next most_portfolios 0 (λ k. nat_of (cell_at c.args.numbers.now (c.args.at + k))) c.loop-p.whole-items c.loop-p.p _ (omega arith) c.loop-p.invariant c.whole_at.ensures

pub returns : goal.returns
unfolding wholes_in
returns c =
    filled most_portfolios 0 (λ k. nat_of (cell_at c.args.numbers.now (c.args.at + k))) c.loop-p.whole-items c.loop-p.p (omega arith) (omega arith) c.loop-p.invariant
