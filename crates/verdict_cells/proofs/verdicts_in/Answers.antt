-- `verdict_cells::verdicts_in` meets its contract. Assumes nothing.
use Rattle.std.proofs.Common.{ap, arith}
use lib.ListN.{replicate}
use Rattle.rules_number.specs.Over.{listed, padded}
use Rattle.rules_path.specs.declared.Verdict.{Verdict}
use Rattle.rules_library.proofs.SliceLaws.{filled_next, filled}
use Rattle.rules_state.specs.Layout.{most_constraints}
use Rattle.rules_state.specs.Verdicts.{verdict_in, verdicts_in}
use Rattle.verdict_cells.proofs.verdicts_in.Goals as goal

pub loop-c-init : goal.loop-c-init
unfolding padded listed
loop-c-init c = ap (λ (x : Verdict). replicate most_constraints x) c.verdict_in-verdicts.ensures

pub loop-c-preserved : goal.loop-c-preserved
loop-c-preserved c =
    filled_next most_constraints (verdict_in c.args.numbers.now 0) (verdict_in c.args.numbers.now) c.loop-c.verdict-items c.loop-c.c _ (omega arith) c.loop-c.invariant c.verdict_in.ensures

pub returns : goal.returns
unfolding verdicts_in
returns c =
    filled most_constraints (verdict_in c.args.numbers.now 0) (verdict_in c.args.numbers.now) c.loop-c.verdict-items c.loop-c.c (omega arith) (omega arith) c.loop-c.invariant
