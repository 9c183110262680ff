-- `cell_copies::fill`. Assumes nothing.
use Rattle.std.proofs.Common.{length, ap, ◌∙◌, arith}
use Rattle.rules_number.proofs.OverLaws.{listed_same}
use Rattle.rules_library.specs.Slices.{cell_at}
use Rattle.cell_copies.proofs.fill.Goals as goal

pub returns : goal.returns
returns c = c.fill_every.ensures ∙ listed_same _ _ (length c.args.into.now) (λ i h. ap (cell_at c.args.from.now) (omega arith))
