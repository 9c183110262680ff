-- Goals of `run::is_shown` that the search leaves. Assumes nothing.
use Rattle.std.proofs.Common.{◌≡◌, ◌+◌, ◌*◌, sym, ◌∙◌, arith}
use mathlib.Core.Path.{ap₂}
use borrow.Author.Tests.{eqb-true}
use Rattle.std.proofs.lemmas.Int.{ints, to_z-of_z}
use Rattle.rules_state.specs.States.{floor_of}
use Rattle.rules_library.specs.Slices.{cell_at}
use Rattle.run.proofs.GoingLaws.{positive}
use Rattle.run.proofs.KeptLaws.{floor_here}
use Rattle.run.proofs.is_shown.Goals as goal

pub returns : goal.returns
returns c h =
    let mark : cell_at c.args.shown.now (2 * c.args.r) ≡ cell_at c.args.state.now (1 + c.args.r) = search (arith, ints, to_z-of_z, c.if-shown-r.false) in
    let price : cell_at c.args.shown.now (2 * c.args.r + 1) ≡ cell_at c.args.state.now (65 + c.args.r) = search (arith, ints, to_z-of_z, eqb-true _ _ h) in
    (positive _ c.if-places-r-eq0.false, ap₂ floor_of mark price ∙ sym (floor_here c.args.state.now c.args.r c.requires.0))
