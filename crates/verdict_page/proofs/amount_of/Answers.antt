-- Goals of `verdict_page::amount_of` that the search leaves. Assumes nothing.
use Rattle.std.proofs.Common.{◌+◌, ◌*◌, ◌∙◌, rules}
use mir.Syntax.{w64}
use mir.Val.{SFits}
use Rattle.rules_number.proofs.Kit.{came}
use Rattle.rules_library.specs.Slices.{cell_at}
use Rattle.rules_state.specs.Layout.{verdict_width}
use Rattle.verdict_page.proofs.SellerLaws.{amount_at_lem}
use Rattle.verdict_page.proofs.amount_of.Goals as goal

pub returns : goal.returns
returns c =
    let a = c.args in
    let f : SFits w64 (cell_at a.verdicts.now (verdict_width * a.c + 4 + a.p)) = search rules in
    (simp (came (cell_at a.verdicts.now (verdict_width * a.c + 4 + a.p)) f.sfits) at c.whole.ensures) ∙ amount_at_lem a.verdicts.now a.c a.p c.requires.1 f.sfits
