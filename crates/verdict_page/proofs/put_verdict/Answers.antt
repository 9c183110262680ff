-- Goals of `verdict_page::put_verdict` that the search leaves. Assumes nothing.
use Rattle.std.proofs.Common.{◌≡◌, ℕ, ◌+◌, ◌*◌, List, ◌∷◌, sym, ap, subst, ◌∙◌, arith, rules, length}
use Rattle.std.proofs.Math.IntN.{pos}
use mir.Syntax.{w64}
use mir.Val.{SFits}
use Rattle.rules_number.proofs.Kit.{came}
use Rattle.rules_text.specs.Printing.{line_text}
use Rattle.rules_text.specs.Numbers.{Row}
use Rattle.rules_page.specs.Pages.{Put, printable}
use Rattle.page.proofs.PageLaws.{small_printable, group_one}
use Rattle.rules_library.specs.Slices.{cell_at}
use Rattle.rules_state.specs.Layout.{verdict_width}
use Rattle.verdict_page.proofs.ShownLaws.{verdict_row_lem}
use Rattle.verdict_page.proofs.put_verdict.Goals as goal

pub returns : goal.returns
returns c =
    let s = c.args in
    let cells = s.verdicts.now in
    let from = verdict_width * s.c in
    let f : SFits w64 (cell_at cells from) = search rules in
    let g : SFits w64 (cell_at cells (from + 1)) = search rules in
    let h : SFits w64 (cell_at cells (from + 2)) = search rules in
    let zf = came (cell_at cells from) f.sfits in
    let zd = came (cell_at cells (from + 1)) g.sfits in
    let zl = came (cell_at cells (from + 2)) h.sfits in
    let fc = ap pos (small_printable s.c (omega (arith, c.requires.1))) in
    let row = simp (zf, zd, zl, fc) at c.verdict_row-row.ensures in
    let e = verdict_row_lem cells s.c g.sfits h.sfits in
    let five : length c.verdict_row-row.result ≡ 5 = ap length c.verdict_row-row.ensures in
    subst (λ (text : List ℕ). Put 105 s.out.now s.at text c.put_line.new.out c.put_line.result) (sym (group_one (printable s.i) s.c _ ∙ ap (λ (x : Row). line_text (pos (printable s.i) ∷ pos s.c ∷ x)) e))
    (rw row at (c.put_line.ensures.whole (omega (arith, five, c.requires.0))))
