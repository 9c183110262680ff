-- Goals of `page::put_line` that the search leaves. Assumes nothing.
use Rattle.std.specs.Prelude.{ℕ, Option, unwrap_or}
use Rattle.std.proofs.Common.{◌*◌, ◌≤◌, length, ap, ◌∙◌, arith}
use Rattle.rules_text.specs.Printing.{line_text}
use Rattle.rules_text.proofs.PrintLaws.{line_few}
use Rattle.page.proofs.PageLaws.{put_both}
use Rattle.page.proofs.put_line.Goals as goal

pub returns-clause-next : goal.returns-clause-next
returns-clause-next c = c.unwrap_or.ensures ∙ ap (λ (o : Option ℕ). unwrap_or o c.args.at) c.print_line.ensures.value

pub returns-clause-whole : goal.returns-clause-whole
returns-clause-whole c h =
    let a = c.args in
    let p = c.print_line in
    let few : length (line_text a.row.now) ≤ 21 * length a.row.now = line_few a.row.now in
    let r = put_both a.out.now a.at (line_text a.row.now) p.new.out p.result (omega (arith, few, h)) p.ensures.out_after p.ensures.value in
    let next = c.unwrap_or.ensures ∙ ap (λ (o : Option ℕ). unwrap_or o a.at) r.1 in
    record { buffer = r.0; next = next; few = omega (arith, few, next) }
