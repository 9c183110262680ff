-- Goals of `run::put_refusal` that the search leaves. Assumes nothing.
use Rattle.std.proofs.Common.{◌≡◌, ℕ, List, ◌+◌, ◌≤◌, length, refl, ap, ◌∙◌, arith}
use Rattle.std.proofs.lemmas.List.Edits.{sets}
use Rattle.rules_page.specs.Pages.{printable, refusal_room}
use Rattle.rules_text.specs.Printing.{refusal_text}
use Rattle.rules_run.proofs.RunLaws.{put_to, put_full, refusal_few}
use Rattle.run.proofs.put_refusal.Goals as goal

-- small numbers are printed as they are
shown : (n l : ℕ) → n ≤ 99 → l ≤ 200000 → refusal_text (printable n) (printable l) ≡ refusal_text n l
shown n l h k = ap (λ (x : ℕ). refusal_text x (printable l)) (let e : printable n ≡ n = omega arith in e) ∙ ap (refusal_text n) (let e : printable l ≡ l = omega arith in e)

pub returns-in-Some : goal.returns-in-Some
returns-in-Some c =
    let e : refusal_text (printable c.args.number) (printable c.args.line) ≡ refusal_text c.args.number c.args.line = shown c.args.number c.args.line c.requires.1.0 c.requires.1.1 in
    let g = put_to refusal_room c.args.out.now c.args.at (refusal_text (printable c.args.number) (printable c.args.line)) c.print_refusal.new.out c.print_refusal.result c.requires.0 c.print_refusal.ensures.buffer c.print_refusal.ensures.next c.in-Some.next c.in-Some.is in
    let n = g.1 ∙ ap (λ (t : List ℕ). c.args.at + length t) e in
    record { page = g.0 ∙ ap (sets c.args.out.now c.args.at) e; next = (n, omega (arith, n, refusal_few c.args.number c.args.line)); end = refl }

pub returns-in-None : goal.returns-in-None
returns-in-None c =
    put_full refusal_room c.args.out.now c.args.at (refusal_text (printable c.args.number) (printable c.args.line)) c.print_refusal.new.out c.print_refusal.result c.requires.0 c.print_refusal.ensures.buffer c.print_refusal.ensures.next c.in-None.is
