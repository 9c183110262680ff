-- Goals of `curve_page::put_steps` that the search leaves. Assumes nothing.
use Rattle.std.proofs.Common.{◌≡◌, ℕ, ◌+◌, ◌<◌, ◌≤◌, List, ◌∷◌, length, map, sym, ap, ◌∙◌, arith, rules}
use Rattle.std.proofs.lemmas.List.Edits.{sets}
use Rattle.std.proofs.Math.ListN.{get_or, length-set, length-map, get_or-map}
use Rattle.std.proofs.Math.IntN.{pos}
use mir.Syntax.{w64}
use mir.Val.{SFits}
use Rattle.rules_number.proofs.Kit.{came}
use Rattle.rules_curve.specs.Curves.{blank_step}
use Rattle.rules_text.specs.Printing.{line_text}
use Rattle.rules_text.specs.Numbers.{Row}
use Rattle.rules_page.specs.Pages.{printable, step_row}
use Rattle.rules_library.proofs.SliceLaws.{put_next, put_done}
use Rattle.line_copies.specs.Lines.{width_of}
use Rattle.page.proofs.PageLaws.{putting_next, putting_done, small_printable}
use Rattle.curve_page.proofs.LineLaws.{line_next, line_done}
use Rattle.curve_page.proofs.put_steps.Goals as goal
use Rattle.curve_page.proofs.put_steps.Goals.{After-put_line-q}

-- the line that is put
abbrev line : After-put_line-q → List ℕ
line c = let a = c.args in line_text (pos (printable a.i) ∷ pos a.r ∷ get_or (map step_row a.steps.now) c.loop-k.k (step_row blank_step))

put : (c : After-put_line-q) → (c.put_line-q.new.out ≡ sets c.loop-k.out c.loop-k.p (line c)) × (c.put_line-q.result ≡ c.loop-k.p + length (line c))
put c =
    let a = c.args in
    let s = get_or a.steps.now c.loop-k.k blank_step in
    let g : SFits w64 s.price = search rules in
    let h : SFits w64 c.printable-interval.result = search rules in
    let j : SFits w64 c.printable-resource.result = search rules in
    let k : SFits w64 c.printable.result = search rules in
    let fi = came c.printable-interval.result h.sfits ∙ c.printable-interval.ensures in
    let fr = came c.printable-resource.result j.sfits ∙ c.printable-resource.ensures ∙ ap pos (small_printable a.r (omega (arith, c.requires.curve_bytes_in_bounds.1))) in
    let fe = came c.printable.result k.sfits ∙ c.printable.ensures in
    let fp = came s.price g.sfits in
    let is = sym (get_or-map step_row a.steps.now c.loop-k.k blank_step) in
    let w = c.put_line-q.ensures.whole (search rules) in
    (rw is at (simp (fi, fr, fe, fp) at w.buffer), rw is at (simp (fi, fr, fe, fp) at w.next))

pub loop-k-preserved : goal.loop-k-preserved
loop-k-preserved c =
    let a = c.args in
    let l = c.loop-k in
    let k = l.k in
    let f = c.put_line-q in
    let all = map step_row a.steps.now in
    let here : k < length all = omega (arith, c.loop-k-test.true, length-map a.steps.now step_row) in
    let p = (goal.at.loop-k-preserved c).After-put_line-q in
    let e = put p in
    let w : c.width.result ≡ width_of (printable a.i) a.r (get_or all k (step_row blank_step)) = omega (arith, c.width.ensures, e.1) in (
      putting_next l.invariant.0 (line p) _ f.new.out f.result (line_next (printable a.i) a.r all k (step_row blank_step) here) e.0 e.1,
      omega (arith, (f.ensures.whole (search rules)).few, l.invariant.1),
      length-set l.widths (a.base + k) c.width.result ∙ l.invariant.2,
      put_next (width_of (printable a.i) a.r) all l.widths _ k (a.base + k) l.invariant.3 (step_row blank_step) c.width.result (a.base + (k + 1)) here w (omega arith),
    )

pub returns : goal.returns
returns c =
    let a = c.args in
    let l = c.loop-k in
    let all : List Row = map step_row a.steps.now in
    let end : length all ≤ l.k = omega (arith, c.loop-k-test.false, length-map a.steps.now step_row) in
    let d = putting_done l.invariant.0 (line_done (printable a.i) a.r all l.k end) in
    record {
      put = record { buffer = d.0; next = d.1; few = omega (arith, l.invariant.1, c.requires.few) };
      widths_after = put_done (width_of (printable a.i) a.r) all l.widths _ l.k (a.base + l.k) l.invariant.3 end;
    }
