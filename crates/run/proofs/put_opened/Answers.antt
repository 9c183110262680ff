-- Goals of `run::put_opened` that the search leaves. Assumes nothing.
use Rattle.std.proofs.Common.{◌≡◌, ℕ, ◌+◌, ◌≤◌, List, length, refl, sym, ap, ◌∙◌, arith}
use Rattle.std.proofs.lemmas.List.Edits.{sets}
use Rattle.rules_text.specs.Numbers.{lines}
use Rattle.rules_run.specs.Run.{parts_text, Ended, ended_by, parts_end}
use Rattle.run.specs.Took.{PartsPut}
use Rattle.run.proofs.GoingLaws.{positive}
use Rattle.run.proofs.KeptLaws.{long_start, rooms_next}
use Rattle.run.proofs.PartsLaws.{unopened_text, unopened_end, unopened_few, begun}
use Rattle.run.proofs.put_opened.Goals as goal

-- what was put is the text t, and it ends so
puts : (s out put t : List ℕ) (at number line : ℕ) (ending : Ended) → parts_text (lines s) ≡ t → parts_end (lines s) ≡ ending → put ≡ sets out 0 t → at ≡ 0 + length t → at ≤ 655424 → ended_by number line ≡ ending
    → PartsPut s out put at number line
puts s out put t at number line ending e d f g h z = record { buffer = f ∙ ap (sets out 0) (sym e); next = omega (arith, g, ap length e); few = h; end = z ∙ sym d }

pub put_refusal-requires : goal.put_refusal-requires
put_refusal-requires c =
    (omega (arith, c.requires.in_bounds.0), unopened_few c.requires.ready.opened (positive c.args.opened.number c.if-number-ne0.true) c.requires.in_bounds.1)

pub returns-then-number-ne0 : goal.returns-then-number-ne0
returns-then-number-ne0 c =
    let some = positive c.args.opened.number c.if-number-ne0.true in
    let p = c.put_refusal.ensures in
    puts c.args.text.now c.args.out.now c.put_refusal.new.out _ c.put_refusal.result.at c.put_refusal.result.number c.put_refusal.result.line _ (unopened_text c.requires.ready.opened some) (unopened_end c.requires.ready.opened some)
    p.page p.next.0 (omega (arith, p.next.1)) p.end

pub put_intervals-requires : goal.put_intervals-requires
put_intervals-requires c =
    let w = c.requires.ready in
    let b = begun (length c.args.state.now) w.room w.opened c.if-number-ne0.false in
    record {
      fresh = b.fresh;
      cells = (omega (arith, w.room), refl);
      room = c.requires.in_bounds.0;
      rooms = rooms_next long_start w.rooms _ (sym b.many);
      none = w.none;
      text = omega (arith, b.left, c.requires.in_bounds.1);
    }

pub returns : goal.returns
returns c =
    let w = c.requires.ready in
    let b = begun (length c.args.state.now) w.room w.opened c.if-number-ne0.false in
    let p = c.put_intervals.ensures in
    puts c.args.text.now c.args.out.now c.put_intervals.new.out _ c.put_intervals.result.at c.put_intervals.result.number c.put_intervals.result.line _ b.text b.end
    p.page (omega (arith, p.next.0)) p.next.1 p.end
