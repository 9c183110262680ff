-- Goals of `run::put_intervals` that the search leaves. Assumes nothing.
use Rattle.std.proofs.Common.{◌≡◌, ℕ, ◌+◌, ◌≤◌, min, List, ◌++◌, length, drop, refl, sym, ap, ◌∙◌, arith}
use mathlib.Core.Path.{ap₂}
use lib.IntN.{ℤ}
use lib.ListN.{length-append}
use Rattle.std.proofs.Math.Seq.{sets, length-sets}
use Rattle.rules_text.specs.Numbers.{lines}
use Rattle.rules_parts.specs.Parts.{read_interval}
use Rattle.rules_text.proofs.ListLaws.{sets_append}
use Rattle.rules_path.specs.declared.Market.{Market}
use Rattle.rules_hour.specs.Hours.{Hour, hour_after}
use Rattle.rules_page.specs.Pages.{verdict_text, curve_text}
use Rattle.rules_run.specs.Run.{page_of}
use Rattle.rules_state.specs.States.{hour_in, standing_in, market_in, rows_in}
use Rattle.rules_state.specs.Verdicts.{verdicts_in, judged_cells}
use Rattle.rules_state.proofs.TakeLaws.{standing_length, standing_market, standing_rows}
use Rattle.rules_state.proofs.VerdictLaws.{printed_alike}
use Rattle.run.specs.Took.{Took}
use Rattle.run.proofs.CellLaws.{hour_after_lem}
use Rattle.run.proofs.TookLaws.{did}
use Rattle.run.proofs.GoingLaws.{Accepted, accepting, positive, refused_room, going_start, going_done, done_end, going_few, going_next, stopped, stopped_ends, stopped_few}
use Rattle.run.proofs.KeptLaws.{kept_start, kept_past, kept_rows, long_start, long_next, rooms_next}
use Rattle.run.proofs.put_intervals.Goals as goal
use Rattle.run.proofs.put_intervals.Goals.{After-interval_of-taken}

-- what a part did
took : (a : After-interval_of-taken)
    → Took a.args.text.now a.loop-at.at a.loop-at.line a.loop-at.state a.interval_of-taken.new.state a.loop-at.verdicts a.interval_of-taken.new.verdicts
    a.interval_of-taken.result.number a.interval_of-taken.result.line a.interval_of-taken.result.next a.interval_of-taken.result.constraints
took a =
    let few : min a.loop-at.line 65536 ≡ a.loop-at.line = omega (arith, a.loop-at.invariant.going.left) in
    let e = a.interval_of-taken.ensures in
    did a.args.text.now a.loop-at.at a.loop-at.line a.loop-at.state a.interval_of-taken.new.state a.loop-at.verdicts a.interval_of-taken.new.verdicts a.interval_of-taken.result
    (omega (arith, a.loop-at.invariant.cells, a.requires.cells.0)) (read_interval a.loop-at.line (lines (drop a.loop-at.at a.args.text.now))) refl
    (rw few at e.answer) (rw few at e.state) (rw few at e.verdicts) (rw few at e.rest)

-- an accepted interval
abbrev Done : After-interval_of-taken → Type 0
Done a =
    Accepted a.args.text.now a.loop-at.at a.loop-at.line a.loop-at.state a.interval_of-taken.new.state a.loop-at.verdicts a.interval_of-taken.new.verdicts
    a.interval_of-taken.result.line a.interval_of-taken.result.next a.interval_of-taken.result.constraints

-- the room that is left for its page
page_room : (a : After-interval_of-taken) → Done a → a.loop-at.p + 163840 ≤ length a.loop-at.out
page_room a x =
    let w = a.loop-at.invariant.going in
    omega (arith, w.few, w.put.long, a.requires.room, going_few w a.loop-at-test.true x.interval _ _ x.read x.none)

-- its cells are as many, and the rows are the same
state_long : (a : After-interval_of-taken) → Done a → length a.interval_of-taken.new.state ≡ length a.loop-at.state
state_long a x = ap length x.written ∙ standing_length a.loop-at.state x.interval x.none

same_rows : (a : After-interval_of-taken) → Done a → rows_in a.loop-at.state ≡ rows_in a.interval_of-taken.new.state
same_rows a x = sym (ap rows_in x.written ∙ standing_rows a.loop-at.state x.interval x.none)

same_market : (a : After-interval_of-taken) → Done a → (market_in a.loop-at.state).resources ≡ (market_in a.interval_of-taken.new.state).resources
same_market a x = ap (λ (m : Market). m.resources) (sym (ap market_in x.written ∙ standing_market a.loop-at.state x.interval x.none))

-- what is printed of the verdicts, and of the curves
abbrev first : After-interval_of-taken → List ℕ
first a = verdict_text a.loop-at.i a.interval_of-taken.result.constraints (verdicts_in a.interval_of-taken.new.verdicts)

abbrev second : After-interval_of-taken → List ℕ
second a =
    curve_text a.loop-at.i (market_in a.interval_of-taken.new.state).resources (rows_in a.interval_of-taken.new.state) (standing_in a.interval_of-taken.new.state).floors

-- the hour after it
hour_next : (a : After-interval_of-taken) → (x : Done a) → (hour_in a.interval_of-taken.new.state).hour ≡ hour_after (hour_in a.loop-at.state).hour x.interval
hour_next a x = ap (λ (k : List ℤ). (hour_in k).hour) x.written ∙ hour_after_lem a.loop-at.state x.interval (omega (arith, a.loop-at.invariant.cells, a.requires.cells.0)) x.none

-- the page of an accepted interval
page_is : (a : After-interval_of-taken) → (x : Done a) → first a ++ second a ≡ page_of a.loop-at.i (hour_in a.loop-at.state).hour x.interval
page_is a x =
    let m = market_in a.loop-at.state in
    let e = ap₂ (λ (n : ℕ) (k : List ℤ). verdict_text a.loop-at.i n (verdicts_in k)) x.many x.judged ∙ printed_alike m (standing_in a.loop-at.state) x.interval a.loop-at.verdicts a.loop-at.i (omega (arith, a.loop-at.invariant.room)) x.none in
    ap₂ (λ (t : List ℕ) (h : Hour). t ++ curve_text a.loop-at.i h.market.resources h.rows h.standing.floors) e (hour_next a x)

pub loop-at-init : goal.loop-at-init
loop-at-init c = record {
  going = going_start c.args.text.now c.args.out.now (hour_in c.args.state.now).hour c.args.start c.args.lines_before c.requires.fresh c.requires.text;
  cells = refl;
  room = c.requires.cells.1;
  long = long_start;
  many = refl;
  kept = kept_start c.requires.rooms c.requires.none (rows_in c.args.state.now) c.args.out.now 0;
}

pub put_refusal-requires : goal.put_refusal-requires
put_refusal-requires c =
    let a = (goal.at.put_refusal-requires c).After-interval_of-taken in
    let w = c.loop-at.invariant.going in
    (omega (arith, w.few, w.high, w.put.long, c.requires.room), stopped_few w c.loop-at-test.true (took a) (positive c.interval_of-taken.result.number c.if-number-ne0.true))

pub returns-then-number-ne0 : goal.returns-then-number-ne0
returns-then-number-ne0 c =
    let a = (goal.at.returns-then-number-ne0 c).After-interval_of-taken in
    let w = c.loop-at.invariant.going in
    let e = c.put_refusal.ensures in
    let some = positive c.interval_of-taken.result.number c.if-number-ne0.true in
    let p = stopped w c.loop-at-test.true (took a) some c.put_refusal.new.out c.put_refusal.result.at e.page e.next.0 in
    record { page = p.0; next = (p.1, refused_room w e.next.1); end = e.end ∙ stopped_ends w c.loop-at-test.true (took a) some }

pub put_verdicts-p-requires : goal.put_verdicts-p-requires
put_verdicts-p-requires c =
    let a = (goal.at.put_verdicts-p-requires c).After-interval_of-taken in
    omega (arith, page_room a (accepting (took a) c.if-number-ne0.false))

pub put_curves-p-requires : goal.put_curves-p-requires
put_curves-p-requires c =
    let a = (goal.at.put_curves-p-requires c).After-interval_of-taken in
    let x = accepting (took a) c.if-number-ne0.false in
    let p = c.put_verdicts-p.ensures in
    let v = c.loop-at.invariant in
    let long = ap length p.0 ∙ length-sets c.loop-at.out c.loop-at.p (first a) in
    record {
      room = (omega (arith, page_room a x, p.1.1, long), (omega (arith, v.going.high), omega (arith, state_long a x, v.cells, c.requires.cells.0)));
      rooms = rooms_next v.long c.requires.rooms _ (v.many ∙ same_market a x);
      kept = kept_past (kept_rows v.kept _ _ (same_market a x) (same_rows a x)) (first a) c.put_verdicts-p.new.out c.put_verdicts-p.result p.0 (omega (arith, p.1.0));
    }

pub overflow_add-i : goal.overflow_add-i
overflow_add-i c = omega (arith, c.loop-at.invariant.going.high)

pub loop-at-smaller : goal.loop-at-smaller
loop-at-smaller c = omega (arith, c.loop-at.invariant.going.high)

pub loop-at-preserved : goal.loop-at-preserved
loop-at-preserved c =
    let a = (goal.at.loop-at-preserved c).After-interval_of-taken in
    let x = accepting (took a) c.if-number-ne0.false in
    let v = c.loop-at.invariant in
    let p = c.put_verdicts-p.ensures in
    let q = c.put_curves-p.ensures.page in
    let put : c.put_curves-p.new.out ≡ sets c.loop-at.out c.loop-at.p (first a ++ second a)
    = q.buffer ∙ ap₂ (λ (o : List ℕ) (j : ℕ). sets o j (second a)) p.0 p.1.0 ∙ sym (sets_append c.loop-at.out c.loop-at.p (first a) (second a)) in
    let next : c.put_curves-p.result ≡ c.loop-at.p + length (first a ++ second a) = omega (arith, p.1.0, q.next, length-append (first a) (second a)) in
    record {
      going =
          going_next v.going c.loop-at-test.true x.interval c.interval_of-taken.result.line c.interval_of-taken.result.next x.read x.none (hour_in c.interval_of-taken.new.state).hour c.put_curves-p.new.out
          c.put_curves-p.result (hour_next a x) (put ∙ ap (sets c.loop-at.out c.loop-at.p) (page_is a x)) (next ∙ ap (λ (t : List ℕ). c.loop-at.p + length t) (page_is a x)) (omega (arith, p.1.1, q.few));
      cells = state_long a x ∙ v.cells;
      room = ap length x.judged ∙ length-sets c.loop-at.verdicts 0 (judged_cells (market_in c.loop-at.state) x.interval) ∙ v.room;
      long = long_next v.long c.put_curves-p.new.shown c.put_curves-p.new.places c.put_curves-p.new.widths c.put_curves-p.auto.shown c.put_curves-p.auto.places c.put_curves-p.auto.widths;
      many = v.many ∙ same_market a x;
      kept = c.put_curves-p.ensures.kept;
    }

pub returns : goal.returns
returns c =
    let w = c.loop-at.invariant.going in
    let over : length c.args.text.now ≤ c.loop-at.at = omega (arith, c.loop-at-test.false) in
    let d = going_done w over in
    record { page = d.0; next = (d.1, omega (arith, w.few, w.high)); end = done_end w over }
