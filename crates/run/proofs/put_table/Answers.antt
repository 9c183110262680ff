-- Goals of `run::put_table` that the search leaves. Assumes nothing.
use Rattle.std.proofs.Common.{◌≡◌, ◌+◌, ◌≤◌, ◌<◌, map, ◌++◌, length, drop, refl, ap, arith}
use Rattle.rules_number.proofs.OverLaws.{listed_at, listed_length}
use Rattle.rules_text.specs.Printing.{group_text, table_text}
use Rattle.rules_page.specs.Pages.{curve_bytes, printable, curve_table}
use Rattle.rules_library.specs.Slices.{cell_at}
use Rattle.rules_state.specs.States.{rows_in, market_in}
use Rattle.page.proofs.PageLaws.{putting_start, putting_next, putting_done, table_next, table_done}
use Rattle.run.specs.Kept.{rows_at, Rooms}
use Rattle.run.proofs.KeptLaws.{floor_here, rows_short, kept_next, long_start, long_next, rooms_next}
use Rattle.run.proofs.put_table.Invariants.{numbers, rows}
use Rattle.run.proofs.put_table.Goals as goal
use Rattle.run.proofs.put_table.Goals.{In-loop-r}

few : (c : In-loop-r) → c.loop-r.r < 64
few c = omega (arith, c.loop-r-test.true, c.at_most-n.ensures)

many : (c : In-loop-r) → c.loop-r.r < (market_in c.args.state.now).resources
unfolding market_in
many c = omega (arith, c.loop-r-test.true, c.at_most-n.ensures, c.whole_at-resources.ensures)

rooms : (c : In-loop-r) → Rooms (market_in c.args.state.now).resources c.loop-r.shown c.loop-r.places c.loop-r.widths
rooms c = rooms_next c.loop-r.invariant.long c.requires.rooms _ refl

room : (c : In-loop-r) → c.loop-r.p + curve_bytes ≤ length c.loop-r.out
room c = omega (arith, few c, c.loop-r.invariant.put.long, c.loop-r.invariant.few, c.requires.room.0)

pub loop-r-init : goal.loop-r-init
unfolding curve_table market_in
loop-r-init c = record {
  put = rw (c.at_most-n.ensures, c.whole_at-resources.ensures) (putting_start _ _ _);
  low = omega arith;
  few = omega arith;
  long = long_start;
  kept = c.requires.kept;
}

pub put_lines-next-requires-clause-room : goal.put_lines-next-requires-clause-room
put_lines-next-requires-clause-room c =
    let l = (goal.at.put_lines-next-requires-clause-room c).In-loop-r in
    (room l, (few l, (many l, (c.requires.room.1.0, c.requires.room.1.1))))

pub keep_lines-requires : goal.keep_lines-requires
keep_lines-requires c =
    let l = (goal.at.keep_lines-requires c).In-loop-r in
    (few l, (omega (arith, c.put_lines-next.ensures.page.next), (c.requires.room.1.1, (omega (arith, (rooms l).floors, many l), omega (arith, (rooms l).places, many l)))))

pub loop-r-preserved : goal.loop-r-preserved
loop-r-preserved c =
    let l = (goal.at.loop-r-preserved c).In-loop-r in
    let v = c.loop-r.invariant in
    let r = c.loop-r.r in
    let n = c.at_most-n.result in
    let i = printable c.args.i in
    let st = c.args.state.now in
    let here : r < length (numbers n) = omega (arith, c.loop-r-test.true, listed_length (λ k. k) n) in
    let next : table_text i r (map (rows st) (drop r (numbers n))) ≡ group_text i r (rows st r) ++ table_text i (r + 1) (map (rows st) (drop (r + 1) (numbers n)))
    = rw (listed_at (λ k. k) 0 n r c.loop-r-test.true) at (table_next (rows st) 0 i (numbers n) r here) in
    let p = c.put_lines-next.ensures.page in
    record {
      put = putting_next v.put (group_text i r (rows st r)) _ c.put_lines-next.new.out c.put_lines-next.result next p.buffer p.next;
      low = omega (arith, c.loop-r-test.true);
      few = omega (arith, p.few, v.few);
      long = long_next v.long c.keep_lines.new.shown c.keep_lines.new.places c.put_lines-next.new.widths c.keep_lines.auto.shown c.keep_lines.auto.places c.put_lines-next.auto.widths;
      kept =
          kept_next v.kept i r (omega (arith, c.requires.room.1.0)) (many l) (room l) (rooms l) (cell_at st (1 + r)) (cell_at st (65 + r)) (rows st r) (ap (rows_at (rows_in st) r) (floor_here st r (few l)))
          (rows_short st r) c.put_lines-next.new.out c.put_lines-next.result p c.keep_lines.new.shown c.keep_lines.new.places c.put_lines-next.new.widths c.keep_lines.ensures.shown c.keep_lines.ensures.places c.put_lines-next.ensures.widths;
    }

pub returns : goal.returns
returns c =
    let n = c.at_most-n.result in
    let v = c.loop-r.invariant in
    let d = putting_done v.put (table_done (rows c.args.state.now) 0 (printable c.args.i) (numbers n) c.loop-r.r (omega (arith, c.loop-r-test.false, listed_length (λ r. r) n))) in
    record { page = record { buffer = d.0; next = d.1; few = omega (arith, v.low, v.few, c.at_most-n.ensures) }; kept = v.kept }
