-- Goals of `run::put_curves` that the search leaves. Assumes nothing.
use Rattle.std.proofs.Common.{◌∙◌, [], length, refl, sym, ap, arith}
use mathlib.Core.List.{append-nil}
use Rattle.std.proofs.Math.Seq.{length-sets}
use Rattle.rules_page.specs.Pages.{curve_names, curve_table, curve_text}
use Rattle.rules_state.specs.States.{market_in, rows_in, standing_in}
use Rattle.page.proofs.PageLaws.{putting_start, putting_next, putting_done}
use Rattle.run.proofs.KeptLaws.{kept_past}
use Rattle.run.proofs.put_curves.Goals as goal

pub put_table-requires : goal.put_table-requires
put_table-requires c =
    let e = c.put_names-next.ensures.whole (omega (arith, c.requires.room.0)) in
    let long = ap length e.0 ∙ length-sets c.args.out.now c.args.at curve_names in
    record {
      room = (omega (arith, c.requires.room.0, e.1, long), (c.requires.room.1.0, c.requires.room.1.1));
      rooms = c.requires.rooms;
      kept = kept_past c.requires.kept curve_names c.put_names-next.new.out c.put_names-next.result e.0 (omega (arith, e.1));
    }

pub returns : goal.returns
unfolding curve_text
returns c =
    let e = c.put_names-next.ensures.whole (omega (arith, c.requires.room.0)) in
    let table = curve_table c.args.i (market_in c.args.state.now).resources (rows_in c.args.state.now) (standing_in c.args.state.now).floors in
    let text = curve_text c.args.i (market_in c.args.state.now).resources (rows_in c.args.state.now) (standing_in c.args.state.now).floors in
    let named = putting_next (putting_start c.args.out.now c.args.at text) curve_names table c.put_names-next.new.out c.put_names-next.result refl e.0 e.1 in
    let p = c.put_table.ensures.page in
    let d = putting_done (putting_next named table [] c.put_table.new.out c.put_table.result (sym (append-nil table)) p.buffer p.next) refl in
    record { page = record { buffer = d.0; next = d.1; few = omega (arith, p.few, e.1) }; kept = c.put_table.ensures.kept }
