-- `opening_part::tables::charges_into` meets its contract. Assumes nothing.
use Rattle.std.proofs.Common.{◌≡◌, ℕ, ◌+◌, ◌*◌, length, drop, refl, sym, ap, ◌∙◌, arith, rules}
use lib.Seq.{sets, drop-drop}
use Rattle.rules_text.specs.Numbers.{lines, row}
use Rattle.rules_text.specs.Tables.{has_id, if_suits}
use Rattle.rules_text.proofs.LineLaws.{line}
use Rattle.rules_text.proofs.RowLaws.{row_in, held, not_held}
use Rattle.rules_text.proofs.UsedLaws.{used_none, used_next}
use Rattle.rules_state.specs.Layout.{block_room}
use Rattle.text_blocks.specs.Blocks.{charge_cells}
use Rattle.text_blocks.proofs.BlockLaws.{place_same, charges_are, pricing_start, pricing_end, pricing_none, pricing_turn}
use Rattle.opening_part.proofs.tables.charges_into.Invariants.{whole}
use Rattle.opening_part.proofs.tables.charges_into.Goals as goal

pub loop-r-init : goal.loop-r-init
loop-r-init c =
    let a = c.args in
    (pricing_start a.from a.m a.n a.cells.now (drop a.at a.s.now), used_none a.s.now a.n a.at)

pub returns-in_default-clause-reading : goal.returns-in_default-clause-reading
returns-in_default-clause-reading c =
    let a = c.args in
    let s = a.s.now in
    let l = c.loop-r in
    let left = drop l.next s in
    let limit = a.n + length (lines (drop a.at s)) in
    pricing_none a.from a.m l.r l.line l.cells left (whole s a.at a.m a.n a.cells.now a.from) limit (length a.cells.now) l.invariant.0 c.loop-r-test.true
    (not_held 8 (l.next + length (line left)) (if_suits (has_id l.r) (row 8 (line left))) (c.in_default.ensures ∙ row_in 8 (if_suits (has_id l.r)) s l.next 8 refl))

pub loop-r-preserved : goal.loop-r-preserved
loop-r-preserved c =
    let a = c.args in
    let s = a.s.now in
    let l = c.loop-r in
    let left = drop l.next s in
    let limit = a.n + length (lines (drop a.at s)) in
    let r = c.in-Some.row in
    let h = held 8 (l.next + length (line left)) (if_suits (has_id l.r) (row 8 (line left))) r (c.in-Some.ensures ∙ row_in 8 (if_suits (has_id l.r)) s l.next 8 refl) in
    let m = c.at_most in
    let vs = charge_cells h.x in
    let eight : length r.v ≡ 8 = search rules in
    let put_is = c.put_charges.ensures
    ∙ ap (sets l.cells (block_room * m.result + a.from)) (charges_are r.v h.x eight h.cells)
    ∙ ap (λ (k : ℕ). sets l.cells (block_room * k + a.from) vs) m.ensures
    ∙ place_same l.cells l.r a.from vs (omega (arith, l.invariant.0.long, c.requires.1)) in (
      pricing_turn a.from a.m l.r l.line l.cells left (whole s a.at a.m a.n a.cells.now a.from) limit (length a.cells.now) l.invariant.0 c.loop-r-test.true h.x h.is _ put_is
          (drop r.next s)
          (ap (λ (n : ℕ). drop n s) h.after ∙ sym (drop-drop (length (line left)) l.next s)),
      used_next l.invariant.1 h.after,
    )

pub returns-clause-reading : goal.returns-clause-reading
returns-clause-reading c =
    let a = c.args in
    let s = a.s.now in
    let l = c.loop-r in
    pricing_end a.from a.m l.r l.line l.cells (drop l.next s) (whole s a.at a.m a.n a.cells.now a.from) (a.n + length (lines (drop a.at s))) (length a.cells.now) l.invariant.0 c.loop-r-test.false
