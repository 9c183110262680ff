-- `opening_part::part_opened` meets its contract. Assumes nothing.
use Rattle.std.proofs.Common.{◌≡◌, ◌+◌, length, drop, get_or, pos, refl, ◌∙◌, to_z, of_z, w64, arith, rules}
use Rattle.rules_text.specs.Numbers.{lines, row}
use Rattle.rules_text.specs.Tables.{headed, due, single, cell, counting, counted}
use Rattle.rules_parts.specs.Parts.{read_opening}
use Rattle.rules_text.proofs.LineLaws.{line}
use Rattle.rules_text.proofs.RowLaws.{row_in, Held, held, not_held}
use Rattle.rules_text.proofs.StageLaws.{Stage, text_few}
use Rattle.rules_text.proofs.UsedLaws.{used_then}
use Rattle.opening_part.specs.Parts.{headed_four}
use Rattle.opening_part.proofs.OpenedLaws.{opened_as, opened_on, opened_fault}
use Rattle.opening_part.proofs.PartLaws.{unnamed_month, no_month, month_stage, unnamed_portfolios, portfolio_stage, past_portfolios, rises_headed_four, opened_first}
use Rattle.opening_part.proofs.part_opened.Goals as goal
use Rattle.opening_part.proofs.part_opened.Goals.{In-Some-row_at, After-sellers_at-portfolios}

-- the month's line
month_row : (c : In-Some-row_at) → Held 8 (c.in-Some.at + length (line (drop c.in-Some.at c.args.s.now))) (row 1 (line (drop c.in-Some.at c.args.s.now))) c.in-Some-row_at.row
month_row c =
    let s = c.args.s.now in
    let q = c.in-Some.at in
    held 8 (q + length (line (drop q s))) (row 1 (line (drop q s))) c.in-Some-row_at.row (c.in-Some-row_at.ensures ∙ row_in 8 (λ o. o) s q 1 refl)

month_read : (c : In-Some-row_at) → Stage (headed "month\n" (due single)) c.args.s.now 0 c.args.at (cell 0 (month_row c).x) 2 c.in-Some-row_at.row.next
month_read c = let h = month_row c in month_stage c.args.s.now 0 c.args.at c.in-Some.at c.in-Some.ensures h.x h.is c.in-Some-row_at.row.next h.after

-- the portfolios' lines
portfolios_read : (c : After-sellers_at-portfolios)
    → Stage (headed "portfolio seller\n" (counted 2)) c.args.s.now 2 c.in-Some-row_at.row.next (counting 2 (lines (drop c.in-Some-line_is.at c.args.s.now))) (3 + c.sellers_at-portfolios.result.count) c.sellers_at-portfolios.result.next
portfolios_read c =
    let g = c.sellers_at-portfolios in
    portfolio_stage c.args.s.now 2 c.in-Some-row_at.row.next c.in-Some-line_is.at g.result.count g.result.next c.in-Some-line_is.ensures g.ensures.count_value g.ensures.next_value

pub returns-in_default : goal.returns-in_default
returns-in_default c =
    let a = c.args in
    let s = a.s.now in
    let R = read_opening 0 (lines (drop a.at s)) in
    let w = c.faulty_line in
    let d = opened_first s a.at R a.state.now a.state.now w.result
    (opened_fault s 0 a.at R 1 (unnamed_month s 0 a.at c.in_default.ensures) a.state.now w.result w.ensures) in
    record { answer = d.0; state = d.1.0; rest = d.1.1 }

pub returns-in_default-row_at : goal.returns-in_default-row_at
returns-in_default-row_at c =
    let a = c.args in
    let s = a.s.now in
    let R = read_opening 0 (lines (drop a.at s)) in
    let q = c.in-Some.at in
    let w = c.faulty_line-in_default-row_at in
    let d = opened_first s a.at R a.state.now a.state.now w.result
    (opened_fault s 0 a.at R 2 (no_month s 0 a.at q c.in-Some.ensures (not_held 8 _ _ (c.in_default-row_at.ensures ∙ row_in 8 (λ o. o) s q 1 refl))) a.state.now w.result w.ensures) in
    record { answer = d.0; state = d.1.0; rest = d.1.1 }

pub returns-in_default-line_is : goal.returns-in_default-line_is
returns-in_default-line_is c =
    let a = c.args in
    let s = a.s.now in
    let R = read_opening 0 (lines (drop a.at s)) in
    let k = c.in-Some-row_at.row in
    let holds = month_row (goal.at.returns-in_default-line_is c).In-Some-row_at in
    let first = month_read (goal.at.returns-in_default-line_is c).In-Some-row_at in
    let w = c.faulty_line-in_default-line_is in
    let d = opened_first s a.at R a.state.now a.state.now w.result
    (opened_fault s 0 a.at R 3 (unnamed_portfolios s 0 a.at (cell 0 holds.x) 2 k.next first c.in_default-line_is.ensures) a.state.now w.result w.ensures) in
    record { answer = d.0; state = d.1.0; rest = d.1.1 }

pub overflow_add-portfolios : goal.overflow_add-portfolios
overflow_add-portfolios c =
    let a = c.args in
    let s = a.s.now in
    let first = month_read (goal.at.overflow_add-portfolios c).In-Some-row_at in
    let second = portfolios_read (goal.at.overflow_add-portfolios c).After-sellers_at-portfolios in
    let f = text_few s a.at in
    omega (arith, second.few, first.few, f, c.well_formed)

pub opened_after-requires : goal.opened_after-requires
opened_after-requires c =
    let a = c.args in
    let s = a.s.now in
    let first = month_read (goal.at.opened_after-requires c).In-Some-row_at in
    let second = portfolios_read (goal.at.opened_after-requires c).After-sellers_at-portfolios in
    let f = text_few s a.at in
    omega (arith, second.few, first.few, f)

pub returns : goal.returns
returns c =
    let a = c.args in
    let s = a.s.now in
    let R = read_opening 0 (lines (drop a.at s)) in
    let k = c.in-Some-row_at.row in
    let holds = month_row (goal.at.returns c).In-Some-row_at in
    let first = month_read (goal.at.returns c).In-Some-row_at in
    let g = c.sellers_at-portfolios in
    let second = portfolios_read (goal.at.returns c).After-sellers_at-portfolios in
    let o = c.opened_after in
    let z = get_or k.v 0 (pos 0) in
    let month : to_z w64 (of_z w64 z) ≡ z = search rules in
    let n2 = 3 + g.result.count in
    let A = headed_four (to_z w64 (of_z w64 z)) g.result.count g.new.cells n2 (lines (drop g.result.next s)) in
    let d = opened_first s a.at R a.state.now _ o.result
    (opened_as s 0 a.at A R a.state.now _ o.result
    (past_portfolios s 0 a.at (cell 0 holds.x) 2 k.next first (counting 2 (lines (drop c.in-Some-line_is.at s))) n2 g.result.next second g.result.count g.ensures.count_value g.new.cells g.ensures.cells_after
    (to_z w64 (of_z w64 z)) (month ∙ holds.cells 0 (omega arith)))
    (opened_on s 0 a.at n2 g.result.next (used_then first.used second.used) A (rises_headed_four (to_z w64 (of_z w64 z)) g.result.count g.new.cells n2 (lines (drop g.result.next s))) a.state.now _ o.result
    o.ensures)) in
    record { answer = d.0; state = d.1.0; rest = d.1.1 }
