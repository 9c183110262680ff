-- `opening_part::opened_in` meets its contract. Assumes nothing.
use Rattle.std.proofs.Common.{◌≡◌, Err, List, ℤ, pos, drop, sym, ap, ◌∙◌, to_z, of_z, w64, arith, rules}
use Rattle.rules_opening.specs.declared.Opening.{Opening}
use Rattle.rules_text.specs.Numbers.{lines}
use Rattle.rules_text.specs.Tables.{found}
use Rattle.rules_curve.proofs.RefusalLaws.{told_number}
use Rattle.rules_state.specs.Calls.{called_number}
use Rattle.rules_state.specs.OpenedInto.{into_answer, opened_into}
use Rattle.opening_cells.proofs.IntoLaws.{done_by, short_by}
use Rattle.rules_state.specs.Openings.{opening_in}
use Rattle.text_blocks.specs.Blocks.{last_three, blocks_of}
use Rattle.opening_part.proofs.OpenedLaws.{opened_fault, opened_short, opened_refused, opened_accepted, tables_fault, tables_found}
use Rattle.opening_part.proofs.opened_in.Goals as goal
use Rattle.opening_part.proofs.opened_in.Goals.{After-open_into}

pub returns-in-Err : goal.returns-in-Err
returns-in-Err c =
    let a = c.args in
    let s = a.s.now in
    let t = c.tables_into in
    let put = t.new.blocks in
    let opens = λ (l : List ℤ). opening_in a.head.now.month a.head.now.portfolios a.head.now.sellers.now a.m l in
    let all = last_three a.m (λ steps points costs. opens (blocks_of a.blocks.now steps points costs)) a.n (lines (drop a.at s)) in
    let line = c.in-Err.line in
    opened_fault s a.n a.at all line
    (tables_fault s a.m (blocks_of a.blocks.now) opens a.n (lines (drop a.at s)) line put c.in-Err.ensures.reading)
    a.state.now c.faulty_line.result c.faulty_line.ensures

-- ---- the tables are read, and opened
abbrev opened : After-open_into → Opening
opened c = let h = c.args.head.now in opening_in h.month h.portfolios h.sellers.now c.args.m c.tables_into.new.blocks

found_is : (c : After-open_into)
    → last_three c.args.m (λ steps points costs. opening_in c.args.head.now.month c.args.head.now.portfolios c.args.head.now.sellers.now c.args.m (blocks_of c.args.blocks.now steps points costs)) c.args.n (lines (drop c.args.at c.args.s.now))
    ≡ found (opened c) c.in-Ok.tables.line (lines (drop c.in-Ok.tables.next c.args.s.now))
found_is c =
    let a = c.args in
    let h = a.head.now in
    tables_found a.s.now a.m (blocks_of a.blocks.now) (λ l. opening_in h.month h.portfolios h.sellers.now a.m l) a.n (lines (drop a.at a.s.now)) c.in-Ok.tables c.tables_into.new.blocks c.in-Ok.ensures.reading

month_is : (c : After-open_into) → opening_in (to_z w64 (of_z w64 c.args.head.now.month)) c.args.head.now.portfolios c.args.head.now.sellers.now c.args.m c.tables_into.new.blocks ≡ opened c
month_is c =
    let h = c.args.head.now in
    let month : to_z w64 (of_z w64 h.month) ≡ h.month = search rules in
    ap (λ (z : ℤ). opening_in z h.portfolios h.sellers.now c.args.m c.tables_into.new.blocks) month

answer_is : (c : After-open_into) → called_number c.open_into.result ≡ into_answer c.args.state.now (opened c)
answer_is c = c.open_into.ensures.number ∙ ap (into_answer c.args.state.now) (month_is c)

state_is : (c : After-open_into) → c.open_into.new.state ≡ opened_into (opened c) c.args.state.now
state_is c =
    let h = c.args.head.now in
    ◌∙◌ {b = opened_into (opening_in (to_z w64 (of_z w64 h.month)) h.portfolios h.sellers.now c.args.m c.tables_into.new.blocks) c.args.state.now} c.open_into.ensures.state
    (ap (λ (x : Opening). opened_into x c.args.state.now) (month_is c))

pub returns-in-Err-TooShort : goal.returns-in-Err-TooShort
unfolding opening_in
returns-in-Err-TooShort c =
    let a = c.args in
    let r = c.in-Ok.tables in
    let p = (goal.at.returns-in-Err-TooShort c).After-open_into in
    opened_short a.s.now a.n a.at _ (opened p) r.line r.next (found_is p) a.state.now c.open_into.new.state (state_is p)
    (short_by (opened p) a.state.now (sym (ap called_number (c.in-Err-TooShort.is ∙ ap Err c.in-Err-TooShort.field-0-is)) ∙ answer_is p))

pub returns-in-Err-Refused : goal.returns-in-Err-Refused
returns-in-Err-Refused c =
    let a = c.args in
    let r = c.in-Ok.tables in
    let p = (goal.at.returns-in-Err-Refused c).After-open_into in
    let k = c.refusal_number in
    let done = done_by (opened p) a.state.now k.result (ap pos k.ensures ∙ sym (ap called_number (c.in-Err-Refused.is ∙ ap Err c.in-Err-Refused.field-0-is)) ∙ answer_is p) in
    opened_refused a.s.now a.n a.at _ (opened p) r.line r.next (found_is p) a.state.now c.open_into.new.state (state_is p) done.0 k.result done.1
    (λ z. let t = (told_number c.in-Err-Refused.refusal k.result k.ensures).0 in omega arith)

pub returns-in-Ok-open_into : goal.returns-in-Ok-open_into
unfolding opening_in
returns-in-Ok-open_into c =
    let a = c.args in
    let r = c.in-Ok.tables in
    let p = (goal.at.returns-in-Ok-open_into c).After-open_into in
    let done = done_by (opened p) a.state.now 0 (sym (ap called_number c.in-Ok-open_into.is) ∙ answer_is p) in
    opened_accepted a.s.now a.n a.at _ (opened p) r.line r.next (found_is p) a.state.now c.open_into.new.state (state_is p) done.0 (sym done.1) c.in-Ok.ensures.after
