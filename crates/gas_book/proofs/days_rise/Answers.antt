-- `gas_book::days_rise` meets its contract. Assumes nothing.
use Rattle.std.proofs.Common.{ℕ, ◌≡◌, ◌+◌, ◌*◌, drop, get_or, ap, arith, sym, ◌∙◌}
use Rattle.rules_gas.specs.Book.{rise_from}
use Rattle.rules_gas.proofs.BookLaws.{days_short, days_from, all_rise, no_rise, next_rise}
use Rattle.gas_book.proofs.days_rise.Goals as goal

pub returns-then-list-lt2 : goal.returns-then-list-lt2
returns-then-list-lt2 c = days_short c.args.list.now (omega arith)

pub loop-i-init : goal.loop-i-init
loop-i-init c = days_from c.args.list.now (omega arith)

pub returns-then-list-i : goal.returns-then-list-i
returns-then-list-i c =
    sym (c.loop-i.invariant ∙ no_rise c.loop-i.before c.args.list.now (2 * c.loop-i.i) (omega arith) (omega arith))

pub loop-i-preserved : goal.loop-i-preserved
loop-i-preserved c =
    let l = c.args.list.now in
    let i = c.loop-i.i in
    let z : 2 * i + 2 ≡ 2 * (i + 1) = omega arith in
    c.loop-i.invariant ∙ next_rise c.loop-i.before l (2 * i) (omega arith) (omega arith) ∙ ap (λ (k : ℕ). rise_from (get_or l (2 * i) 0) (drop k l)) z

pub returns : goal.returns
returns c =
    sym (c.loop-i.invariant ∙ all_rise c.loop-i.before c.args.list.now (2 * c.loop-i.i) (omega arith))
