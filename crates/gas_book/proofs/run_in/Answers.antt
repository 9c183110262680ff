-- `gas_book::run_in` meets its contract. Assumes nothing.
use Rattle.std.proofs.Common.{ℕ, take, sym, ap, ◌∙◌}
use Rattle.rules_gas.proofs.BookLaws.{run_odd, run_fall, run_is_front}
use Rattle.gas_book.proofs.run_in.Goals as goal
use Rattle.gas_book.proofs.run_in.Goals.{then-list-ne0-via-then-list-ne0, then-list-ne0-via-else-list-ne0+then-not-days_rise}

pub returns-then-list-ne0 : goal.returns-then-list-ne0
returns-then-list-ne0 c =
    let a = c.args in
    elim c.then-list-ne0.branch [
      | then-list-ne0-via-then-list-ne0 w ↦ run_odd a.day a.list.now w.if-list-ne0.true
      | then-list-ne0-via-else-list-ne0+then-not-days_rise w ↦ run_fall a.day a.list.now (sym w.days_rise.ensures ∙ w.if-not-days_rise.true)
    ]

pub returns : goal.returns
returns c =
    let a = c.args in
    ap (λ (n : ℕ). take n a.list.now) c.length_to.ensures.0
    ∙ run_is_front a.day a.list.now c.if-list-ne0.false (sym c.days_rise.ensures ∙ c.if-not-days_rise.false)
