-- `interval::four_within`: each test decides as its number does. Assumes nothing.
use Rattle.std.proofs.Common.{◌≡◌, ℕ, ◌+◌, sym, ◌∙◌, Bool, arith, rules}
use Rattle.rules_number.specs.Order.{in_range}
use Rattle.rules_number.proofs.OverLaws.{all_fails}
use Rattle.rules_interval.specs.Intervals.{cell}
use Rattle.interval.proofs.RowLaws.{last_decides}
use Rattle.interval.proofs.four_within.Goals as goal
use Rattle.interval.proofs.four_within.Goals.{Start, After-within, After-within-2, After-within-3, After-within-4}

-- test k
abbrev test : Start → ℕ → Bool
test c k = in_range c.args.lo c.args.hi (cell c.args.numbers.now (c.args.i + k))

-- each test's result
first : (c : After-within) → c.within.result ≡ in_range c.args.lo c.args.hi (cell c.args.numbers.now (c.args.i + 0))
first c = search rules

second : (c : After-within-2) → c.within-2.result ≡ in_range c.args.lo c.args.hi (cell c.args.numbers.now (c.args.i + 1))
second c = search rules

third : (c : After-within-3) → c.within-3.result ≡ in_range c.args.lo c.args.hi (cell c.args.numbers.now (c.args.i + 2))
third c = search rules

fourth : (c : After-within-4) → c.within-4.result ≡ in_range c.args.lo c.args.hi (cell c.args.numbers.now (c.args.i + 3))
fourth c = search rules

pub returns-then-not-within : goal.returns-then-not-within
returns-then-not-within c =
    let p = goal.at.returns-then-not-within c in
    sym (all_fails (test p.Start) 4 0 (omega arith) (sym (first p.After-within) ∙ c.if-not-within.true))

pub returns-then-not-within-2 : goal.returns-then-not-within-2
returns-then-not-within-2 c =
    let p = goal.at.returns-then-not-within-2 c in
    sym (all_fails (test p.Start) 4 1 (omega arith) (sym (second p.After-within-2) ∙ c.if-not-within-2.true))

pub returns-then-not-within-3 : goal.returns-then-not-within-3
returns-then-not-within-3 c =
    let p = goal.at.returns-then-not-within-3 c in
    sym (all_fails (test p.Start) 4 2 (omega arith) (sym (third p.After-within-3) ∙ c.if-not-within-3.true))

pub returns : goal.returns
returns c =
    let p = goal.at.returns c in
    fourth p.After-within-4
    ∙ last_decides (test p.Start) (sym (first p.After-within) ∙ c.if-not-within.false) (sym (second p.After-within-2) ∙ c.if-not-within-2.false)
    (sym (third p.After-within-3) ∙ c.if-not-within-3.false)
