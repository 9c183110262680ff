-- `text_triples::any_three` meets its contract. Assumes nothing.
use Rattle.std.proofs.Common.{◌∙◌, rules}
use Rattle.text_triples.proofs.ThreeLaws.{three_is, no_first, no_second, no_third, by_values}
use Rattle.text_triples.proofs.any_three.Goals as goal

pub returns-in_err-first : goal.returns-in_err-first
returns-in_err-first c = cc (no_first c.args.s.now c.args.at c.in_err-first.ensures)

pub returns-in_err-second : goal.returns-in_err-second
returns-in_err-second c = cc (no_second c.args.s.now c.args.at c.in_ok-first.first c.in_ok-first.p c.in_ok-first.ensures c.in_err-second.ensures)

pub returns-in_err-third : goal.returns-in_err-third
returns-in_err-third c =
    cc (no_third c.args.s.now c.args.at c.in_ok-first.first c.in_ok-first.p c.in_ok-first.ensures c.in_ok-second.second c.in_ok-second.q c.in_ok-second.ensures c.in_err-third.ensures)

pub returns : goal.returns
returns c =
    by_values (search rules) (search rules) (search rules)
    ∙ three_is c.args.s.now c.args.at c.in_ok-first.first c.in_ok-first.p c.in_ok-first.ensures c.in_ok-second.second c.in_ok-second.q c.in_ok-second.ensures
    c.in_ok-third.third c.in_ok-third.next c.in_ok-third.ensures
