-- `text_triples::id_and_two` meets its contract. Assumes nothing.
use Rattle.std.proofs.Common.{pos, ◌∙◌, arith, rules}
use Rattle.text_bytes.proofs.ShortLaws.{plus_is}
use Rattle.text_triples.proofs.ThreeLaws.{three_is, by_values}
use Rattle.text_triples.proofs.id_and_two.Goals as goal

pub returns : goal.returns
returns g c =
    let a = c.args in
    let y = c.in_ok-y.y in
    by_values (plus_is (omega (arith, c.requires.0))) (plus_is (omega (arith, c.in_ok-y.ensures.value_bound.0))) (search rules)
    ∙ three_is a.s.now a.at (pos a.n) a.p c.requires.2 (pos y.value) y.next c.in_ok-y.ensures.next_value c.in_ok-z.z c.in_ok-z.next c.in_ok-z.ensures
