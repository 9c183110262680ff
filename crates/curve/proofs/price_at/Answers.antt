-- `curve::price_at` meets its contract. Assumes nothing.
use Rattle.std.proofs.Common.{ap, ◌∙◌, List}
use Rattle.rules_curve.specs.Curves.{quote}
use Rattle.rules_curve.specs.declared.Step.{Step}
use Rattle.curve.proofs.UsedLaws.{used_taken}
use Rattle.curve.proofs.price_at.Goals as goal

pub returns : goal.returns
returns c =
    let a = c.args in
    let e = used_taken a.curve.steps a.curve.count c.used.result c.used.ensures.0 in
    c.price_among.ensures ∙ ap (λ (l : List Step). quote a.curve.start l a.q) e
