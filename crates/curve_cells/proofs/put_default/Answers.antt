-- `curve_cells::put_default`: as many steps are used as the count says, or all. Assumes nothing.
use Rattle.std.proofs.Common.{ℕ, ◌≡◌, ◌∷◌, map, length, ap, ◌∙◌, arith, rules}
use Prim.Native.Nat.{min}
use lib.ListN.{length-take}
use lib.Seq.{sets}
use Rattle.rules_curve.specs.Curves.{most_steps, steps_of}
use Rattle.rules_curve.specs.declared.Step.{Step}
use Rattle.rules_curve.specs.declared.Curve.{Curve}
use Rattle.curve_cells.proofs.put_default.Goals as goal

counted : (c : Curve) (n : ℕ) → length c.steps ≡ most_steps → n ≡ min c.count most_steps → n ≡ length (steps_of c)
counted c n room e = omega (arith, room, e, length-take c.count c.steps)

pub returns-clause-edges : goal.returns-clause-edges
returns-clause-edges c =
    let a = c.args in
    let d = a.default in
    let room : length d.steps ≡ most_steps = search rules in
    let n = counted d c.at_most-count.result room c.at_most-count.ensures in
    c.put_curve.ensures.edges ∙ ap (λ (k : ℕ). sets a.edges.now 0 (k ∷ d.start ∷ map (λ (x : Step). x.end) d.steps)) n
