-- `noskjerf_hydro::put_pack`: the pack is checked as it is. Assumes nothing.
use Rattle.std.proofs.Common.{◌≡◌, refl, ap, ◌∙◌, ℕ, arith}
use Rattle.std.proofs.lemmas.List.Edits.{sets}
use Rattle.rules_curve.specs.Curves.{curve_of, unless_refused}
use Rattle.rules_curve.specs.declared.Curve.{Curve}
use Rattle.rules_curve.proofs.RefusalLaws.{refused_number}
use Rattle.rules_library.specs.Slices.{edges_of, prices_of}
use Rattle.noskjerf_hydro.proofs.put_pack.Goals as goal

pub returns-in-Ok : goal.returns-in-Ok
returns-in-Ok c =
    let a = c.args in
    let put = c.put_default.ensures in
    let curve : c.in-Ok.curve ≡ curve_of a.pack = c.in-Ok.ensures.curve ∙ ap (λ (n : ℕ). unless_refused n (curve_of a.pack)) c.requires in
    record {
      answer = refl;
      edges = put.edges ∙ ap (λ (y : Curve). sets a.edges.now 0 (edges_of y)) curve;
      prices = put.prices ∙ ap (λ (y : Curve). sets a.prices.now 0 (prices_of y)) curve;
    }

pub returns-in-Err : goal.returns-in-Err
returns-in-Err c = let n = c.in-Err.ensures.number ∙ c.requires in absurd (omega (arith, n, refused_number c.in-Err.refusal))
