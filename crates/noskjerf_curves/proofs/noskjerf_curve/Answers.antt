-- `noskjerf_curves::noskjerf_curve` meets its contract. Assumes nothing.
use borrow.Author.Rules.{rules}
use mathlib.Core.Path.{refl, ◌∙◌}
use Rattle.rules_hour.specs.Hours.{curve_in}
use Rattle.rules_number.proofs.Kit.{came}
use Rattle.rules_state.specs.Curves.{mitigated_room, curve_answer, curve_edges, curve_prices}
use Rattle.rules_state.specs.States.{hour_in}
use Rattle.noskjerf_curves.proofs.StateCurveLaws.{put_as}
use Rattle.noskjerf_curves.proofs.noskjerf_curve.Goals as goal

pub returns : goal.returns
unfolding curve_answer curve_edges curve_prices
returns c =
    let w = put_as (mitigated_room c.args.state.now c.args.edges.now c.args.prices.now) c.args.edges.now c.args.prices.now 0 0 c.present_in.result (curve_in (hour_in c.args.state.now).hour c.args.r) refl (λ h. c.present_in.ensures) _ _ _
    (c.put_curve.ensures.answer, (c.put_curve.ensures.edges, c.put_curve.ensures.prices)) in
    record { answer = came c.put_curve.result (search rules) ∙ w.0; edges = w.1.0; prices = w.1.1 }
