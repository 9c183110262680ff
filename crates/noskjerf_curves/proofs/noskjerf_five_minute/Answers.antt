-- `noskjerf_curves::noskjerf_five_minute` meets its contract. Assumes nothing.
use borrow.Author.Rules.{rules}
use mathlib.Core.Path.{refl, ◌∙◌}
use Rattle.rules_pass.specs.Passes.{five_minute_in}
use Rattle.rules_number.proofs.Kit.{came}
use Rattle.rules_state.specs.Curves.{mitigated_room, curve_answer, five_minute_edges, five_minute_prices}
use Rattle.rules_state.specs.States.{hour_in}
use Rattle.noskjerf_curves.proofs.StateCurveLaws.{put_as}
use Rattle.noskjerf_curves.proofs.noskjerf_five_minute.Goals as goal

pub returns : goal.returns
unfolding curve_answer five_minute_edges five_minute_prices
returns c =
    let w = put_as (mitigated_room c.args.state.now c.args.edges.now c.args.prices.now) c.args.edges.now c.args.prices.now 0 0 c.five_minute_in-curve.result (five_minute_in (hour_in c.args.state.now) c.args.r) refl (λ h. c.five_minute_in-curve.ensures) _ _ _
    (c.put_curve.ensures.answer, (c.put_curve.ensures.edges, c.put_curve.ensures.prices)) in
    record { answer = came c.put_curve.result (search rules) ∙ w.0; edges = w.1.0; prices = w.1.1 }
