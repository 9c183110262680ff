-- `noskjerf_curves::noskjerf_hour_bid` meets its contract. Assumes nothing.
use Prim.Native.Nat.{ℕ}
use borrow.Author.Rules.{rules}
use mathlib.Core.Path.{◌≡◌, ap, ◌∙◌}
use mathlib.Core.List.{List}
use lib.Dec.{leb}
use lib.IntN.{ℤ}
use Rattle.rules_number.specs.Order.{nat_of}
use Rattle.rules_curve.specs.Refusals.{unless}
use Rattle.rules_hour_bid.specs.HourBids.{hour_bid_refusal, hour_bid_of}
use Rattle.rules_library.specs.Slices.{cell_at}
use Rattle.rules_number.proofs.Kit.{came}
use Rattle.rules_state.specs.Curves.{mitigated_room, hour_bid_answer, hour_bid_edges, hour_bid_prices}
use Rattle.rules_state.specs.States.{hour_in, standing_in}
use Rattle.noskjerf_curves.proofs.StateCurveLaws.{hour_bid_is, put_as}
use Rattle.noskjerf_curves.proofs.noskjerf_hour_bid.Goals as goal

number : (state : List ℤ) (accepted : ℕ) → accepted ≡ nat_of (cell_at state 0) → unless (leb 4 accepted) 20 ≡ hour_bid_refusal (hour_in state)
unfolding hour_bid_refusal standing_in
number state accepted e = ap (λ (n : ℕ). unless (leb 4 n) 20) e

pub returns : goal.returns
unfolding hour_bid_answer hour_bid_edges hour_bid_prices
returns c =
    let h = hour_in c.args.state.now in
    let w = put_as (mitigated_room c.args.state.now c.args.edges.now c.args.prices.now) c.args.edges.now c.args.prices.now _ (hour_bid_refusal h) c.present_in.result (hour_bid_of h c.args.r)
    (number c.args.state.now c.whole_at-accepted.result c.whole_at-accepted.ensures) (λ e. c.present_in.ensures ∙ hour_bid_is h c.args.r e) _ _ _
    (c.put_curve.ensures.answer, (c.put_curve.ensures.edges, c.put_curve.ensures.prices)) in
    record { answer = came c.put_curve.result (search rules) ∙ w.0; edges = w.1.0; prices = w.1.1 }
