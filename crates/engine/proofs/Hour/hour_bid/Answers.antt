-- `engine::Hour/hour_bid`: by the intervals that are accepted.
use mathlib.Core.Path.{sym, ◌∙◌}
use Rattle.rules_hour.specs.Hours.{curve_in}
use Rattle.rules_hour_bid.specs.HourBids.{hour_bid_in}
use Rattle.rules_hour_bid.proofs.HourBidIs.{full_hour, open_hour, refused_bid, given_bid}
use Rattle.rules_state.specs.States.{standing_in}
use Rattle.engine.specs.Hours.{as_real_time}
use Rattle.engine.proofs.Hour.hour_bid.Goals as goal

pub returns-then-whole_at-lt-MAX_INTERVALS : goal.returns-then-whole_at-lt-MAX_INTERVALS
unfolding standing_in
returns-then-whole_at-lt-MAX_INTERVALS c =
    let h = as_real_time c.args.self in
    let e = open_hour h (rw c.whole_at.ensures at c.if-whole_at-lt-MAX_INTERVALS.true) in
    record { number = sym e; curve = sym (refused_bid h c.args.r 19 e) }

pub returns : goal.returns
unfolding standing_in hour_bid_in curve_in
returns c =
    let h = as_real_time c.args.self in
    let e = full_hour h (rw c.whole_at.ensures at c.if-whole_at-lt-MAX_INTERVALS.false) in
    record { number = sym e; curve = c.present_in.ensures ∙ sym (given_bid h c.args.r e) }
