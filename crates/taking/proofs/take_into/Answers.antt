-- `taking::take_into`: the number of the way it ends, and what is written. Assumes nothing.
use mathlib.Core.List.{List}
use mathlib.Core.Path.{◌≡◌, sym, ap, ◌∙◌}
use Prim.Native.Nat.{◌≤◌, ◌<◌}
use lib.Dec.{lit<}
use lib.IntN.{ℤ}
use lib.Seq.{sets}
use Rattle.rules_curve.specs.Refusals.{outcome_number}
use Rattle.rules_interval.specs.Intervals.{interval_refusal}
use Rattle.rules_hour.specs.Hours.{call_refusal}
use Rattle.rules_state.specs.States.{standing_in, market_in}
use Rattle.rules_state.specs.Verdicts.{judged_cells}
use Rattle.rules_state.specs.Takes.{if_accepted, standing_written}
use Rattle.rules_state.proofs.TakeLaws.{not_written}
use Rattle.interval.specs.Over.{lent_interval}
use Rattle.taking.proofs.TurnLaws.{full, open_for, accepted_in, interval_written_lem, same_number}
use Rattle.taking.proofs.take_into.Goals as goal
use Rattle.taking.proofs.take_into.Goals.{Start, After-whole_at-accepted, After-cut_into}

accepted-is : (c : After-whole_at-accepted) → c.whole_at-accepted.result ≡ (standing_in c.args.state.now).accepted
accepted-is c = c.whole_at-accepted.ensures ∙ sym (accepted_in c.args.state.now (lent_interval c.args.asked.now))

-- a refusal leaves both
left-state : (c : Start) → 0 < call_refusal (market_in c.args.state.now) (standing_in c.args.state.now) (lent_interval c.args.asked.now) → c.args.state.now ≡ if_accepted (call_refusal (market_in c.args.state.now) (standing_in c.args.state.now) (lent_interval c.args.asked.now)) (standing_written c.args.state.now (lent_interval c.args.asked.now)) c.args.state.now
left-state c some = sym (not_written (call_refusal (market_in c.args.state.now) (standing_in c.args.state.now) (lent_interval c.args.asked.now)) (standing_written c.args.state.now (lent_interval c.args.asked.now)) c.args.state.now some)

left-verdicts : (c : Start) → 0 < call_refusal (market_in c.args.state.now) (standing_in c.args.state.now) (lent_interval c.args.asked.now) → c.args.verdicts.now ≡ if_accepted (call_refusal (market_in c.args.state.now) (standing_in c.args.state.now) (lent_interval c.args.asked.now)) (sets c.args.verdicts.now 0 (judged_cells (market_in c.args.state.now) (lent_interval c.args.asked.now))) c.args.verdicts.now
left-verdicts c some = sym (not_written (call_refusal (market_in c.args.state.now) (standing_in c.args.state.now) (lent_interval c.args.asked.now)) (sets c.args.verdicts.now 0 (judged_cells (market_in c.args.state.now) (lent_interval c.args.asked.now))) c.args.verdicts.now some)

-- what the cuts made
cut-number : (c : After-cut_into) → outcome_number c.cut_into.result ≡ interval_refusal (market_in c.args.state.now).resources (lent_interval c.args.asked.now)
cut-number c = c.cut_into.ensures.number

cut-cells : (c : After-cut_into) → c.whole_at-accepted.result ≡ (standing_in c.args.state.now).accepted
    → c.cut_into.new.state ≡ if_accepted (interval_refusal (market_in c.args.state.now).resources (lent_interval c.args.asked.now)) (standing_written c.args.state.now (lent_interval c.args.asked.now)) c.args.state.now
cut-cells c e =
    c.cut_into.ensures.state
    ∙ ap (λ (x : List ℤ). if_accepted (interval_refusal (market_in c.args.state.now).resources (lent_interval c.args.asked.now)) x c.args.state.now) (interval_written_lem c.args.state.now (lent_interval c.args.asked.now) _ e)

cut-verdicts : (c : After-cut_into) → c.cut_into.new.verdicts ≡ if_accepted (interval_refusal (market_in c.args.state.now).resources (lent_interval c.args.asked.now)) (sets c.args.verdicts.now 0 (judged_cells (market_in c.args.state.now) (lent_interval c.args.asked.now))) c.args.verdicts.now
cut-verdicts c = c.cut_into.ensures.verdicts

pub returns-then-accepted-ge-MAX_INTERVALS : goal.returns-then-accepted-ge-MAX_INTERVALS
returns-then-accepted-ge-MAX_INTERVALS c =
    let p = goal.at.returns-then-accepted-ge-MAX_INTERVALS c in
    let l : 4 ≤ (standing_in c.args.state.now).accepted = rw (accepted-is p.After-whole_at-accepted) at c.if-accepted-ge-MAX_INTERVALS.true in
    let e : call_refusal (market_in c.args.state.now) (standing_in c.args.state.now) (lent_interval c.args.asked.now) ≡ 12 = full (market_in c.args.state.now) (standing_in c.args.state.now) (lent_interval c.args.asked.now) l in
    let some : 0 < call_refusal (market_in c.args.state.now) (standing_in c.args.state.now) (lent_interval c.args.asked.now) = rw e (lit< tt) in
    record { number = sym e; state = left-state p.Start some; verdicts = left-verdicts p.Start some }

pub returns : goal.returns
returns c =
    let p = goal.at.returns c in
    let j = p.After-cut_into in
    let a = accepted-is p.After-whole_at-accepted in
    let l : (standing_in c.args.state.now).accepted < 4 = rw a at c.if-accepted-ge-MAX_INTERVALS.false in
    let e : call_refusal (market_in c.args.state.now) (standing_in c.args.state.now) (lent_interval c.args.asked.now) ≡ interval_refusal (market_in c.args.state.now).resources (lent_interval c.args.asked.now) = open_for (market_in c.args.state.now) (standing_in c.args.state.now) (lent_interval c.args.asked.now) l in
    record {
      number = cut-number j ∙ sym e;
      state = same_number (call_refusal (market_in c.args.state.now) (standing_in c.args.state.now) (lent_interval c.args.asked.now)) (interval_refusal (market_in c.args.state.now).resources (lent_interval c.args.asked.now)) _ (standing_written c.args.state.now (lent_interval c.args.asked.now)) c.args.state.now e (cut-cells j a);
      verdicts = same_number (call_refusal (market_in c.args.state.now) (standing_in c.args.state.now) (lent_interval c.args.asked.now)) (interval_refusal (market_in c.args.state.now).resources (lent_interval c.args.asked.now)) _ (sets c.args.verdicts.now 0 (judged_cells (market_in c.args.state.now) (lent_interval c.args.asked.now))) c.args.verdicts.now e (cut-verdicts j);
    }
