-- `taking::pass_into`: the number of the way it ends, and what is written. Assumes nothing.
use mathlib.Core.List.{List}
use mathlib.Core.Path.{◌≡◌, sym, ap, ◌∙◌}
use Prim.Native.Nat.{◌≤◌, ◌<◌}
use lib.Dec.{lit<}
use lib.IntN.{ℤ}
use lib.Seq.{sets}
use native.Mathlib.Omega.{arith}
use Rattle.rules_curve.specs.Refusals.{outcome_number}
use Rattle.rules_interval.specs.Intervals.{interval_refusal}
use Rattle.rules_pass.specs.Passes.{turn_refusal}
use Rattle.rules_state.specs.States.{standing_in, quarter_in, market_in}
use Rattle.rules_state.specs.Verdicts.{judged_cells}
use Rattle.rules_state.specs.Takes.{if_accepted, quarter_written}
use Rattle.rules_state.proofs.TakeLaws.{not_written}
use Rattle.interval.specs.Over.{lent_interval}
use Rattle.taking.proofs.TurnLaws.{no_interval, three_passes, own_turn, accepted_in, passes_in, pass_written_lem, same_number}
use Rattle.taking.proofs.pass_into.Goals as goal
use Rattle.taking.proofs.pass_into.Goals.{Start, After-whole_at-accepted, After-whole_at-passes, After-cut_into}

accepted-is : (c : After-whole_at-accepted) → c.whole_at-accepted.result ≡ (standing_in c.args.state.now).accepted
accepted-is c = c.whole_at-accepted.ensures ∙ sym (accepted_in c.args.state.now (lent_interval c.args.asked.now))

passes-are : (c : After-whole_at-passes) → c.whole_at-passes.result ≡ (quarter_in c.args.state.now).passes
passes-are c = c.whole_at-passes.ensures ∙ sym (passes_in c.args.state.now (lent_interval c.args.asked.now))

-- a refusal leaves both
left-state : (c : Start) → 0 < turn_refusal (market_in c.args.state.now) (standing_in c.args.state.now).accepted (quarter_in c.args.state.now) (lent_interval c.args.asked.now) → c.args.state.now ≡ if_accepted (turn_refusal (market_in c.args.state.now) (standing_in c.args.state.now).accepted (quarter_in c.args.state.now) (lent_interval c.args.asked.now)) (quarter_written c.args.state.now (lent_interval c.args.asked.now)) c.args.state.now
left-state c some = sym (not_written (turn_refusal (market_in c.args.state.now) (standing_in c.args.state.now).accepted (quarter_in c.args.state.now) (lent_interval c.args.asked.now)) (quarter_written c.args.state.now (lent_interval c.args.asked.now)) c.args.state.now some)

left-verdicts : (c : Start) → 0 < turn_refusal (market_in c.args.state.now) (standing_in c.args.state.now).accepted (quarter_in c.args.state.now) (lent_interval c.args.asked.now) → c.args.verdicts.now ≡ if_accepted (turn_refusal (market_in c.args.state.now) (standing_in c.args.state.now).accepted (quarter_in c.args.state.now) (lent_interval c.args.asked.now)) (sets c.args.verdicts.now 0 (judged_cells (market_in c.args.state.now) (lent_interval c.args.asked.now))) c.args.verdicts.now
left-verdicts c some = sym (not_written (turn_refusal (market_in c.args.state.now) (standing_in c.args.state.now).accepted (quarter_in c.args.state.now) (lent_interval c.args.asked.now)) (sets c.args.verdicts.now 0 (judged_cells (market_in c.args.state.now) (lent_interval c.args.asked.now))) c.args.verdicts.now some)

-- what the cuts made
cut-number : (c : After-cut_into) → outcome_number c.cut_into.result ≡ interval_refusal (market_in c.args.state.now).resources (lent_interval c.args.asked.now)
cut-number c = c.cut_into.ensures.number

cut-cells : (c : After-cut_into) → c.whole_at-passes.result ≡ (quarter_in c.args.state.now).passes
    → c.cut_into.new.state ≡ if_accepted (interval_refusal (market_in c.args.state.now).resources (lent_interval c.args.asked.now)) (quarter_written c.args.state.now (lent_interval c.args.asked.now)) c.args.state.now
cut-cells c e =
    c.cut_into.ensures.state
    ∙ ap (λ (x : List ℤ). if_accepted (interval_refusal (market_in c.args.state.now).resources (lent_interval c.args.asked.now)) x c.args.state.now) (pass_written_lem c.args.state.now (lent_interval c.args.asked.now) _ e)

cut-verdicts : (c : After-cut_into) → c.cut_into.new.verdicts ≡ if_accepted (interval_refusal (market_in c.args.state.now).resources (lent_interval c.args.asked.now)) (sets c.args.verdicts.now 0 (judged_cells (market_in c.args.state.now) (lent_interval c.args.asked.now))) c.args.verdicts.now
cut-verdicts c = c.cut_into.ensures.verdicts

pub returns-then-accepted-eq0 : goal.returns-then-accepted-eq0
returns-then-accepted-eq0 c =
    let p = goal.at.returns-then-accepted-eq0 c in
    let h = c.args.state.now in
    let l : (standing_in h).accepted ≤ 0 = omega (arith, accepted-is p.After-whole_at-accepted, c.if-accepted-eq0.true) in
    let e : turn_refusal (market_in c.args.state.now) (standing_in c.args.state.now).accepted (quarter_in c.args.state.now) (lent_interval c.args.asked.now) ≡ 19 = no_interval (market_in c.args.state.now) (standing_in h).accepted (quarter_in h) (lent_interval c.args.asked.now) l in
    let some : 0 < turn_refusal (market_in c.args.state.now) (standing_in c.args.state.now).accepted (quarter_in c.args.state.now) (lent_interval c.args.asked.now) = rw e (lit< tt) in
    record { number = sym e; state = left-state p.Start some; verdicts = left-verdicts p.Start some }

pub returns-then-passes-ge-MAX_PASSES : goal.returns-then-passes-ge-MAX_PASSES
returns-then-passes-ge-MAX_PASSES c =
    let p = goal.at.returns-then-passes-ge-MAX_PASSES c in
    let h = c.args.state.now in
    let some-accepted : 0 < (standing_in h).accepted = omega (arith, accepted-is p.After-whole_at-accepted, c.if-accepted-eq0.false) in
    let l : 3 ≤ (quarter_in h).passes = rw (passes-are p.After-whole_at-passes) at c.if-passes-ge-MAX_PASSES.true in
    let e : turn_refusal (market_in c.args.state.now) (standing_in c.args.state.now).accepted (quarter_in c.args.state.now) (lent_interval c.args.asked.now) ≡ 19 = three_passes (market_in c.args.state.now) (standing_in h).accepted (quarter_in h) (lent_interval c.args.asked.now) some-accepted l in
    let some : 0 < turn_refusal (market_in c.args.state.now) (standing_in c.args.state.now).accepted (quarter_in c.args.state.now) (lent_interval c.args.asked.now) = rw e (lit< tt) in
    record { number = sym e; state = left-state p.Start some; verdicts = left-verdicts p.Start some }

pub returns : goal.returns
returns c =
    let p = goal.at.returns c in
    let j = p.After-cut_into in
    let h = c.args.state.now in
    let some-accepted : 0 < (standing_in h).accepted = omega (arith, accepted-is p.After-whole_at-accepted, c.if-accepted-eq0.false) in
    let a = passes-are p.After-whole_at-passes in
    let l : (quarter_in h).passes < 3 = rw a at c.if-passes-ge-MAX_PASSES.false in
    let e : turn_refusal (market_in c.args.state.now) (standing_in c.args.state.now).accepted (quarter_in c.args.state.now) (lent_interval c.args.asked.now) ≡ interval_refusal (market_in c.args.state.now).resources (lent_interval c.args.asked.now) = own_turn (market_in c.args.state.now) (standing_in h).accepted (quarter_in h) (lent_interval c.args.asked.now) some-accepted l in
    record {
      number = cut-number j ∙ sym e;
      state = same_number (turn_refusal (market_in c.args.state.now) (standing_in c.args.state.now).accepted (quarter_in c.args.state.now) (lent_interval c.args.asked.now)) (interval_refusal (market_in c.args.state.now).resources (lent_interval c.args.asked.now)) _ (quarter_written c.args.state.now (lent_interval c.args.asked.now)) c.args.state.now e (cut-cells j a);
      verdicts = same_number (turn_refusal (market_in c.args.state.now) (standing_in c.args.state.now).accepted (quarter_in c.args.state.now) (lent_interval c.args.asked.now)) (interval_refusal (market_in c.args.state.now).resources (lent_interval c.args.asked.now)) _ (sets c.args.verdicts.now 0 (judged_cells (market_in c.args.state.now) (lent_interval c.args.asked.now))) c.args.verdicts.now e (cut-verdicts j);
    }
