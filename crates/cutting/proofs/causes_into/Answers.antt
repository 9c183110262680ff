-- `cutting::causes_into`: the cuts of an accepted interval. Assumes nothing.
use mathlib.Core.Path.{◌≡◌, refl, sym, ap, ◌∙◌}
use Prim.Native.Nat.{◌≤◌}
use native.Mathlib.Omega.{arith}
use lib.IntN.{pos}
use lib.ListN.{length, replicate}
use lib.ListN.{take}
use lib.Seq.{sets, length-take-le}
use Rattle.rules_curve.specs.Refusals.{outcome_number}
use Rattle.rules_interval.specs.Intervals.{interval_refusal}
use Rattle.rules_interval.proofs.IntervalLaws.{in_limits}
use Rattle.rules_state.specs.States.{market_in}
use Rattle.rules_state.specs.Causes.{causes_cells}
use Rattle.rules_state.specs.Verdicts.{judged_cells}
use Rattle.rules_state.specs.Takes.{if_accepted}
use Rattle.rules_state.proofs.TakeLaws.{accepted_length, written_zero}
use Rattle.interval.specs.Over.{lent_interval}
use Rattle.cutting.specs.Entering.{Lists, Priced}
use Rattle.cutting.proofs.EnteringLaws.{priced}
use Rattle.cutting.proofs.CellLaws.{taken_causes}
use Rattle.cutting.proofs.causes_into.Goals as goal
use Rattle.cutting.proofs.causes_into.Goals.{After-judged_into, In_ok-judged_into, After-entering_in-entering}

-- the judgement, of the values themselves
module _ (c : After-judged_into) where
  judged-number : outcome_number c.judged_into.result ≡ interval_refusal (market_in c.args.state.now).resources (lent_interval c.args.asked.now)
  judged-number = c.judged_into.ensures.number

  judged-verdicts : c.judged_into.new.verdicts ≡ if_accepted (interval_refusal (market_in c.args.state.now).resources (lent_interval c.args.asked.now)) (sets (replicate 640 (pos 0)) 0 (judged_cells (market_in c.args.state.now) (lent_interval c.args.asked.now))) (replicate 640 (pos 0))
  judged-verdicts = c.judged_into.ensures.verdicts

  judged-room : length c.judged_into.new.verdicts ≡ 640
  judged-room = ap length judged-verdicts ∙ accepted_length (interval_refusal (market_in c.args.state.now).resources (lent_interval c.args.asked.now)) (replicate 640 (pos 0)) 0 (judged_cells (market_in c.args.state.now) (lent_interval c.args.asked.now))

-- none of 13 to 16 applies where the outcome is accepted
module _ (c : In_ok-judged_into) (number : outcome_number c.judged_into.result ≡ interval_refusal (market_in c.args.state.now).resources (lent_interval c.args.asked.now)) where
  passed : interval_refusal (market_in c.args.state.now).resources (lent_interval c.args.asked.now) ≡ 0
  passed = sym number ∙ ap outcome_number c.in_ok-judged_into.was

  few : c.args.asked.now.constraints ≤ 32
  few = (in_limits (market_in c.args.state.now).resources (lent_interval c.args.asked.now) passed).constraints

-- what the list holds
module _ (c : After-entering_in-entering) where
  lists : Lists c.judged_into.new.verdicts c.args.asked.now.constraints c.entering_in-entering.new.list c.entering_in-entering.result
  lists = c.entering_in-entering.ensures

  listed-few : c.args.asked.now.constraints ≤ 32 → c.entering_in-entering.result ≤ length c.entering_in-entering.new.list
  listed-few h = omega (arith, lists.few, lists.room)

  priced-is : interval_refusal (market_in c.args.state.now).resources (lent_interval c.args.asked.now) ≡ 0 → Priced (lent_interval c.args.asked.now) (take c.entering_in-entering.result c.entering_in-entering.new.list)
  priced-is z =
      priced (market_in c.args.state.now).resources (lent_interval c.args.asked.now) c.judged_into.new.verdicts c.entering_in-entering.new.list c.entering_in-entering.result
      (in_limits (market_in c.args.state.now).resources (lent_interval c.args.asked.now) z) lists

pub entering_in-entering-requires : goal.entering_in-entering-requires
entering_in-entering-requires c =
    let p = goal.at.entering_in-entering-requires c in
    let j = p.After-judged_into in
    (judged-room j, (refl, few p.In_ok-judged_into (judged-number j)))

pub slice_bounds-list-end : goal.slice_bounds-list-end
slice_bounds-list-end c =
    let p = goal.at.slice_bounds-list-end c in
    listed-few p.After-entering_in-entering (few p.In_ok-judged_into (judged-number p.After-judged_into))

pub slice_bounds-put_causes-end : goal.slice_bounds-put_causes-end
slice_bounds-put_causes-end c =
    let p = goal.at.slice_bounds-put_causes-end c in
    sym (length-take-le _ _ (listed-few p.After-entering_in-entering (few p.In_ok-judged_into (judged-number p.After-judged_into))))

pub put_causes-requires : goal.put_causes-requires
put_causes-requires c =
    let p = goal.at.put_causes-requires c in
    (priced-is p.After-entering_in-entering (passed p.In_ok-judged_into (judged-number p.After-judged_into)))

pub returns-clause-causes : goal.returns-clause-causes
returns-clause-causes c =
    let p = goal.at.returns-clause-causes c in
    let j = p.After-judged_into in
    let z = passed p.In_ok-judged_into (judged-number j) in
    let put = c.put_causes.ensures in
    let taken = taken_causes (market_in c.args.state.now) (lent_interval c.args.asked.now) (replicate 640 (pos 0)) c.judged_into.new.verdicts _ z refl (judged-verdicts j) (lists p.After-entering_in-entering).are in
    put ∙ ap (sets c.args.causes.now 0) taken ∙ sym (written_zero (interval_refusal (market_in c.args.state.now).resources (lent_interval c.args.asked.now)) (sets c.args.causes.now 0 (causes_cells (market_in c.args.state.now) (lent_interval c.args.asked.now))) c.args.causes.now z)
