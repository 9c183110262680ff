use mathlib.Core.Path.{refl, sym, ap, ◌∙◌}
use native.Mathlib.Omega.{arith}
use lib.Seq.{sets}
use Rattle.rules_state.specs.States.{market_in}
use Rattle.path.specs.Tallies.{sold_in}
use Rattle.path.proofs.JudgedLaws.{verdict_length, puts_begin, puts_go_on, puts_end}
use Rattle.path.proofs.MarketLaws.{found, found_cells_lem}
use Rattle.path.proofs.SoundLaws.{count_is, sound_at}
use Rattle.path.proofs.judged_into.Goals as goal

pub loop-c-init : goal.loop-c-init
loop-c-init c = puts_begin _ _ _

pub judge_into-requires : goal.judge_into-requires
judge_into-requires c =
    (sound_at _ c.args.asked.now c.in_ok-ports.ensures.number c.loop-c.c c.loop-c-test.true, c.in_ok-ports.ensures.sellers.1)

pub loop-c-preserved : goal.loop-c-preserved
loop-c-preserved c =
    let v = c.args.asked.now in
    let by = c.checked_sellers.new.sellers in
    let f = found v.shadow.now by v.factors.now v.outputs.now v.resources in
    puts_go_on f v.constraints c.args.verdicts.now c.loop-c.verdicts c.loop-c.c _ (f c.loop-c.c) c.loop-c.invariant c.loop-c-test.true refl (verdict_length (sold_in v by c.loop-c.c)) c.judge_into.ensures

pub returns-clause-verdicts : goal.returns-clause-verdicts
returns-clause-verdicts c =
    let m = market_in c.args.state.now in
    let v = c.args.asked.now in
    let by = c.checked_sellers.new.sellers in
    let taken = c.in_ok-ports.ensures.number in
    let all = found_cells_lem m v.constraints v.shadow.now v.resources v.outputs.now v.factors.now v.parameter v.resources by (count_is m.resources v taken) c.in_ok-ports.ensures.sellers.0 in
    puts_end (found v.shadow.now by v.factors.now v.outputs.now v.resources) v.constraints c.args.verdicts.now c.loop-c.verdicts c.loop-c.c c.loop-c.invariant (omega arith)
    ∙ ap (sets c.args.verdicts.now 0) all ∙ rw (sym taken)
