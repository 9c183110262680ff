use mathlib.Core.Path.{refl, sym, ap, ◌∙◌}
use native.Mathlib.Omega.{arith}
use lib.Seq.{sets}
use Rattle.rules_state.specs.States.{market_in}
use Rattle.path.proofs.OfferLaws.{puts_begin, puts_go_on, puts_end, sold, offered_cells_lem}
use Rattle.path.proofs.SoundLaws.{count_is, sound_at}
use Rattle.path.proofs.offered_into.Goals as goal

pub loop-c-init : goal.loop-c-init
loop-c-init c = puts_begin _ _ _

pub offer_into-requires : goal.offer_into-requires
offer_into-requires c = sound_at _ c.args.asked.now c.in_ok-checked_sellers.ensures.number c.loop-c.c c.loop-c-test.true

pub loop-c-preserved : goal.loop-c-preserved
loop-c-preserved c =
    let v = c.args.asked.now in
    puts_go_on (sold v.shadow.now c.checked_sellers.new.sellers v.factors.now v.outputs.now v.resources) v.constraints c.args.offered.now c.loop-c.offered c.loop-c.c _ c.loop-c.invariant c.loop-c-test.true refl c.offer_into.ensures

pub returns-clause-offered : goal.returns-clause-offered
returns-clause-offered c =
    let m = market_in c.args.state.now in
    let v = c.args.asked.now in
    let by = c.checked_sellers.new.sellers in
    let taken = c.in_ok-checked_sellers.ensures.number in
    let all = offered_cells_lem m v.constraints v.shadow.now v.resources v.outputs.now v.factors.now v.parameter v.resources by (count_is m.resources v taken) c.in_ok-checked_sellers.ensures.sellers.0 in
    puts_end (sold v.shadow.now by v.factors.now v.outputs.now v.resources) v.constraints c.args.offered.now c.loop-c.offered c.loop-c.c c.loop-c.invariant (omega arith)
    ∙ ap (sets c.args.offered.now 0) all ∙ rw (sym taken)
