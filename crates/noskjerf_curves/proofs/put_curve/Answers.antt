-- `noskjerf_curves::put_curve` meets its contract. Assumes nothing.
use Rattle.std.proofs.Common.{sym, ap, ◌∙◌, arith}
use mathlib.Core.Bool.{Bool}
use lib.Seq.{sets}
use Rattle.rules_curve.specs.Refusals.{unless}
use Rattle.rules_state.specs.Curves.{mitigated_edges, mitigated_prices, mitigated_room}
use Rattle.cells.proofs.AnswerLaws.{too_short, refused, written}
use Rattle.noskjerf_curves.proofs.put_curve.Goals as goal

pub returns-then-not-has_room : goal.returns-then-not-has_room
returns-then-not-has_room c =
    let a = c.args in
    let w = too_short (mitigated_room a.state.now a.edges.now a.prices.now) (unless a.full 20) (sets a.edges.now 0 (mitigated_edges a.curve)) a.edges.now
    (sets a.prices.now 0 (mitigated_prices a.curve)) a.prices.now (sym c.has_room.ensures ∙ c.if-not-has_room.true) in
    record { answer = w.0; edges = w.1.0; prices = w.1.1 }

pub returns-then-not-full : goal.returns-then-not-full
returns-then-not-full c =
    let a = c.args in
    let w = refused (mitigated_room a.state.now a.edges.now a.prices.now) (unless a.full 20) (sets a.edges.now 0 (mitigated_edges a.curve)) a.edges.now
    (sets a.prices.now 0 (mitigated_prices a.curve)) a.prices.now (sym c.has_room.ensures ∙ c.if-not-has_room.false)
    20 (omega arith) (ap (λ (b : Bool). unless b 20) c.if-not-full.true) in
    record { answer = w.0; edges = w.1.0; prices = w.1.1 }

pub returns : goal.returns
returns c =
    let a = c.args in
    let w = written (mitigated_room a.state.now a.edges.now a.prices.now) (unless a.full 20) (sets a.edges.now 0 (mitigated_edges a.curve)) a.edges.now
    (sets a.prices.now 0 (mitigated_prices a.curve)) a.prices.now (sym c.has_room.ensures ∙ c.if-not-has_room.false)
    (ap (λ (b : Bool). unless b 20) c.if-not-full.false) _ c.put_mitigated.ensures.edges _ c.put_mitigated.ensures.prices in
    record { answer = w.0; edges = w.1.0; prices = w.1.1 }
