-- `noskjerf_curves::noskjerf_default_of` meets its contract. Assumes nothing.
use Rattle.std.proofs.Common.{ℕ, ℤ, refl, sym, ap, ◌∙◌}
use mathlib.Core.Bool.{Bool, ◌&&◌}
use mathlib.Core.List.{List}
use lib.Seq.{sets}
use Rattle.rules_opening.specs.declared.Row.{Row}
use Rattle.rules_library.specs.Slices.{edges_of, prices_of, edge_count, price_count}
use Rattle.rules_state.specs.Calls.{holds}
use Rattle.rules_state.specs.Curves.{default_in, default_of_answer, default_of_edges, default_of_prices}
use Rattle.rules_state.specs.Layout.{state_room}
use Rattle.cells.proofs.AnswerLaws.{too_short, written}
use Rattle.noskjerf_curves.proofs.noskjerf_default_of.Goals as goal

abbrev room : List ℤ → List ℕ → List ℤ → Bool
room state edges prices = holds state_room state && (holds edge_count edges && holds price_count prices)

pub returns-then-not-has_room : goal.returns-then-not-has_room
unfolding default_of_answer default_of_edges default_of_prices
returns-then-not-has_room c =
    let a = c.args in
    let asked = default_in a.state.now a.r in
    let w = too_short (room a.state.now a.edges.now a.prices.now) 0 (sets a.edges.now 0 (edges_of asked)) a.edges.now (sets a.prices.now 0 (prices_of asked)) a.prices.now
    (sym c.has_room.ensures ∙ c.if-not-has_room.true) in
    record { answer = w.0; edges = w.1.0; prices = w.1.1 }

pub returns : goal.returns
unfolding default_of_answer default_of_edges default_of_prices
returns c =
    let a = c.args in
    let asked = default_in a.state.now a.r in
    let w = written (room a.state.now a.edges.now a.prices.now) 0 (sets a.edges.now 0 (edges_of asked)) a.edges.now (sets a.prices.now 0 (prices_of asked)) a.prices.now
    (sym c.has_room.ensures ∙ c.if-not-has_room.false) refl
    c.put_default.new.edges (c.put_default.ensures.edges ∙ ap (λ (y : Row). sets a.edges.now 0 (edges_of y.default)) c.row_in.ensures)
    c.put_default.new.prices (c.put_default.ensures.prices ∙ ap (λ (y : Row). sets a.prices.now 0 (prices_of y.default)) c.row_in.ensures) in
    record { answer = w.0; edges = w.1.0; prices = w.1.1 }
