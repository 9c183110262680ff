-- `noskjerf_hydro::noskjerf_hydro` meets its contract. Assumes nothing.
use Rattle.std.proofs.Common.{◌≡◌, sym, ap, ◌∙◌, ◌<◌, ◌≤◌, arith, w64}
use lib.Seq.{sets}
use mir.Facts.{to_z_pos}
use mir.ValLaws.{to_z-of_z}
use Rattle.rules_curve.specs.Curves.{curve_of, default_refusal}
use Rattle.rules_curve.specs.declared.Curve.{Curve}
use Rattle.rules_hydro.specs.Hydros.{hydro_curve, hydro_refusal, hydro_in, hydro_pack}
use Rattle.rules_library.specs.Slices.{edges_of, prices_of}
use Rattle.hydro.proofs.LimitLaws.{by_fields}
use Rattle.put_slices.proofs.PutLaws.{few_edges, few_prices, refused, written}
use Rattle.noskjerf_hydro.proofs.PackLaws.{told, same_number, taken_pack}
use Rattle.noskjerf_hydro.proofs.noskjerf_hydro.Goals as goal
use Rattle.noskjerf_hydro.proofs.noskjerf_hydro.Goals.{In-Ok}

pub returns-then-edges-lt-EDGES : goal.returns-then-edges-lt-EDGES
returns-then-edges-lt-EDGES c =
    let a = c.args in
    let x = hydro_in a.low a.high a.heat a.gas a.hubs a.horizon a.hub_prices.now in
    let w = few_edges a.edges.now a.prices.now (hydro_refusal x) (curve_of (hydro_curve x)) c.if-edges-lt-EDGES.true in
    record { answer = w.0; edges = w.1.0; prices = w.1.1 }

pub returns-then-prices-lt-PRICES : goal.returns-then-prices-lt-PRICES
returns-then-prices-lt-PRICES c =
    let a = c.args in
    let x = hydro_in a.low a.high a.heat a.gas a.hubs a.horizon a.hub_prices.now in
    let w = few_prices a.edges.now a.prices.now (hydro_refusal x) (curve_of (hydro_curve x)) c.if-edges-lt-EDGES.false c.if-prices-lt-PRICES.true in
    record { answer = w.0; edges = w.1.0; prices = w.1.1 }

pub returns-in-Err : goal.returns-in-Err
returns-in-Err c =
    let a = c.args in
    let x = hydro_in a.low a.high a.heat a.gas a.hubs a.horizon a.hub_prices.now in
    let came_in = by_fields (to_z-of_z w64 a.low c.ranges.low) (to_z-of_z w64 a.high c.ranges.high) (to_z-of_z w64 a.heat c.ranges.heat) (to_z-of_z w64 a.gas c.ranges.gas) in
    let n = c.outcome_number.result in
    let number : hydro_refusal x ≡ n = sym (c.outcome_number.ensures ∙ same_number c.in-Err.refusal ∙ c.in-Err.ensures.number ∙ ap hydro_refusal came_in) in
    let t = told c.in-Err.refusal in
    let few : n ≤ 99 = omega (arith, c.outcome_number.ensures, t.1) in
    let some : 0 < n = omega (arith, c.outcome_number.ensures, t.0) in
    let w = refused a.edges.now a.prices.now (hydro_refusal x) (curve_of (hydro_curve x)) c.if-edges-lt-EDGES.false c.if-prices-lt-PRICES.false n some number in
    record { answer = to_z_pos w64 {n = n} (omega (arith, few)) ∙ w.0; edges = w.1.0; prices = w.1.1 }

-- a pack that is taken
taken : (c : In-Ok) → let a = c.args in let x = hydro_in a.low a.high a.heat a.gas a.hubs a.horizon a.hub_prices.now in
    (hydro_refusal x ≡ 0) × ((c.in-Ok.pack ≡ hydro_curve x) × (default_refusal c.in-Ok.pack ≡ 0))
taken c =
    let a = c.args in
    let x = hydro_in a.low a.high a.heat a.gas a.hubs a.horizon a.hub_prices.now in
    let came_in = by_fields (to_z-of_z w64 a.low c.ranges.low) (to_z-of_z w64 a.high c.ranges.high) (to_z-of_z w64 a.heat c.ranges.heat) (to_z-of_z w64 a.gas c.ranges.gas) in
    let none = c.in-Ok.ensures.number ∙ ap hydro_refusal came_in in
    (sym none, taken_pack x c.in-Ok.pack none (c.in-Ok.ensures.pack ∙ ap hydro_pack came_in))

pub put_pack-requires : goal.put_pack-requires
put_pack-requires c = (taken (goal.at.put_pack-requires c).In-Ok).1.1

pub returns-in-Ok : goal.returns-in-Ok
returns-in-Ok c =
    let a = c.args in
    let x = hydro_in a.low a.high a.heat a.gas a.hubs a.horizon a.hub_prices.now in
    let t = taken (goal.at.returns-in-Ok c).In-Ok in
    let curve = ap curve_of t.1.0 in
    let w = written a.edges.now a.prices.now (hydro_refusal x) (curve_of (hydro_curve x)) c.if-edges-lt-EDGES.false c.if-prices-lt-PRICES.false t.0 in
    let put = c.put_pack.ensures in
    record {
      answer = rw put.answer w.0;
      edges = put.edges ∙ ap (λ (y : Curve). sets a.edges.now 0 (edges_of y)) curve ∙ w.1.0;
      prices = put.prices ∙ ap (λ (y : Curve). sets a.prices.now 0 (prices_of y)) curve ∙ w.1.1;
    }
