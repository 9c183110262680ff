-- `hydro::largest_at` meets its contract. Assumes nothing.
use Rattle.std.proofs.Common.{◌≡◌, sym, ap, ap₂, ◌∙◌, suc, ◌+◌, ◌*◌, add-one, arith, rules}
use Rattle.rules_number.specs.Order.{max_z}
use Rattle.rules_number.specs.Over.{highest_to}
use Rattle.rules_number.proofs.Kit.{rd}
use Rattle.rules_library.specs.Slices.{cell_at}
use Rattle.rules_hydro.specs.Hydros.{hub_price, largest_at}
use Rattle.hydro.proofs.largest_at.Goals as goal

pub loop-j-init : goal.loop-j-init
unfolding highest_to
loop-j-init c =
    let a = c.args in
    let e : a.hub * 14 ≡ a.hub * 14 + 0 = omega arith in
    let f : rd c.cell_at-largest.result ≡ c.cell_at-largest.result = search rules in
    f ∙ c.cell_at-largest.ensures ∙ ap (cell_at a.prices.now) e

pub loop-j-preserved : goal.loop-j-preserved
unfolding highest_to
loop-j-preserved c =
    let a = c.args in
    let j = c.loop-j.j in
    let e : a.hub * 14 + j + 1 ≡ a.hub * 14 + suc j = omega arith in
    let fc : rd c.cell_at.result ≡ c.cell_at.result = search rules in
    let fm : rd c.max-largest.result ≡ c.max-largest.result = search rules in
    fm ∙ c.max-largest.ensures ∙ ap₂ max_z c.loop-j.invariant (fc ∙ c.cell_at.ensures ∙ ap (cell_at a.prices.now) e) ∙ ap (highest_to (hub_price a.prices.now a.hub)) (sym (add-one j))

pub returns : goal.returns
unfolding largest_at
returns c =
    let a = c.args in
    let e : c.loop-j.j ≡ a.n + 1 = omega arith in
    c.loop-j.invariant ∙ ap (highest_to (hub_price a.prices.now a.hub)) e
