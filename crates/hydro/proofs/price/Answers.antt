-- `hydro::price` meets its contract. Assumes nothing.
use Rattle.std.proofs.Common.{◌≡◌, sym, ap, ap₂, subst, ◌∙◌, ◌≤◌, ℤ, pos, nat_abs, ◌*ℤ◌, arith, rules}
use Rattle.rules_number.specs.Ceil.{ceil_div}
use Rattle.rules_number.specs.Order.{in_range, max_z}
use Rattle.rules_number.proofs.Kit.{rd}
use Rattle.rules_hydro.specs.Hydros.{gas_floor, short_term_price, long_term, hydro_price}
use Rattle.hydro.specs.Given.{lent_hydro}
use Rattle.hydro.proofs.LimitLaws.{heat_in, gas_in, counts_in, near_in, far_in}
use Rattle.hydro.proofs.price.Goals as goal

pub gas_floor-floor-requires : goal.gas_floor-floor-requires
gas_floor-floor-requires c =
    let a = c.args.given.now in
    let fh : rd a.heat ≡ a.heat = search rules in
    let fq : rd a.gas ≡ a.gas = search rules in
    let x = lent_hydro a in (
      ap (in_range (pos 1) (pos 100000)) fh ∙ heat_in x c.requires,
      ap (in_range (pos 0) (pos 1000000)) fq ∙ gas_in x c.requires,
    )

pub tenths-short-requires : goal.tenths-short-requires
tenths-short-requires c =
    let a = c.args.given.now in
    let x = lent_hydro a in
    let f : rd c.largest_at.result ≡ c.largest_at.result = search rules in
    (omega arith, subst (λ (z : ℤ). nat_abs z ≤ 100000000) (sym (f ∙ c.largest_at.ensures)) (near_in x c.requires))

pub largest_over-requires : goal.largest_over-requires
largest_over-requires c = let a = c.args.given.now in counts_in (lent_hydro a) c.requires

pub tenths-long-requires : goal.tenths-long-requires
tenths-long-requires c =
    let a = c.args.given.now in
    let x = lent_hydro a in
    let f : rd c.largest_over.result ≡ c.largest_over.result = search rules in
    (omega arith, subst (λ (z : ℤ). nat_abs z ≤ 100000000) (sym (f ∙ c.largest_over.ensures)) (far_in x c.requires))

pub returns : goal.returns
unfolding hydro_price short_term_price long_term
returns c =
    let a = c.args.given.now in
    let fh : rd a.heat ≡ a.heat = search rules in
    let fq : rd a.gas ≡ a.gas = search rules in
    let fn : rd c.largest_at.result ≡ c.largest_at.result = search rules in
    let ff : rd c.largest_over.result ≡ c.largest_over.result = search rules in
    let fg : rd c.gas_floor-floor.result ≡ c.gas_floor-floor.result = search rules in
    let fs : rd c.tenths-short.result ≡ c.tenths-short.result = search rules in
    let fl : rd c.tenths-long.result ≡ c.tenths-long.result = search rules in
    let fm : rd c.max.result ≡ c.max.result = search rules in
    let fr : rd c.max-2.result ≡ c.max-2.result = search rules in
    let floor : rd c.gas_floor-floor.result ≡ gas_floor a.heat a.gas =
    fg ∙ c.gas_floor-floor.ensures ∙ ap₂ gas_floor fh fq in
    let short : rd c.tenths-short.result ≡ short_term_price a.prices.now =
    fs ∙ c.tenths-short.ensures ∙ ap (λ (z : ℤ). ceil_div (pos 14 *ℤ z) 10) (fn ∙ c.largest_at.ensures) in
    let long : rd c.tenths-long.result ≡ long_term a.prices.now a.hubs a.horizon =
    fl ∙ c.tenths-long.ensures ∙ ap (λ (z : ℤ). ceil_div (pos 11 *ℤ z) 10) (ff ∙ c.largest_over.ensures) in
    fr ∙ c.max-2.ensures ∙ ap₂ max_z floor (fm ∙ c.max.ensures ∙ ap₂ max_z short long)
