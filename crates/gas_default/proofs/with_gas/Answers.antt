-- `gas_default::with_gas` meets its contract. Assumes nothing.
use Rattle.std.proofs.Common.{◌≡◌, arith, rules, w64}
use mir.Facts.{to_z_pos}
use Rattle.rules_number.proofs.Kit.{rd}
use Rattle.rules_gas.specs.Booked.{with_gas}
use Rattle.gas_default.proofs.with_gas.Goals as goal

pub returns : goal.returns
unfolding with_gas
returns c =
    let a = c.args.costs in
    let rate : rd a.rate ≡ a.rate = search rules in
    let allowance : rd a.allowance ≡ a.allowance = search rules in
    let om : rd a.om ≡ a.om = search rules in
    let msc : rd a.msc ≡ a.msc = search rules in
    let soc : rd a.soc ≡ a.soc = search rules in
    let fee : rd a.fee ≡ a.fee = search rules in
    rw (to_z_pos w64 {n = c.args.price} (omega (arith, c.ranges.price)), rate, allowance, om, msc, soc, fee)
