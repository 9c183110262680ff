-- `hydro::one_step` meets its contract. Assumes nothing.
use mir.ValLaws.{to_z-of_z}
use Rattle.rules_number.specs.Over.{padded}
use Rattle.rules_hydro.specs.Hydros.{one_step}
use Rattle.hydro.proofs.one_step.Goals as goal

pub returns : goal.returns
unfolding one_step padded
returns c =
    let l = c.ranges.low in
    let h = c.ranges.high in
    let p = c.ranges.price in
    simp to_z-of_z
