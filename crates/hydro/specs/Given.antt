-- What a hydro default is made from, with lent prices.
use Rattle.rules_hydro.specs.Hydros.{hydro_in}
use Rattle.rules_hydro.specs.declared.Hydro.{Hydro}
use Rattle.hydro.specs.declared.LentHydro.{LentHydro}

abbrev pub lent_hydro : LentHydro → Hydro
lent_hydro g = hydro_in g.low g.high g.heat g.gas g.hubs g.horizon g.prices.now
