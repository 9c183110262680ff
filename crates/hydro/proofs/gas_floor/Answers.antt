-- `hydro::gas_floor` meets its contract. Assumes nothing.
use Rattle.std.proofs.Common.{◌≡◌, true, ap, ◌∙◌, ℤ, pos, rules}
use Rattle.rules_number.specs.Ceil.{ceil_div}
use Rattle.rules_number.specs.Order.{in_range}
use Rattle.rules_number.proofs.Kit.{rd}
use Rattle.rules_number.proofs.Meant.{Meant, fits, kept, const, ◌⊗◌, held}
use Rattle.rules_number.proofs.RangeLaws.{bd_in}
use Rattle.rules_hydro.specs.Hydros.{gas_floor}
use Rattle.hydro.proofs.gas_floor.Goals as goal

module _ (heat gas : ℤ) (h : in_range (pos 1) (pos 100000) heat ≡ true) (g : in_range (pos 0) (pos 1000000) gas ≡ true) where
  abbrev of_heat : Meant
  of_heat = held (bd_in 1 100000 heat h) tt

  abbrev product : Meant
  product = kept (const 11 ⊗ of_heat) tt ⊗ held (bd_in 0 1000000 gas g) tt

pub overflow_mul-heat : goal.overflow_mul-heat
overflow_mul-heat c = let a = c.args in fits (const 11 ⊗ of_heat a.heat a.gas c.requires.0 c.requires.1) tt

pub overflow_mul-heat-2 : goal.overflow_mul-heat-2
overflow_mul-heat-2 c = let a = c.args in fits (product a.heat a.gas c.requires.0 c.requires.1) tt

pub returns : goal.returns
unfolding gas_floor
returns c =
    let a = c.args in
    let f : rd c.ceil_by.result ≡ c.ceil_by.result = search rules in
    f ∙ c.ceil_by.ensures ∙ ap (λ (n : ℤ). ceil_div n 10000) (kept (product a.heat a.gas c.requires.0 c.requires.1) tt).same
