-- The component, the competitive price and the cut of a resource in an interval (paper 01, Interval and hour; 31.2.3, 34.1.5).
use Rattle.std.specs.Prelude.{◌&&◌, cond, List, ℕ, ℤ, pos, neg_ℤ, ◌+ℤ◌, ◌-ℤ◌, ◌*ℤ◌, None, Option, Some}
use Rattle.std.specs.Int.Signed.{lt_z}
use Rattle.rules_number.specs.Ceil.{ceil_div}
use Rattle.rules_number.specs.Over.{those, sum_over}
use Rattle.rules_interval.specs.Intervals.{shadow_at, lmp_at, dispatch_at, factor_at}
use Rattle.rules_interval.specs.declared.Interval.{Interval}
use Rattle.rules_path.specs.Paths.{is_non_competitive}
use Rattle.rules_path.specs.Judgements.{path_in}
use Rattle.rules_path.specs.declared.Market.{Market}

-- the constraints that enter the component: the non-competitive ones
unfoldable pub entering : Market → Interval → List ℕ
entering m v = those (λ c. is_non_competitive (path_in m v c)) v.constraints

-- C: minus the sum of s × shadow over them
unfoldable pub component : Market → Interval → ℕ → ℤ
component m v r = neg_ℤ (sum_over (λ c. factor_at v r c *ℤ shadow_at v c) (entering m v))

-- competitive price: lmp - C / 1,000,000, up
abbrev pub competitive_price : ℤ → ℤ → ℤ
competitive_price lmp c = ceil_div (lmp *ℤ pos 1000000 -ℤ c) 1000000

-- the cut of a resource with this dispatch, lmp, component and parameter (34.1.5.5): where dispatch > 0 and C > 0, the floor price L = competitive price + parameter
unfoldable pub cut_from : ℤ → ℤ → ℤ → ℤ → Option ℤ
cut_from dispatch lmp c parameter = cond (lt_z (pos 0) dispatch && lt_z (pos 0) c) (Some (competitive_price lmp c +ℤ parameter)) None

unfoldable pub cut_of : Market → Interval → ℕ → Option ℤ
cut_of m v r = cut_from (dispatch_at v r) (lmp_at v r) (component m v r) v.parameter
