-- `cost::incremental_rate`. Assumes nothing.
use Rattle.std.proofs.Common.{◌≡◌, ℤ, true, sym, ap₂, ◌∙◌, rules}
use lib.Signed.{le_z}
use Rattle.rules_number.specs.Order.{min_z, max_z, nat_of}
use Rattle.rules_number.specs.Ceil.{ceil_div}
use Rattle.rules_number.proofs.Kit.{rd}
use Rattle.rules_number.proofs.Meant.{Meant, fits, kept, const, ◌⊖◌, ◌⊗◌, held}
use Rattle.rules_cost.specs.Costs.{mw_in_range, heat_in_range, is_limited, width, unlimited, incremental_rate}
use Rattle.rules_cost.proofs.RangeLaws.{mw_size, heat_size}
use Rattle.cost.specs.Cells.{point_of}
use Rattle.cost.proofs.incremental_rate.Goals as goal

-- each expression of the code, with its integer and its bound
module _ (from_mw mw end pmax from_heat heat : ℤ)
    (quantities : (mw_in_range from_mw ≡ true) × ((mw_in_range mw ≡ true) × ((mw_in_range end ≡ true) × (mw_in_range pmax ≡ true))))
    (heats : (heat_in_range from_heat ≡ true) × (heat_in_range heat ≡ true)) where
  abbrev m : Meant
  m = held (mw_size from_mw quantities.0) tt

  abbrev m' : Meant
  m' = held (mw_size mw quantities.1.0) tt

  abbrev top : Meant
  top = held (mw_size pmax quantities.1.1.1) tt

  abbrev e : Meant
  e = held (mw_size end quantities.1.1.0) tt

  abbrev h : Meant
  h = held (heat_size from_heat heats.0) tt

  abbrev h' : Meant
  h' = held (heat_size heat heats.1) tt

  abbrev before_to : Meant
  before_to = h' ⊗ m'

  abbrev before_from : Meant
  before_from = h ⊗ m

  abbrev n : Meant
  n = kept before_to tt ⊖ kept before_from tt

  abbrev w : Meant
  w = m' ⊖ m

  abbrev five : Meant
  five = const 5 ⊗ e

  abbrev four : Meant
  four = const 4 ⊗ top

  -- R before the limit
  unlimited_is : (r : ℤ) → r ≡ ceil_div (kept n tt).code (nat_of (kept w tt).code) → r ≡ unlimited (point_of from_mw from_heat) (point_of mw heat)
  unfolding unlimited width
  unlimited_is r q = q ∙ ap₂ (λ (a b : ℤ). ceil_div a (nat_of b)) (kept n tt).same (kept w tt).same

  -- the limit's test
  limit_is : le_z (kept five tt).code (kept four tt).code ≡ is_limited pmax end
  limit_is = ap₂ le_z (kept five tt).same (kept four tt).same

pub overflow_mul-n : goal.overflow_mul-n
overflow_mul-n c = fits (before_to _ _ _ _ _ _ c.requires.quantities c.requires.heats) tt

pub overflow_mul-n-2 : goal.overflow_mul-n-2
overflow_mul-n-2 c = fits (before_from _ _ _ _ _ _ c.requires.quantities c.requires.heats) tt

pub overflow_sub-n : goal.overflow_sub-n
overflow_sub-n c = fits (n _ _ _ _ _ _ c.requires.quantities c.requires.heats) tt

pub overflow_sub-mw : goal.overflow_sub-mw
overflow_sub-mw c = fits (w _ _ _ _ _ _ c.requires.quantities c.requires.heats) tt

pub overflow_mul-end : goal.overflow_mul-end
overflow_mul-end c = fits (five _ _ _ _ _ _ c.requires.quantities c.requires.heats) tt

pub overflow_mul-pmax : goal.overflow_mul-pmax
overflow_mul-pmax c = fits (four _ _ _ _ _ _ c.requires.quantities c.requires.heats) tt

pub returns-then-end-pmax : goal.returns-then-end-pmax
unfolding incremental_rate
returns-then-end-pmax c =
    let q = c.requires.quantities in
    let t = c.requires.heats in
    let l = sym (limit_is _ _ _ _ _ _ q t) ∙ c.if-end-pmax.true in
    let r : rd c.ceil_by-r.result ≡ c.ceil_by-r.result = search rules in
    let b : rd c.max.result ≡ c.max.result = search rules in
    rw l (search rules ∙ c.min.ensures
    ∙ ap₂ min_z (r ∙ unlimited_is _ _ _ _ _ _ q t _ c.ceil_by-r.ensures) (b ∙ c.max.ensures ∙ ap₂ max_z (h _ _ _ _ _ _ q t).same (h' _ _ _ _ _ _ q t).same))

pub returns-else-end-pmax : goal.returns-else-end-pmax
unfolding incremental_rate
returns-else-end-pmax c =
    let q = c.requires.quantities in
    let t = c.requires.heats in
    let l = sym (limit_is _ _ _ _ _ _ q t) ∙ c.if-end-pmax.false in
    rw l (search rules ∙ unlimited_is _ _ _ _ _ _ q t _ c.ceil_by-r.ensures)
