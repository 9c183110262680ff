-- `cutting::component_over`: a turn adds one constraint's term. Assumes nothing.
use Rattle.std.proofs.Common.{◌≡◌, ℕ, ◌+◌, ◌*◌, ◌≤◌, List, length, get_or, take, refl, sym, ap, ◌∙◌, arith, to_z, w64, ◌*ℤ◌}
use Rattle.std.specs.Prelude.{ℤ, nat_abs, neg_ℤ}
use lib.IntN.{+ℤ_idl}
use lib.Seq.{take_all}
use Rattle.rules_number.specs.Over.{sum_over}
use Rattle.rules_number.proofs.Kit.{Bd, bd_le}
use Rattle.rules_number.proofs.Meant.{Meant, fits, kept, local, bits, ◌⊕◌, ◌⊖◌, ◌⊗◌, const}
use Rattle.rules_interval.specs.Intervals.{cell}
use Rattle.cutting.specs.Entering.{Addable, component_over}
use Rattle.cutting.proofs.EnteringLaws.{front_next, front_size, term_size}
use Rattle.cutting.proofs.component_over.Goals as goal
use Rattle.cutting.proofs.component_over.Goals.{After-cell_at}

-- what constraint c adds
abbrev term : List ℤ → List ℤ → ℕ → ℕ → ℤ
term factors shadow r c = cell factors (r * 32 + c) *ℤ cell shadow c

-- what is added up so far
summed : (factors shadow : List ℤ) (l : List ℕ) (r : ℕ) → Addable factors shadow l r → (k : ℕ) → k ≤ length l → (sum : ℕ) → to_z w64 sum ≡ sum_over (term factors shadow r) (take k l)
    → Bd 3200000000000000 (to_z w64 sum)
summed factors shadow l r a k h sum e =
    rw e (bd_le (omega (arith, a.few, h)) (front_size (term factors shadow r) 100000000000000 l k h (term_size factors shadow l r a)))

module _ (c : After-cell_at) where
  abbrev column : ℕ
  column = get_or c.args.entering.now c.loop-c.c-index 0

  factor-is : c.factor_at.result ≡ cell c.args.factors.now (c.args.r * 32 + column)
  factor-is = c.factor_at.ensures

  factor-size : nat_abs c.factor_at.result ≤ 1000000
  factor-size = rw factor-is (c.requires.factor c.loop-c.c-index c.loop-c-test.true)

  price-is : c.cell_at.result ≡ cell c.args.shadow.now column
  price-is = c.cell_at.ensures

  price-size : nat_abs c.cell_at.result ≤ 100000000
  price-size = rw price-is (c.requires.price c.loop-c.c-index c.loop-c-test.true)

  -- the code's expressions in a turn
  abbrev product : Meant
  product = local c.factor_at.result factor-size tt ⊗ local c.cell_at.result price-size tt

  abbrev next : Meant
  next =
      bits c.loop-c.sum-bits (summed c.args.factors.now c.args.shadow.now c.args.entering.now c.args.r c.requires c.loop-c.c-index (omega arith) c.loop-c.sum-bits c.loop-c.invariant)
      ⊕ kept product tt

pub loop-c-init : goal.loop-c-init
unfolding sum_over
loop-c-init c = refl

pub overflow_mul-sum : goal.overflow_mul-sum
overflow_mul-sum c = fits (product (goal.at.overflow_mul-sum c).After-cell_at) tt

pub overflow_add-sum : goal.overflow_add-sum
overflow_add-sum c = fits (next (goal.at.overflow_add-sum c).After-cell_at) tt

pub loop-c-preserved : goal.loop-c-preserved
loop-c-preserved c =
    let p = (goal.at.loop-c-preserved c).After-cell_at in
    (kept (next p) tt).same ∙ rw (c.loop-c.invariant, factor-is p, price-is p) (sym (front_next (term c.args.factors.now c.args.shadow.now c.args.r) c.args.entering.now c.loop-c.c-index c.loop-c-test.true))

pub overflow_sub-result : goal.overflow_sub-result
overflow_sub-result c =
    fits
    (const 0
    ⊖ bits c.loop-c.sum-bits (summed c.args.factors.now c.args.shadow.now c.args.entering.now c.args.r c.requires c.loop-c.c-index (omega arith) c.loop-c.sum-bits c.loop-c.invariant)) tt

pub returns : goal.returns
unfolding component_over
returns c =
    let x = c.args.entering.now in
    (kept (const 0 ⊖ bits c.loop-c.sum-bits (summed c.args.factors.now c.args.shadow.now x c.args.r c.requires c.loop-c.c-index (omega arith) c.loop-c.sum-bits c.loop-c.invariant)) tt).same
    ∙ +ℤ_idl (neg_ℤ (to_z w64 c.loop-c.sum-bits)) ∙ ap neg_ℤ (rw (take_all c.loop-c.c-index x c.loop-c-test.false) at c.loop-c.invariant)
