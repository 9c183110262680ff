-- `pivotal::net_sellers`: a turn reads one mark more. Assumes nothing.
use mathlib.Core.Bool.{Bool}
use mathlib.Core.List.{List}
use mathlib.Core.Path.{◌≡◌, refl, sym, ◌∙◌}
use Prim.Native.Nat.{ℕ}
use native.Mathlib.Omega.{arith}
use borrow.Author.Tests.{eq-eqb, ne_eqb}
use lib.Dec.{eqb}
use lib.IntN.{ℤ}
use Rattle.rules_path.specs.Paths.{at}
use Rattle.rules_mask.specs.Masks.{set_of}
use Rattle.rules_mask.proofs.SizeLaws.{set_below}
use Rattle.rules_pivotal.specs.Pivotals.{net_sellers}
use Rattle.rules_state.specs.States.{market_in}
use Rattle.pivotal.proofs.ReadLaws.{mark_at, set_more, set_kept, set_fits}
use Rattle.pivotal.proofs.net_sellers.Goals as goal
use Rattle.pivotal.proofs.net_sellers.Goals.{then-whole_at-eq1, else-whole_at-eq1}

-- whether a portfolio is a net seller
abbrev sells : List ℤ → ℕ → Bool
sells state q = eqb (at (market_in state).seller q) 1

pub loop-p-init : goal.loop-p-init
unfolding set_of Rattle.rules_number.specs.Over.sum_to
loop-p-init c = refl

pub overflow_add-set : goal.overflow_add-set
overflow_add-set c = record { fits = set_fits (sells c.args.state.now) c.loop-p.p c.loop-p.set c.loop-p.invariant (omega arith) }

pub loop-p-preserved : goal.loop-p-preserved
loop-p-preserved c =
    let m = mark_at c.args.state.now c.loop-p.p (omega arith) in
    let f = sells c.args.state.now in
    elim c.if-whole_at-eq1.branch [
      | then-whole_at-eq1 w ↦ w.set-is ∙ set_more f c.loop-p.p c.loop-p.set c.loop-p.invariant (omega arith) (eq-eqb _ 1 (m ∙ sym c.whole_at.ensures ∙ w.if-whole_at-eq1.true))
      | else-whole_at-eq1 w ↦ w.set-is ∙ set_kept f c.loop-p.p c.loop-p.set c.loop-p.invariant (ne_eqb _ 1 (λ e. w.if-whole_at-eq1.false (c.whole_at.ensures ∙ sym m ∙ e)))
    ]

pub returns : goal.returns
unfolding net_sellers
returns c =
    let e : c.loop-p.p ≡ 16 = omega arith in
    let f = sells c.args.state.now in
    let i : c.loop-p.set ≡ set_of f 16 = rw e at c.loop-p.invariant in
    (i, omega (arith, set_below f 16))
