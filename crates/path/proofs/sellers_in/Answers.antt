use mathlib.Core.Logic.{⊎_elim}
use mathlib.Core.Path.{◌≡◌, sym, ap, ◌∙◌}
use mathlib.Core.List.{List}
use Prim.Native.Nat.{ℕ, ◌+◌, ◌≤◌, ◌<◌}
use native.Mathlib.Omega.{arith}
use lib.ListN.{set, length-set}
use lib.Seq.{get_or-set_same, get_or-set_other}
use Rattle.rules_number.proofs.OverLaws.{last_or_before}
use Rattle.rules_path.specs.declared.Market.{Market}
use Rattle.rules_state.specs.States.{market_in}
use Rattle.path.specs.Tallies.{seller_of}
use Rattle.path.proofs.sellers_in.Invariants.{So-far}
use Rattle.path.proofs.sellers_in.Goals as goal
use Rattle.path.proofs.sellers_in.Goals.{in-Some, in_default}

module _ (m : Market) (out : List ℕ) (n ports r : ℕ) (h : So-far m out n ports r) (l : r < n) (room : n ≤ 64) (x : ℕ) (x-is : x ≡ seller_of m r) (higher : ℕ) (least : ports ≤ higher) (over : x < 16 → x < higher) where
  more : So-far m (set out r x) n higher (r + 1)
  more = record {
    whole = length-set out r x ∙ h.whole;
    at_each = λ i k. ⊎_elim (λ e. rw e (get_or-set_same out r x 0 (omega (arith, h.whole)) ∙ x-is)) (λ k'. get_or-set_other out r i x 0 (λ e. omega arith) ∙ h.at_each i k') (last_or_before i r (omega arith));
    below = λ i k s. ⊎_elim (λ e. let y : x ≡ seller_of m i = x-is ∙ ap (seller_of m) (sym e) in omega (arith, over (omega arith))) (λ k'. omega (arith, h.below i k' s)) (last_or_before i r (omega arith));
  }

pub loop-r-init : goal.loop-r-init
loop-r-init c = record {
  whole = c.requires.1;
  at_each = λ i k. absurd (omega arith);
  below = λ i k. absurd (omega arith);
}

pub loop-r-preserved : goal.loop-r-preserved
loop-r-preserved c =
    let l = c.loop-r in
    elim c.match-seller_of.branch [
      | in-Some w ↦ rw (w.sellers-is, w.ports-is) (more (market_in c.args.state.now) l.sellers c.args.n l.ports l.r l.invariant c.loop-r-test.true c.requires.0 w.in-Some.p w.in-Some.ensures.seller w.max-ports.result (omega arith) (λ k. omega arith))
      | in_default w ↦ rw (w.sellers-is, w.ports-is) (more (market_in c.args.state.now) l.sellers c.args.n l.ports l.r l.invariant c.loop-r-test.true c.requires.0 16 w.in_default.ensures.seller l.ports (omega arith) (λ k. absurd (omega arith)))
    ]

pub returns-clause-sellers : goal.returns-clause-sellers
returns-clause-sellers c =
    let h = c.loop-r.invariant in
    let e : c.loop-r.r ≡ c.args.n = omega arith in
    rw e at h.at_each

pub returns-clause-ports : goal.returns-clause-ports
returns-clause-ports c =
    let h = c.loop-r.invariant in
    let e : c.loop-r.r ≡ c.args.n = omega arith in
    λ r k s. let is = h.at_each r (rw e k) in rw is (h.below r (rw e k) (rw is at s))
