-- `contract::raised` meets its contract. Assumes nothing.
use Rattle.std.proofs.Common.{◌≡◌, refl, sym, ap, ap₂, ◌∙◌, ℕ, suc, ◌+◌, ◌<◌, ℤ, List, length, get_or, set, add-one, arith, rules}
use lib.Signed.{≤ℤ_refl}
use Rattle.rules_number.specs.Order.{max_z}
use Rattle.rules_number.specs.Over.{highest_to, listed, padded}
use Rattle.rules_number.proofs.HighestLaws.{highest_from, highest_from_lem}
use Rattle.rules_number.proofs.Kit.{rd}
use Rattle.rules_number.proofs.OverLaws.{padded_next}
use Rattle.rules_curve.specs.Conditions.{no_step}
use Rattle.rules_curve.specs.Curves.{most_steps}
use Rattle.rules_curve.specs.declared.RawStep.{RawStep}
use Rattle.rules_contract.specs.ContractUnits.{joined_steps, step_price, raised_step}
use Rattle.rules_contract.proofs.JoinLaws.{first_at}
use Rattle.contract.proofs.PartLaws.{steps_are, prices, largest_to}
use Rattle.contract.proofs.raised.Goals as goal

pub loop-i-init : goal.loop-i-init
unfolding padded listed highest_from
loop-i-init c =
    let a = c.args.proxy in
    let b = c.args.above in
    let n : length a.steps ≡ 11 = search rules in
    let m : length b.steps ≡ 11 = search rules in
    let f : rd (get_or a.steps 0 no_step).price ≡ (get_or a.steps 0 no_step).price = search rules in
    (refl, f ∙ ap (λ (x : RawStep). x.price) (sym (first_at a b (omega arith) (omega arith) 0 (omega arith))))

-- one step more
fill : (l steps : List RawStep) (i : ℕ) (e p : ℤ) → i < most_steps → steps ≡ padded most_steps no_step (listed (raised_step l) i) → e ≡ (get_or l i no_step).end → p ≡ highest_to (step_price l) i
    → set steps i (record { end = e; price = p }) ≡ padded most_steps no_step (listed (raised_step l) (i + 1))
unfolding raised_step
fill l steps i e p h before end price =
    rw (before, end, price) (padded_next most_steps no_step (raised_step l) i h) ∙ ap (λ (k : ℕ). padded most_steps no_step (listed (raised_step l) k)) (sym (add-one i))

pub loop-i-preserved : goal.loop-i-preserved
unfolding highest_from
loop-i-preserved c =
    let a = c.args.proxy in
    let b = c.args.above in
    let i = c.loop-i.i in
    let s = c.step_of-step.result in
    let fp : rd s.price ≡ s.price = search rules in
    let fe : rd s.end ≡ s.end = search rules in
    let fm : rd c.max-largest.result ≡ c.max-largest.result = search rules in
    let price : rd s.price ≡ prices a b i = fp ∙ ap (λ (x : RawStep). x.price) c.step_of-step.ensures in
    let largest : rd c.max-largest.result ≡ largest_to a b (suc i) = fm ∙ c.max-largest.ensures ∙ ap₂ max_z c.loop-i.invariant.1 price in (
      fill (joined_steps a b) c.loop-i.steps i _ _ (omega arith) c.loop-i.invariant.0 (fe ∙ ap (λ (x : RawStep). x.end) c.step_of-step.ensures)
          (largest ∙ highest_from_lem (prices a b 0) (prices a b) i (≤ℤ_refl (prices a b 0))),
      largest ∙ ap (largest_to a b) (sym (add-one i)),
    )

pub returns : goal.returns
returns c =
    let a = c.args.proxy in
    let b = c.args.above in
    let n : length a.steps ≡ 11 = search rules in
    let m : length b.steps ≡ 11 = search rules in
    let e : c.loop-i.i ≡ a.count + b.count = omega arith in
    c.loop-i.invariant.0 ∙ ap (λ (k : ℕ). padded most_steps no_step (listed (raised_step (joined_steps a b)) k)) e ∙ sym (steps_are a b (omega arith) (omega arith))
