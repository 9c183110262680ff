-- `contract::joined` meets its contract. Assumes nothing.
use Rattle.std.proofs.Common.{◌↔◌, ◌≡◌, refl, sym, ap, subst, ◌∙◌, ℕ, ◌<◌, arith, ℤ, length, List, w64, of_z, rules}
use mir.Val.{SFits}
use Rattle.rules_number.proofs.Kit.{rd, bits_same}
use Rattle.rules_number.proofs.OrderLaws.{eq_z_other}
use Rattle.rules_curve.specs.Conditions.{edge}
use Rattle.rules_curve.specs.Curves.{pack_unless, default_refusal}
use Rattle.rules_curve.specs.Demands.{First}
use Rattle.rules_curve.specs.declared.RawCurve.{RawCurve}
use Rattle.rules_curve.specs.declared.RawStep.{RawStep}
use Rattle.rules_curve.proofs.Answered.{packed_alone}
use Rattle.rules_curve.proofs.RefusalLaws.{refused_number}
use Rattle.std.proofs.lemmas.Result.{err_from_is_err_and}
use Rattle.rules_contract.specs.Conditions.{contract_demands}
use Rattle.rules_contract.specs.ContractUnits.{joined_raw, lowest, contract_refusal}
use Rattle.rules_contract.proofs.Exactly.{contract_exactly}
use Rattle.contract.proofs.PartLaws.{parts_refuse, parts_counted, apart, too_many, taken, joined_is}
use Rattle.contract.proofs.joined.Goals as goal

by_fields : {x y : ℤ} {n : ℕ} {l m : List RawStep} → x ≡ y → l ≡ m → ◌≡◌ {A = RawCurve} (record { start = x; count = n; steps = l }) (record { start = y; count = n; steps = m })
by_fields e f = cc

-- the three promises, where the outcome's number is n and the curve that of n
answered : (a b : RawCurve) → length a.steps ≡ 11 → length b.steps ≡ 11 → (n m : ℕ) (pack : RawCurve) → m ≡ n → pack ≡ pack_unless n (joined_raw a b) → contract_refusal a b ≡ n
    → (m ≡ contract_refusal a b) × ((pack ≡ pack_unless (contract_refusal a b) (joined_raw a b)) × ((k : ℕ) → (m ≡ k) ↔ First k (contract_demands a b)))
answered a b full_a full_b n m pack e f g =
    let r = e ∙ sym g in
    (r, (f ∙ ap (λ (k : ℕ). pack_unless k (joined_raw a b)) (sym g), λ k. rw r (contract_exactly a b full_a full_b k)))

-- an end that is a start
met : {x y z : ℤ} → x ≡ z → SFits w64 x → SFits w64 y → of_z w64 x ≡ of_z w64 y → z ≡ y
met e f g h = sym e ∙ bits_same _ _ f g h

-- one of 1 to 3
pub returns-in_err-parts_checked : goal.returns-in_err-parts_checked
returns-in_err-parts_checked c =
    let a = c.args.proxy in
    let b = c.args.above in
    let full_a : length a.steps ≡ 11 = search rules in
    let full_b : length b.steps ≡ 11 = search rules in
    let n = lowest (default_refusal a) (default_refusal b) in
    let some : 0 < n = subst (λ (n : ℕ). 0 < n) c.in_err-parts_checked.ensures (refused_number _) in
    let r = answered a b full_a full_b n _ _ c.in_err-parts_checked.ensures (sym (packed_alone n (joined_raw a b) some)) (parts_refuse a b some) in
    let p = err_from_is_err_and c.from_residual.result c.from_residual.ensures.1 in
    rw (p.1, p.2) (record { number = r.0; pack = r.1.0; exactly = r.1.1 })

pub last_end-requires : goal.last_end-requires
last_end-requires c = let k = (parts_counted c.args.proxy c.args.above (sym c.in_ok-parts_checked.ensures)).0 in (k.at_least, k.at_most)

-- 23
pub returns-then-last_end-above : goal.returns-then-last_end-above
returns-then-last_end-above c =
    let a = c.args.proxy in
    let b = c.args.above in
    let full_a : length a.steps ≡ 11 = search rules in
    let full_b : length b.steps ≡ 11 = search rules in
    let none : lowest (default_refusal a) (default_refusal b) ≡ 0 = sym c.in_ok-parts_checked.ensures in
    let r = answered a b full_a full_b 23 _ _ refl refl
    (apart a b none (eq_z_other (edge a a.count) b.start (λ q. c.if-last_end-above.true (ap (of_z w64) (c.last_end.ensures ∙ q))))) in
    record { number = r.0; pack = r.1.0; exactly = r.1.1 }

pub overflow_add-n : goal.overflow_add-n
overflow_add-n c =
    let k = parts_counted c.args.proxy c.args.above (sym c.in_ok-parts_checked.ensures) in
    omega (arith, k.0.at_most, k.1.at_most)

-- 24
pub returns-then-n-gt-MAX_STEPS : goal.returns-then-n-gt-MAX_STEPS
returns-then-n-gt-MAX_STEPS c =
    let a = c.args.proxy in
    let b = c.args.above in
    let full_a : length a.steps ≡ 11 = search rules in
    let full_b : length b.steps ≡ 11 = search rules in
    let none : lowest (default_refusal a) (default_refusal b) ≡ 0 = sym c.in_ok-parts_checked.ensures in
    let fe : SFits w64 c.last_end.result = search rules in
    let fs : SFits w64 b.start = search rules in
    let k : edge a a.count ≡ b.start = met c.last_end.ensures fe fs c.if-last_end-above.false in
    let r = answered a b full_a full_b 24 _ _ refl refl (too_many a b none k (omega arith)) in
    record { number = r.0; pack = r.1.0; exactly = r.1.1 }

pub raised-requires-clause-counts : goal.raised-requires-clause-counts
raised-requires-clause-counts c =
    let k = parts_counted c.args.proxy c.args.above (sym c.in_ok-parts_checked.ensures) in
    (k.0.at_least, (k.0.at_most, k.1.at_most))

pub returns : goal.returns
returns c =
    let a = c.args.proxy in
    let b = c.args.above in
    let full_a : length a.steps ≡ 11 = search rules in
    let full_b : length b.steps ≡ 11 = search rules in
    let none : lowest (default_refusal a) (default_refusal b) ≡ 0 = sym c.in_ok-parts_checked.ensures in
    let fe : SFits w64 c.last_end.result = search rules in
    let fs : SFits w64 b.start = search rules in
    let k : edge a a.count ≡ b.start = met c.last_end.ensures fe fs c.if-last_end-above.false in
    let n = parts_counted a b none in
    let f : rd a.start ≡ a.start = search rules in
    let r = answered a b full_a full_b 0 0 _ refl
    (by_fields f c.raised.ensures
    ∙ joined_is a b (omega (arith, full_a, n.0.at_most)) (omega (arith, full_b, n.1.at_most)))
    (taken a b none k (omega arith)) in
    record { number = r.0; pack = r.1.0; exactly = r.1.1 }
