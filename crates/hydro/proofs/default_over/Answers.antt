-- `hydro::default_over` meets its contract. Assumes nothing.
use Rattle.std.specs.Prelude.{Err}
use Rattle.std.proofs.Common.{◌≡◌, sym, ap, ap₂, subst, ◌∙◌, ℕ, ◌<◌, ℤ, rules}
use Rattle.rules_number.proofs.Kit.{rd}
use Rattle.rules_curve.specs.Curves.{default_refusal, pack_unless}
use Rattle.rules_curve.specs.declared.RawCurve.{RawCurve}
use Rattle.rules_curve.proofs.Answered.{packed_alone}
use Rattle.rules_hydro.specs.Hydros.{hydro_number, one_step, hydro_price, hydro_curve, hydro_refusal}
use Rattle.hydro.specs.Given.{lent_hydro}
use Rattle.hydro.proofs.LimitLaws.{outside, inside, told, refused_some, same_number}
use Rattle.std.proofs.lemmas.Result.{err_from_is_err_and}
use Rattle.rules_hydro.specs.declared.Hydro.{Hydro}
use Rattle.hydro.proofs.default_over.Goals as goal
use Rattle.hydro.proofs.default_over.Goals.{After-map_err}

pub returns-then-not-limits_good : goal.returns-then-not-limits_good
returns-then-not-limits_good c =
    let x = lent_hydro c.args.given.now in
    let n = outside x (sym c.limits_good.ensures ∙ c.if-not-limits_good.true) in
    record { number = sym n; pack = sym (ap (λ (k : ℕ). pack_unless k (hydro_curve x)) n) }

-- limits that are met: the pack, and its refusal
module _ (c : After-map_err) where
  abbrev x : Hydro
  x = lent_hydro c.args.given.now

  raw : c.one_step-pack.result ≡ hydro_curve x
  raw =
      let g = c.args.given.now in
      let f : rd c.price.result ≡ c.price.result = search rules in
      let l : rd g.low ≡ g.low = search rules in
      let h : rd g.high ≡ g.high = search rules in
      c.one_step-pack.ensures ∙ ap (λ (p : ℤ). one_step (rd g.low) (rd g.high) p) (f ∙ c.price.ensures) ∙ ap₂ (λ (a b : ℤ). one_step a b (hydro_price x)) l h

  number : hydro_number c.map_err.result ≡ hydro_refusal x
  number =
      let good = sym c.limits_good.ensures ∙ c.if-not-limits_good.false in
      told _ (λ e d p. p) c.checked_default.result c.map_err.result c.map_err.ensures.cases ∙ c.checked_default.ensures.number ∙ ap default_refusal raw ∙ sym (inside x good)

pub returns-in_err-map_err : goal.returns-in_err-map_err
returns-in_err-map_err c =
    let t = (goal.at.returns-in_err-map_err c).After-map_err in
    let x = lent_hydro c.args.given.now in
    let r = c.in_err-map_err.field-0.0 in
    let p = err_from_is_err_and c.from_residual.result c.from_residual.ensures.1 in
    let n : hydro_number {T = RawCurve} (Err r) ≡ hydro_refusal x = same_number r ∙ sym (ap hydro_number c.in_err-map_err.was) ∙ number t in
    let some = subst (λ (k : ℕ). 0 < k) n (refused_some r) in
    record { number = rw (p.1, p.2) n; pack = rw p.1 (sym (packed_alone (hydro_refusal x) (hydro_curve x) some)) }

pub returns : goal.returns
returns c =
    let t = (goal.at.returns c).After-map_err in
    let x = lent_hydro c.args.given.now in
    let n : 0 ≡ hydro_refusal x = sym (ap hydro_number c.in_ok-map_err.was) ∙ number t in
    record { number = n; pack = raw t ∙ ap (λ (k : ℕ). pack_unless k (hydro_curve x)) n }
