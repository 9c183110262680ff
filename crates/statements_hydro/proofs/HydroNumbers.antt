-- A hydro unit in an hour in numbers (paper 02, 2.8): a resource whose block holds what `noskjerf_hydro` wrote takes its default curve from the pack, so that what is proved of a hydro unit is
-- proved of it. Assumes nothing.
use mathlib.Core.List.{List}
use mathlib.Core.Path.{◌≡◌, refl, sym, ap, ap₂, ◌∙◌}
use Prim.Native.Nat.{ℕ, zero, suc, ◌+◌, ◌*◌, ◌≤◌, ◌<◌}
use native.Mathlib.Omega.{arith}
use lib.IntN.{ℤ, pos, negsuc}
use lib.ListN.{length, get_or, get_or-replicate}
use lib.Seq.{sets, ext_get_or}
use lib.Signed.{◌≤ℤ◌, ◌<ℤ◌}
use Rattle.rules_number.specs.Order.{nat_of}
use Rattle.rules_number.specs.Over.{padded}
use Rattle.rules_number.proofs.Kit.{var, le_by, le_of, lt_of}
use Rattle.rules_curve.specs.Conditions.{no_step}
use Rattle.rules_curve.specs.Curves.{curve_of, pack_unless}
use Rattle.rules_curve.specs.declared.Curve.{Curve}
use Rattle.rules_curve.specs.declared.RawCurve.{RawCurve}
use Rattle.rules_curve.specs.declared.RawStep.{RawStep}
use Rattle.rules_opening.specs.declared.Opening.{Opening}
use Rattle.rules_opening.specs.declared.Source.TheVariants as source
use Rattle.rules_library.specs.Slices.{edges_of, prices_of, put_answer, if_written, edges_with, prices_with}
use Rattle.rules_library.proofs.Meaning.{zero_accepted}
use Rattle.rules_state.specs.Openings.{opening_in}
use Rattle.rules_state.proofs.ExactNumbers.{full_in_numbers}
use Rattle.rules_state.proofs.ReadNumbers.{opening_read}
use Rattle.rules_state.proofs.StandLaws.{stored_at}
use Rattle.rules_hydro.specs.Hydros.{one_step, hydro_price, hydro_curve, hydro_refusal, hydro_pack}
use Rattle.rules_hydro.specs.declared.Hydro.{Hydro}
use Rattle.statements.proofs.Demand3.{resource}
use Rattle.statements_hydro.proofs.Hydros.{refuses}

whole : (z : ℤ) → pos 0 ≤ℤ z → pos (nat_of z) ≡ z
whole (pos n) h = refl
whole (negsuc n) h = absurd h.le

differ : pos 1 ≡ pos 0 → ⊥
differ e = let z : ◌≡◌ {A = ℕ} 1 0 = cc in omega arith

parts : {a b : ℤ} {m n : ℕ} {k l : List RawStep} → a ≡ b → m ≡ n → k ≡ l → ◌≡◌ {A = RawCurve} (record { start = a; count = m; steps = k }) (record { start = b; count = n; steps = l })
parts p q r = cc

abbrev curve : Hydro → Curve
curve x = curve_of (hydro_curve x)

-- the thirteen and the eleven numbers of the one step
module _ (x : Hydro) where
  edge_0 : get_or (edges_of (curve x)) 0 0 ≡ 1
  unfolding one_step curve_of padded
  edge_0 = refl

  edge_1 : get_or (edges_of (curve x)) 1 0 ≡ nat_of x.low
  unfolding one_step curve_of padded
  edge_1 = refl

  long : (length (edges_of (curve x)) ≡ 13) × (length (prices_of (curve x)) ≡ 11) × (length (hydro_curve x).steps ≡ 11)
  unfolding one_step curve_of padded
  long = (refl, refl, refl)

  abbrev as_step : ℕ → RawStep
  as_step k = record { end = pos (get_or (edges_of (curve x)) (suc (suc k)) 0); price = get_or (prices_of (curve x)) k (pos 0) }

  step_is : pos 0 ≤ℤ x.high → (k : ℕ) → k < 11 → as_step k ≡ get_or (hydro_curve x).steps k no_step
  unfolding one_step curve_of padded
  step_is h zero l = ap (λ (z : ℤ). record { end = z; price = hydro_price x }) (whole x.high h)
  step_is h (suc k) l =
      ap₂ (λ (e : ℕ) (p : ℤ). record { end = pos e; price = p }) (get_or-replicate 10 k 0 0 (omega arith)) (get_or-replicate 10 k (pos 0) (pos 0) (omega arith))
      ∙ sym (get_or-replicate 10 k no_step no_step (omega arith))

-- `noskjerf_hydro` was lent slices of 13 and 11 numbers or more, answered 0, and left edges and prices
module _ (x : Hydro) (lent : List ℕ) (lent' : List ℤ) (room : 13 ≤ length lent) (room' : 11 ≤ length lent') (edges : List ℕ) (prices : List ℤ)
    (answer : put_answer lent lent' (hydro_refusal x) ≡ pos 0)
    (wrote : edges ≡ edges_with lent lent' (hydro_refusal x) (curve x)) (wrote' : prices ≡ prices_with lent lent' (hydro_refusal x) (curve x)) where
  accepted : hydro_refusal x ≡ 0
  accepted = zero_accepted lent lent' (hydro_refusal x) (curve x) answer

  edged : (pos 0 ≤ℤ x.low) × (x.low <ℤ x.high) × (x.high ≤ℤ pos 1000000)
  edged = ((refuses x).none.0 accepted).1

  above : pos 0 ≤ℤ x.high
  above = le_by (var (pos 0)) (var x.high) (omega (arith, le_of edged.0, lt_of edged.1))

  edge_at : (i : ℕ) → i < 13 → get_or edges i 0 ≡ get_or (edges_of (curve x)) i 0
  unfolding edges_with
  edge_at i h =
      let z : 0 + i ≡ i = omega arith in
      ap (λ (l : List ℕ). get_or l i 0) (wrote ∙ ap (λ (r : ℤ). if_written r (sets lent 0 (edges_of (curve x))) lent) answer)
      ∙ ap (λ (k : ℕ). get_or (sets lent 0 (edges_of (curve x))) k 0) (sym z) ∙ stored_at 0 lent 0 (edges_of (curve x)) (omega (arith, (long x).0)) i (omega (arith, (long x).0))

  price_at_lem : (k : ℕ) → k < 11 → get_or prices k (pos 0) ≡ get_or (prices_of (curve x)) k (pos 0)
  unfolding prices_with
  price_at_lem k h =
      let z : 0 + k ≡ k = omega arith in
      ap (λ (l : List ℤ). get_or l k (pos 0)) (wrote' ∙ ap (λ (r : ℤ). if_written r (sets lent' 0 (prices_of (curve x))) lent') answer)
      ∙ ap (λ (i : ℕ). get_or (sets lent' 0 (prices_of (curve x))) i (pos 0)) (sym z) ∙ stored_at (pos 0) lent' 0 (prices_of (curve x)) (omega (arith, (long x).1)) k (omega (arith, (long x).1))

  -- a block of 80 numbers a resource: number 25 is 1 for a pack, and from 56 on stand the curve's start, its number of steps, and end and price of eleven steps in turn
  module _ (month : ℤ) (portfolios : ℕ) (sellers : List ℤ) (resources : ℕ) (blocks : List ℤ) (r : ℕ) (there : r < resources) (low : r < 64)
      (pack : get_or blocks (80 * r + 25) (pos 0) ≡ pos 1) (start : get_or blocks (80 * r + 56) (pos 0) ≡ pos (get_or edges 1 0)) (count : get_or blocks (80 * r + 57) (pos 0) ≡ pos (get_or edges 0 0))
      (ends : (k : ℕ) → k < 11 → get_or blocks (80 * r + 58 + 2 * k) (pos 0) ≡ pos (get_or edges (2 + k) 0))
      (steps : (k : ℕ) → k < 11 → get_or blocks (80 * r + 59 + 2 * k) (pos 0) ≡ get_or prices k (pos 0)) where
    abbrev o : Opening
    o = opening_in month portfolios sellers resources blocks

    abbrev raw : RawCurve
    raw = (resource o r).pack

    read_step : (k : ℕ) → k < 11 → get_or raw.steps k no_step ≡ get_or (hydro_curve x).steps k no_step
    read_step k h =
        let e : 80 * r + 56 + 2 + 2 * k ≡ 80 * r + 58 + 2 * k = omega arith in
        let f : 80 * r + 56 + 3 + 2 * k ≡ 80 * r + 59 + 2 * k = omega arith in
        let g : 2 + k ≡ suc (suc k) = omega arith in
        ((opening_read month portfolios sellers resources blocks).resource r low).pack.step k h no_step
        ∙ ap₂ (λ (z p : ℤ). record { end = z; price = p })
        (ap (λ (i : ℕ). get_or blocks i (pos 0)) e ∙ ends k h ∙ ap pos (edge_at (2 + k) (omega arith) ∙ ap (λ (i : ℕ). get_or (edges_of (curve x)) i 0) g))
        (ap (λ (i : ℕ). get_or blocks i (pos 0)) f ∙ steps k h ∙ price_at_lem k h)
        ∙ step_is x above k h

    pub hydro_in_numbers : ((resource o r).source ≡ source.Pack) × ((resource o r).pack ≡ hydro_pack x)
    unfolding opening_in one_step
    hydro_in_numbers =
        let c = (opening_read month portfolios sellers resources blocks).resource r low in
        let n : 80 * r + 56 + 1 ≡ 80 * r + 57 = omega arith in
        let full = (full_in_numbers month portfolios sellers resources blocks r there low).pack in (
          c.from_pack (λ e. differ (sym pack ∙ e)),
          parts (c.pack.start ∙ start ∙ ap pos (edge_at 1 (omega arith) ∙ edge_1 x) ∙ whole x.low edged.0)
              (c.pack.count ∙ ap nat_of (ap (λ (i : ℕ). get_or blocks i (pos 0)) n ∙ count ∙ ap pos (edge_at 0 (omega arith) ∙ edge_0 x)))
              (ext_get_or no_step raw.steps (hydro_curve x).steps (full ∙ sym (long x).2) (λ k h. read_step k (omega (arith, full))))
              ∙ sym (ap (λ (m : ℕ). pack_unless m (hydro_curve x)) accepted),
        )
