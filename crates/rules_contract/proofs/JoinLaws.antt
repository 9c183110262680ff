-- The steps of both parts and those of their join, by number. Assumes nothing.
use mathlib.Core.Logic.{⊎_elim}
use mathlib.Core.Path.{◌≡◌, refl, sym, ap, subst, ◌∙◌}
use Prim.Native.Nat.{ℕ, zero, suc, ◌+◌, ◌-◌, ◌≤◌, ◌<◌}
use native.Mathlib.Nat.{le_refl}
use native.Mathlib.Omega.{arith}
use lib.ListN.{length, get_or, length-append, length-take, get_or-append}
use lib.Seq.{get_or-take, get_or-append-add}
use Rattle.rules_number.specs.Over.{highest_to}
use Rattle.rules_number.proofs.CellLaws.{cell_listed}
use Rattle.rules_number.proofs.OverLaws.{le_or_lt, listed_length}
use Rattle.rules_curve.specs.Conditions.{no_step, step_at, price, edge}
use Rattle.rules_curve.specs.Curves.{most_steps, raw_steps}
use Rattle.rules_curve.specs.declared.RawStep.{RawStep}
use Rattle.rules_curve.specs.declared.RawCurve.{RawCurve}
use Rattle.rules_contract.specs.ContractUnits.{joined_steps, step_price, raised_step, raised, joined_raw}

-- the first n numbers, then m more
pub by_part : (Q : ℕ → Type 0) (n m : ℕ) → ((i : ℕ) → i < n → Q i) → ((i : ℕ) → i < m → Q (n + i)) → (i : ℕ) → i < n + m → Q i
by_part Q n m first second i h =
    ⊎_elim (λ k. let e : n + (i - n) ≡ i = omega arith in subst Q e (second (i - n) (omega arith))) (λ k. first i k) (le_or_lt n i)

module _ (a b : RawCurve) (room_a : a.count ≤ length a.steps) (room_b : b.count ≤ length b.steps) where
  used : length (raw_steps a) ≡ a.count
  used = omega (arith, length-take a.count a.steps)

  pub joined_length : length (joined_steps a b) ≡ a.count + b.count
  joined_length = simp length-append (omega (arith, length-take a.count a.steps, length-take b.count b.steps))

  pub first_at : (i : ℕ) → i < a.count → get_or (joined_steps a b) i no_step ≡ step_at a i
  first_at i h = get_or-append (raw_steps a) (raw_steps b) no_step i (omega (arith, used)) ∙ get_or-take a.count a.steps i no_step h

  pub second_at : (i : ℕ) → i < b.count → get_or (joined_steps a b) (a.count + i) no_step ≡ step_at b i
  second_at i h =
      ap (λ (n : ℕ). get_or (joined_steps a b) (n + i) no_step) (sym used) ∙ get_or-append-add (raw_steps a) (raw_steps b) i no_step ∙ get_or-take b.count b.steps i no_step h

  -- ---- their join
  pub joined_count : (joined_raw a b).count ≡ a.count + b.count
  unfolding joined_raw raised
  joined_count = listed_length (raised_step (joined_steps a b)) (length (joined_steps a b)) ∙ joined_length

  joined_step : (i : ℕ) → i < a.count + b.count → step_at (joined_raw a b) i ≡ raised_step (joined_steps a b) i
  unfolding joined_raw raised
  joined_step i h = cell_listed most_steps no_step no_step (raised_step (joined_steps a b)) (length (joined_steps a b)) i (omega (arith, joined_length))

  -- each price is the largest so far
  pub joined_price : (i : ℕ) → i < a.count + b.count → price (joined_raw a b) i ≡ highest_to (step_price (joined_steps a b)) i
  unfolding raised_step
  joined_price i h = ap (λ (s : RawStep). s.price) (joined_step i h)

  -- the edges are those of the first part, then those of the second
  joined_end : (i : ℕ) → i < a.count + b.count → edge (joined_raw a b) (suc i) ≡ (get_or (joined_steps a b) i no_step).end
  unfolding raised_step
  joined_end i h = ap (λ (s : RawStep). s.end) (joined_step i h)

  pub edge_first : (i : ℕ) → i ≤ a.count → edge (joined_raw a b) i ≡ edge a i
  unfolding joined_raw
  edge_first zero h = refl
  edge_first (suc i) h = joined_end i (omega arith) ∙ ap (λ (s : RawStep). s.end) (first_at i h)

  pub edge_second : edge a a.count ≡ b.start → (i : ℕ) → i ≤ b.count → edge (joined_raw a b) (a.count + i) ≡ edge b i
  edge_second met zero h =
      let e : a.count + 0 ≡ a.count = omega arith in
      ap (edge (joined_raw a b)) e ∙ edge_first a.count (le_refl a.count) ∙ met
  edge_second met (suc i) h =
      let e : a.count + suc i ≡ suc (a.count + i) = omega arith in
      ap (edge (joined_raw a b)) e ∙ joined_end (a.count + i) (omega arith) ∙ ap (λ (s : RawStep). s.end) (second_at i h)
