-- Where a part ends, the steps of both in their array, and the refusals in their order. Assumes nothing.
use mathlib.Core.Bool.{true, false}
use mathlib.Core.Path.{◌≡◌, sym, ap, subst}
use Prim.Native.Nat.{ℕ, ◌+◌, ◌≤◌, ◌<◌}
use borrow.Author.Tests.{le-leb, lt-leb}
use lib.IntN.{ℤ}
use lib.ListN.{length}
use Rattle.rules_number.specs.Order.{eq_z}
use Rattle.rules_number.specs.Over.{listed, padded}
use Rattle.rules_number.proofs.HighestLaws.{highest_from}
use Rattle.rules_number.proofs.OrderLaws.{eq_z_same}
use Rattle.rules_curve.specs.Conditions.{no_step, edge, Counted}
use Rattle.rules_curve.specs.Curves.{most_steps, lowest_default, highest_default, default_refusal}
use Rattle.rules_curve.specs.Refusals.{unless}
use Rattle.rules_curve.specs.declared.RawCurve.{RawCurve}
use Rattle.rules_curve.proofs.CheckLaws.{checks_good}
use Rattle.rules_curve.proofs.Exactly.{count_exactly}
use Rattle.rules_curve.proofs.FirstLaws.{then_positive}
use Rattle.rules_contract.specs.ContractUnits.{joined_steps, step_price, raised_step, raised, joined_raw, lowest, meets, few_together, contract_refusal}
use Rattle.rules_contract.proofs.Exactly.{none_lowest}
use Rattle.rules_contract.proofs.JoinLaws.{joined_length, joined_count}

-- ---- the steps of both
module _ (a b : RawCurve) (room_a : a.count ≤ length a.steps) (room_b : b.count ≤ length b.steps) where
  pub steps_are : (joined_raw a b).steps ≡ padded most_steps no_step (listed (raised_step (joined_steps a b)) (a.count + b.count))
  unfolding joined_raw raised
  steps_are = ap (λ (n : ℕ). padded most_steps no_step (listed (raised_step (joined_steps a b)) n)) (joined_length a b room_a room_b)

  pub joined_is : record { start = a.start; count = a.count + b.count; steps = (joined_raw a b).steps } ≡ joined_raw a b
  unfolding joined_raw
  joined_is = ap (λ (n : ℕ). record { start = a.start; count = n; steps = (joined_raw a b).steps }) (sym (joined_count a b room_a room_b))

-- the prices of both, and the largest of the first of them and those before i
abbrev pub prices : RawCurve → RawCurve → ℕ → ℤ
prices a b = step_price (joined_steps a b)

abbrev pub largest_to : RawCurve → RawCurve → ℕ → ℤ
largest_to a b i = highest_from (prices a b 0) (prices a b) i

-- ---- the refusals in order
module _ (a b : RawCurve) where
  abbrev parts : ℕ
  parts = lowest (default_refusal a) (default_refusal b)

  pub parts_refuse : 0 < parts → contract_refusal a b ≡ parts
  unfolding contract_refusal
  parts_refuse h = rw (then_positive parts (unless (meets a b) 23) h) (then_positive parts (unless (few_together a b) 24) h)

  module _ (none : parts ≡ 0) where
    counted : (c : RawCurve) → default_refusal c ≡ 0 → Counted 11 c
    counted c e = (count_exactly most_steps c).0 (checks_good most_steps lowest_default highest_default c e).0

    -- the parts pass, so each has 1 to 11 steps
    pub parts_counted : Counted 11 a × Counted 11 b
    parts_counted = let e = none_lowest (default_refusal a) (default_refusal b) none in (counted a e.0, counted b e.1)

    pub apart : eq_z (edge a a.count) b.start ≡ false → contract_refusal a b ≡ 23
    unfolding contract_refusal
    apart e = rw (none, e)

    module _ (e : edge a a.count ≡ b.start) where
      meet : meets a b ≡ true
      meet = subst (λ (z : ℤ). eq_z (edge a a.count) z ≡ true) e (eq_z_same (edge a a.count))

      pub too_many : 11 < a.count + b.count → contract_refusal a b ≡ 24
      unfolding contract_refusal
      too_many h = rw (none, meet, lt-leb (a.count + b.count) most_steps h)

      pub taken : a.count + b.count ≤ 11 → contract_refusal a b ≡ 0
      unfolding contract_refusal
      taken h = rw (none, meet, le-leb (a.count + b.count) most_steps h)
