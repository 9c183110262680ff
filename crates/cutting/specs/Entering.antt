-- The constraints that enter the component as the code lists them, and the component over such a list. proofs/EnteringLaws.antt shows that it is C.
use Rattle.std.specs.Prelude.{Bool, true, cond, List, [], ◌∷◌, ◌≡◌, ℕ, ◌+◌, ◌*◌, ◌≤◌, ◌<◌, eqb, ltb, ℤ, pos, neg_ℤ, nat_abs, ◌*ℤ◌, get_or, length, take, replicate, Option}
use Rattle.rules_number.specs.Order.{in_range, nat_of}
use Rattle.rules_number.specs.Over.{those, sum_over}
use Rattle.rules_interval.specs.Intervals.{cell, dispatch_at, lmp_at}
use Rattle.rules_interval.specs.declared.Interval.{Interval}
use Rattle.rules_hour.specs.Cuts.{cut_from, competitive_price}
use Rattle.rules_state.specs.Layout.{cause_width}
use Rattle.rules_state.specs.States.{mark_of, price_of}

-- whether the cell of a finding is that of a non-competitive constraint
abbrev pub enters_by : ℤ → Bool
enters_by finding = eqb (nat_of finding) 1

-- those of m constraints that enter, by the cells of their verdicts
unfoldable pub entering_in : List ℤ → ℕ → List ℕ
entering_in verdicts m = those (λ c. enters_by (cell verdicts (20 * c))) m

-- an array whose first cells list them
pub record Lists (verdicts : List ℤ) (m : ℕ) (list : List ℕ) (count : ℕ) : Type 0 where
  pub few : count ≤ m
  pub room : length list ≡ 32
  pub are : take count list ≡ entering_in verdicts m

-- minus the sum of factor × shadow price of resource r over a list of constraints
unfoldable pub component_over : List ℤ → List ℤ → List ℕ → ℕ → ℤ
component_over factors shadow l r = neg_ℤ (sum_over (λ c. cell factors (r * 32 + c) *ℤ cell shadow c) l)

-- what refusals 13 to 16 have left out: resource and constraints in their room, factors within a million and shadow prices within 100 million either way
pub record Addable (factors shadow : List ℤ) (l : List ℕ) (r : ℕ) : Type 0 where
  pub row : r < 64
  pub few : length l ≤ 32
  pub below : (k : ℕ) → k < length l → get_or l k 0 < 32
  pub factor : (k : ℕ) → k < length l → nat_abs (cell factors (r * 32 + get_or l k 0)) ≤ 1000000
  pub price : (k : ℕ) → k < length l → nat_abs (cell shadow (get_or l k 0)) ≤ 100000000

-- the same of the values that the cuts of an interval take
pub record Priced (v : Interval) (l : List ℕ) : Type 0 where
  pub few : v.resources ≤ 64
  pub addable : (r : ℕ) → r < v.resources → Addable v.factors v.shadow l r
  pub lmp_in : (r : ℕ) → r < v.resources → in_range (neg_ℤ (pos 100000000)) (pos 100000000) (lmp_at v r) ≡ true
  pub parameter_in : in_range (pos 0) (pos 100) v.parameter ≡ true

-- the cut of resource r
abbrev pub cut_over : Interval → List ℕ → ℕ → Option ℤ
cut_over v l r = cut_from (dispatch_at v r) (lmp_at v r) (component_over v.factors v.shadow l r) v.parameter

-- why resource r is cut or not: its cut mark, component, competitive price and floor price; zeros where there is no such resource
unfoldable pub cause_over : Interval → List ℕ → ℕ → List ℤ
cause_over v l r =
    let c = component_over v.factors v.shadow l r in
    let cut = cut_over v l r in
    cond (ltb r v.resources) (mark_of cut ∷ c ∷ competitive_price (lmp_at v r) c ∷ price_of cut ∷ []) (replicate cause_width (pos 0))
