-- What an interval says of a resource and of a constraint, and refusals 13 to 16 (paper 01, Interval and hour: Limits; Refused, by place).
use Rattle.std.specs.Prelude.{Bool, ◌&&◌, List, ℕ, ◌+◌, ◌*◌, leb, eqb, ℤ, pos, neg_ℤ, get_or}
use Rattle.rules_number.specs.Order.{in_range}
use Rattle.rules_number.specs.Over.{all_to}
use Rattle.rules_curve.specs.Refusals.{unless, ◌then◌}
use Rattle.rules_interval.specs.declared.Interval.{Interval}

-- the interval of these values
abbrev pub interval_of : ℕ → List ℤ → ℕ → List ℤ → List ℤ → List ℤ → List ℤ → List ℤ → ℤ → Interval
interval_of constraints shadow resources lmp dispatch available floor factors parameter = record {
  constraints = constraints;
  shadow = shadow;
  resources = resources;
  lmp = lmp;
  dispatch = dispatch;
  available = available;
  floor = floor;
  factors = factors;
  parameter = parameter;
}

-- cell i of an array
abbrev pub cell : List ℤ → ℕ → ℤ
cell l i = get_or l i (pos 0)

-- the shadow price of constraint c
abbrev pub shadow_at : Interval → ℕ → ℤ
shadow_at v c = cell v.shadow c

-- locational price, dispatch, available and floor of resource r
abbrev pub lmp_at : Interval → ℕ → ℤ
lmp_at v r = cell v.lmp r

abbrev pub dispatch_at : Interval → ℕ → ℤ
dispatch_at v r = cell v.dispatch r

abbrev pub available_at : Interval → ℕ → ℤ
available_at v r = cell v.available r

abbrev pub floor_at : Interval → ℕ → ℤ
floor_at v r = cell v.floor r

-- s: the shift factor of resource r on constraint c
abbrev pub factor_at : Interval → ℕ → ℕ → ℤ
factor_at v r c = cell v.factors (r * 32 + c)

-- ---- refusals 13 to 16, of an interval for an hour of n resources
-- 13: the resource count is the hour's, and an hour has at most 64
abbrev pub is_same_count : ℕ → Interval → Bool
is_same_count n v = eqb v.resources n && leb v.resources 64

-- 14: at most 32 constraints
abbrev pub constraints_good : Interval → Bool
constraints_good v = leb v.constraints 32

-- the first n cells lie between lo and hi
unfoldable pub all_within : ℤ → ℤ → List ℤ → ℕ → Bool
all_within lo hi l n = all_to (λ i. in_range lo hi (cell l i)) n

-- the factors of n resources on m constraints
unfoldable pub factors_good : List ℤ → ℕ → ℕ → Bool
factors_good l n m = all_to (λ r. all_to (λ c. in_range (neg_ℤ (pos 1000000)) (pos 1000000) (cell l (r * 32 + c))) m) n

-- 15: shadow, lmp, parameter and factors
abbrev pub ranges_good : List ℤ → List ℤ → ℤ → List ℤ → ℕ → ℕ → Bool
ranges_good shadow lmp parameter factors n m =
    all_within (pos 0) (pos 100000000) shadow m
    && (all_within (neg_ℤ (pos 100000000)) (pos 100000000) lmp n && (in_range (pos 0) (pos 100) parameter && factors_good factors n m))

-- 16: available is 0 to 1,000,000, and floor and dispatch are 0 to available
abbrev pub output_good : ℤ → ℤ → ℤ → Bool
output_good available floor dispatch =
    in_range (pos 0) (pos 1000000) available && (in_range (pos 0) available floor && in_range (pos 0) available dispatch)

-- the same of the first n resources
unfoldable pub outputs_good : List ℤ → List ℤ → List ℤ → ℕ → Bool
outputs_good available floor dispatch n = all_to (λ r. output_good (cell available r) (cell floor r) (cell dispatch r)) n

-- the lowest of 13 to 16 that applies
unfoldable pub interval_refusal : ℕ → Interval → ℕ
interval_refusal n v =
    unless (is_same_count n v) 13 then unless (constraints_good v) 14 then unless (ranges_good v.shadow v.lmp v.parameter v.factors v.resources v.constraints) 15
    then unless (outputs_good v.available v.floor v.dispatch v.resources) 16
