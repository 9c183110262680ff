-- A pass over the resources that adds up demand, supply and what each portfolio can withhold.
use mathlib.Core.Bool.{Bool, true, false, cond}
use mathlib.Core.List.{List}
use mathlib.Core.Logic.{⊎_elim}
use mathlib.Core.Path.{◌≡◌, refl, sym, ap, ◌∙◌}
use Prim.Native.Nat.{ℕ, zero, suc, ◌+◌, ◌-◌, ◌*◌, ◌^◌, ◌≤◌, ◌<◌, zero-le}
use native.Mathlib.Nat.{le_refl, le_trans, le_of_eq, mul-le-mul_right}
use native.Mathlib.Numerals.{add-one}
use native.Mathlib.Omega.{arith}
use borrow.Author.Tests.{eq-eqb, ne_eqb}
use lib.Dec.{T, eqb}
use lib.IntN.{ℤ, pos, negsuc, nat_abs}
use lib.ListN.{length, get_or, replicate, set, get_or-eq_default}
use lib.Signed.{le_z, mag, non_neg}
use mir.Syntax.{w64}
use mir.Val.{Fits, to_z, of_z}
use Rattle.rules_number.specs.Order.{in_range, nat_of}
use Rattle.rules_number.specs.Over.{sum_to, listed}
use Rattle.rules_number.proofs.Kit.{came, cast_fits, whole_pos, in_lo, in_hi, le_of}
use Rattle.rules_number.proofs.OverLaws.{both, listed_at, listed_same, last_or_before}
use Rattle.rules_path.specs.Paths.{Path, at, effectiveness, effect, demand, supply, share, withholdable}
use Rattle.rules_path.specs.Verdicts.{path_of}
use Rattle.path.specs.Tallies.{tally_of, Sound}
use Rattle.rules_number.proofs.SumLaws.{sum_next, sum_le}
use Rattle.rules_number.proofs.ListedLaws.{listed_set}

-- ---- signed numbers in range
nat_range : (lo : ℕ) (hi x : ℤ) → in_range (pos lo) hi x ≡ true → nat_of x ≤ nat_of hi
nat_range lo hi (pos n) e = omega (arith, le_of (in_hi (pos lo) hi (pos n) e))
nat_range lo hi (negsuc n) e = zero-le

-- what is in a range from 0 on is cast as it is
module _ (hi x : ℤ) (small : mag x < 2 ^ 63) (e : in_range (pos 0) hi x ≡ true) where
  not_below : le_z (pos 0) x ≡ true
  unfolding in_range
  not_below = (both (le_z (pos 0) x) (le_z x hi) e).0

  pub cast_fit : T (non_neg (to_z w64 (of_z w64 x))) × Fits w64 (nat_abs (to_z w64 (of_z w64 x)))
  cast_fit = rw (came x small) (cast_fits x small not_below)

  pub cast_is : nat_abs (to_z w64 (of_z w64 x)) ≡ nat_of x
  cast_is = rw (came x small) (whole_pos x not_below)

effect_range : (k : ℕ) (hi x : ℤ) → in_range (negsuc k) hi x ≡ true → effectiveness x ≤ suc k
effect_range k hi (pos n) e = zero-le
effect_range k hi (negsuc n) e = omega (arith, le_of (in_lo (negsuc k) hi (negsuc n) e))

pub size_range : (k : ℕ) (x : ℤ) → in_range (negsuc k) (pos (suc k)) x ≡ true → nat_abs x ≤ suc k
size_range k (pos n) e = omega (arith, le_of (in_hi (negsuc k) (pos (suc k)) (pos n) e))
size_range k (negsuc n) e = omega (arith, le_of (in_lo (negsuc k) (pos (suc k)) (negsuc n) e))

pub prod_le : (a b : ℕ) → a ≤ 1000000 → b ≤ 1000000 → a * b ≤ 1000000000000
prod_le a b h k = le_trans (mul-le-mul_right b h) (omega arith)

either : (t : Bool) (x b : ℕ) → x ≤ b → cond t x 0 ≤ b
either true x b h = h
either false x b h = zero-le

nothing : (t : Bool) (k : ℕ) → cond t (0 * k) 0 ≡ 0
nothing true k = omega arith
nothing false k = refl

module _ (factors dispatch available floor : List ℤ) (portfolio : List ℕ) (c : ℕ) where
  -- the first n resources
  abbrev pub first : ℕ → Path
  first n = path_of (pos 0) factors dispatch available floor portfolio (replicate 16 1) n c

  -- what is added up after n resources
  pub record Added (n x y : ℕ) (w : List ℕ) : Type 0 where
    pub demand_is : x ≡ demand (first n)
    pub supply_is : y ≡ supply (first n)
    pub withholdable_is : w ≡ listed (withholdable (first n)) 16

  -- a turn in which the factor is not below 0
  pub added_none : (n x y : ℕ) (w : List ℕ) → Added n x y w → effect (first n) n ≡ 0 → Added (n + 1) x y w
  unfolding demand supply withholdable share
  added_none n x y w a z = record {
    demand_is = a.demand_is ∙ sym (sum_next _ n ∙ rw z (omega arith));
    supply_is = a.supply_is ∙ sym (sum_next _ n ∙ rw z (omega arith));
    withholdable_is = a.withholdable_is ∙ listed_same _ _ 16 (λ p l. sym (sum_next _ n ∙ rw (z, nothing (eqb (at portfolio n) p) _) (omega arith)));
  }

  module _ (n x y : ℕ) (w : List ℕ) (so_far : Added n x y w) where
    more_demand : x + effect (first n) n * nat_of (get_or dispatch n (pos 0)) ≡ demand (first (n + 1))
    unfolding demand
    more_demand = ap (λ (k : ℕ). k + effect (first n) n * nat_of (get_or dispatch n (pos 0))) so_far.demand_is ∙ sym (sum_next _ n)

    more_supply : y + effect (first n) n * nat_of (get_or available n (pos 0)) ≡ supply (first (n + 1))
    unfolding supply
    more_supply = ap (λ (k : ℕ). k + effect (first n) n * nat_of (get_or available n (pos 0))) so_far.supply_is ∙ sym (sum_next _ n)

    more_other : (q : ℕ) → (q ≡ at portfolio n → ⊥) → withholdable (first n) q ≡ withholdable (first (n + 1)) q
    unfolding withholdable share
    more_other q h = sym (sum_next _ n ∙ rw (ne_eqb (at portfolio n) q (λ e. h (sym e))) (omega arith))

    more_own : withholdable (first n) (at portfolio n) + effect (first n) n * (nat_of (get_or available n (pos 0)) - nat_of (get_or floor n (pos 0))) ≡ withholdable (first (n + 1)) (at portfolio n)
    unfolding withholdable share
    more_own = sym (sum_next _ n ∙ rw (eq-eqb (at portfolio n) (at portfolio n) refl))

    module _ (e d a x' y' : ℕ) (w' : List ℕ) (e-is : e ≡ effect (first n) n) (d-is : d ≡ nat_of (get_or dispatch n (pos 0))) (a-is : a ≡ nat_of (get_or available n (pos 0)))
        (x-is : x' ≡ x + e * d) (y-is : y' ≡ y + e * a) where
      next_demand : x' ≡ demand (first (n + 1))
      next_demand = rw (x-is, e-is, d-is) more_demand

      next_supply : y' ≡ supply (first (n + 1))
      next_supply = rw (y-is, e-is, a-is) more_supply

      -- a resource of a known portfolio
      pub added_known : (f : ℕ) → f ≡ nat_of (get_or floor n (pos 0)) → at portfolio n < 16 → w' ≡ set w (at portfolio n) (at w (at portfolio n) + e * (a - f)) → Added (n + 1) x' y' w'
      added_known f f-is l w_is = record {
        demand_is = next_demand;
        supply_is = next_supply;
        withholdable_is = rw (w_is, so_far.withholdable_is)
            (listed_set 0 (withholdable (first n)) (withholdable (first (n + 1))) 16 (at portfolio n) _ l
            (rw (listed_at (withholdable (first n)) 0 16 (at portfolio n) l, e-is, a-is, f-is) more_own) more_other);
      }

      -- a resource of an unknown one
      pub added_unknown : 16 ≤ at portfolio n → w' ≡ w → Added (n + 1) x' y' w'
      added_unknown l w_is = record {
        demand_is = next_demand;
        supply_is = next_supply;
        withholdable_is = w_is ∙ so_far.withholdable_is ∙ listed_same _ _ 16 (λ q m. more_other q (λ z. omega arith));
      }

  -- resources without a factor add nothing
  pub added_past : (k n x y : ℕ) (w : List ℕ) → k ≤ n → ((r : ℕ) → k ≤ r → r < n → length factors ≤ r * 32 + c) → Added k x y w → Added n x y w
  added_past k zero x y w l h a = let e : k ≡ 0 = omega arith in rw e at a
  added_past k (suc n) x y w l h a =
      ⊎_elim (λ e. rw e at a)
      (λ m.
      rw add-one at (added_none n x y w (added_past k n x y w (omega arith) (λ r i j. h r i (omega arith)) a)
      (ap effectiveness (get_or-eq_default factors (pos 0) (h n (omega arith) (le_refl (suc n)))))))
      (last_or_before k (suc n) (omega arith))

  -- the tally of no resource
  pub added_start : Added 0 0 0 (replicate 16 0)
  unfolding demand supply withholdable sum_to listed
  added_start = record { demand_is = refl; supply_is = refl; withholdable_is = refl }

  -- the whole tally
  pub tallied : (n x y : ℕ) (w : List ℕ) → Added n x y w → record { demand = x; supply = y; offers = w } ≡ tally_of (first n)
  tallied n x y w a = rw (a.demand_is, a.supply_is, a.withholdable_is)

  -- what is known of resource n where all is in range
  pub record Known (n : ℕ) : Type 0 where
    pub effect_most : effect (first n) n ≤ 1000000
    pub available_most : nat_of (get_or available n (pos 0)) ≤ 1000000
    pub floor_most : nat_of (get_or floor n (pos 0)) ≤ nat_of (get_or available n (pos 0))
    pub dispatch_most : nat_of (get_or dispatch n (pos 0)) ≤ nat_of (get_or available n (pos 0))

  module _ (m : ℕ) (s : Sound factors dispatch available floor m c) where
    pub known : (n : ℕ) → n < m → Known n
    known n l = record {
      effect_most = effect_range 999999 (pos 1000000) _ (s.factor_in n l);
      available_most = nat_range 0 (pos 1000000) _ (s.available_in n l);
      floor_most = nat_range 0 _ _ (s.floor_in_lem n l);
      dispatch_most = nat_range 0 _ _ (s.dispatch_in n l);
    }

    -- no sum is above n times a million squared
    pub demand_room : (n x y : ℕ) (w : List ℕ) → n ≤ m → Added n x y w → x ≤ n * 1000000000000
    unfolding demand
    demand_room n x y w l a = le_trans (le_of_eq a.demand_is) (sum_le _ 1000000000000 n each)
      where
        each : (i : ℕ) → i < n → effect (first n) i * nat_of (get_or dispatch i (pos 0)) ≤ 1000000000000
        each i h = let k = known i (omega arith) in prod_le _ _ k.effect_most (omega arith)

    pub supply_room : (n x y : ℕ) (w : List ℕ) → n ≤ m → Added n x y w → y ≤ n * 1000000000000
    unfolding supply
    supply_room n x y w l a = le_trans (le_of_eq a.supply_is) (sum_le _ 1000000000000 n each)
      where
        each : (i : ℕ) → i < n → effect (first n) i * nat_of (get_or available i (pos 0)) ≤ 1000000000000
        each i h = let k = known i (omega arith) in prod_le _ _ k.effect_most k.available_most

    pub withholdable_le : (n p : ℕ) → n ≤ m → withholdable (first n) p ≤ n * 1000000000000
    unfolding withholdable share
    withholdable_le n p l = sum_le _ 1000000000000 n each
      where
        each : (i : ℕ) → i < n → cond (eqb (at portfolio i) p) (effect (first n) i * (nat_of (get_or available i (pos 0)) - nat_of (get_or floor i (pos 0)))) 0 ≤ 1000000000000
        each i h =
            let k = known i (omega arith) in
            let most : nat_of (get_or available i (pos 0)) - nat_of (get_or floor i (pos 0)) ≤ 1000000 = omega arith in
            either (eqb (at portfolio i) p) (effect (first n) i * (nat_of (get_or available i (pos 0)) - nat_of (get_or floor i (pos 0)))) 1000000000000
            (prod_le (effect (first n) i) (nat_of (get_or available i (pos 0)) - nat_of (get_or floor i (pos 0))) k.effect_most most)

    pub withholdable_room : (n x y : ℕ) (w : List ℕ) (p : ℕ) → n ≤ m → p < 16 → Added n x y w → at w p ≤ n * 1000000000000
    withholdable_room n x y w p l h a = rw (a.withholdable_is, listed_at (withholdable (first n)) 0 16 p h) (withholdable_le n p l)
