-- Counterflow supply and demand, what a seller can withhold, and which constraints enter, as demand 3 words them, are what the verdict is made of.
-- Assumes nothing.
use mathlib.Core.Bool.{Bool, true, false, cond}
use mathlib.Core.List.Memᴰ
use mathlib.Core.List.{List, [], ◌∷◌, Memᴰ}
use mathlib.Core.Logic.{◌↔◌, ⊎_elim}
use mathlib.Core.Path.{◌≡◌, refl, sym, ap, ap₂, ◌∙◌}
use Prim.Native.Nat.{ℕ, zero, suc, ◌+◌, ◌-◌, ◌*◌, ◌≤◌, ◌<◌, zero-le}
use native.Mathlib.Nat.{le_refl}
use native.Mathlib.Omega.{arith}
use borrow.Author.Tests.{le-ltb}
use lib.Dec.{eqb}
use lib.IntN.{ℤ, pos, negsuc, neg_ℤ, ◌+ℤ◌, ◌-ℤ◌, ◌*ℤ◌}
use lib.Signed.{lt_z, ◌≤ℤ◌, ◌<ℤ◌}
use Rattle.rules_number.specs.Order.{eq_z, nat_of}
use Rattle.rules_number.specs.Over.{sum_to}
use Rattle.rules_number.proofs.Kit.{lit, sub, eq_by, le_by, le_from, lt_by, lt_from}
use Rattle.rules_interval.specs.Intervals.{dispatch_at, available_at, floor_at, factor_at, interval_refusal}
use Rattle.rules_interval.specs.declared.Interval.{Interval}
use Rattle.rules_interval.proofs.Exactly.{interval_accepted}
use Rattle.rules_path.specs.Paths.{effectiveness, demand, supply, share, withholdable, total, Absent, NetSeller, Possible, Withheld, NonCompetitive}
use Rattle.rules_opening.specs.Openings.{resource_at, seller_at, opening_refusal}
use Rattle.rules_opening.specs.declared.Opening.{Opening}
use Rattle.rules_hour.specs.Demand3.{sum_of, effectiveness_on, counterflow_demand, counterflow_supply, can_withhold, IsNetSeller, EachOnce, withheld_by, Enters, path_from}
use Rattle.rules_hour.proofs.AcceptedOpening.{few, owner_known}

-- ---- integers that are not negative
sum_is : (f : ℕ → ℤ) (g : ℕ → ℕ) (n : ℕ) → ((r : ℕ) → r < n → f r ≡ pos (g r)) → sum_of f n ≡ pos (sum_to g n)
unfolding sum_to
sum_is f g zero h = refl
sum_is f g (suc n) h = ap₂ (λ (x y : ℤ). x +ℤ y) (sum_is f g n (λ r l. h r (omega arith))) (h n (le_refl (suc n)))

whole : (x : ℤ) → pos 0 ≤ℤ x → x ≡ pos (nat_of x)
whole (pos n) h = refl
whole (negsuc n) h = absurd h.le

effectiveness_is : (s : ℤ) → cond (lt_z s (pos 0)) (neg_ℤ s) (pos 0) ≡ pos (effectiveness s)
effectiveness_is (pos n) = rw (le-ltb n 0 zero-le)
effectiveness_is (negsuc n) = refl

-- what can be withheld of one resource
apart : (a f : ℤ) → pos 0 ≤ℤ a → pos 0 ≤ℤ f → f ≤ℤ a → (a -ℤ f) ≡ pos (nat_of a - nat_of f)
apart (pos a) (pos f) h k l = eq_by (sub (lit a) (lit f)) (lit (a - f)) (omega (arith, le_from (lit f) (lit a) l))
apart (pos a) (negsuc f) h k l = absurd k.le
apart (negsuc a) f h k l = absurd h.le

share_of : (x a : ℤ) (p b : ℕ) → pos 0 ≤ℤ x → a ≡ pos b → cond (eq_z x (pos p)) a (pos 0) ≡ pos (cond (eqb (nat_of x) p) b 0)
share_of (pos x) a p b h e = rw e (either (eqb x p) b)
  where
    either : (t : Bool) (b : ℕ) → cond t (pos b) (pos 0) ≡ pos (cond t b 0)
    either true b = refl
    either false b = refl
share_of (negsuc x) a p b h e = absurd h.le

-- ---- the sums, of an accepted call on an accepted opening
module _ (o : Opening) (accepted : opening_refusal o ≡ 0) (v : Interval) (sound : interval_refusal o.resources v ≡ 0) (c : ℕ) where
  able : (r : ℕ) → r < o.resources → (pos 0 ≤ℤ dispatch_at v r) × (pos 0 ≤ℤ available_at v r) × (pos 0 ≤ℤ floor_at v r) × (floor_at v r ≤ℤ available_at v r)
  able r l =
      let met = (interval_accepted o.resources v (few o accepted).2).0 sound in
      let h : r < v.resources = rw met.0 l in
      ((met.3.dispatch r h).0, (met.3.available r h).0, (met.3.floor r h).0, (met.3.floor r h).1)

  effect_is : (r : ℕ) → effectiveness_on v c r ≡ pos (effectiveness (factor_at v r c))
  unfolding effectiveness_on
  effect_is r = effectiveness_is (factor_at v r c)

  pub demand_is : counterflow_demand o v c ≡ pos (demand (path_from o v c))
  unfolding counterflow_demand demand
  demand_is =
      sum_is _ _ o.resources (λ r l. ap₂ (λ (x y : ℤ). x *ℤ y) (effect_is r) (whole (dispatch_at v r) (able r l).0))

  pub supply_is : counterflow_supply o v c ≡ pos (supply (path_from o v c))
  unfolding counterflow_supply supply
  supply_is =
      sum_is _ _ o.resources (λ r l. ap₂ (λ (x y : ℤ). x *ℤ y) (effect_is r) (whole (available_at v r) (able r l).1))

  pub can_withhold_is : (p : ℕ) → can_withhold o v c p ≡ pos (withholdable (path_from o v c) p)
  unfolding can_withhold withholdable share
  can_withhold_is p =
      sum_is _ _ o.resources (λ r l.
      let a = able r l in
      share_of (resource_at o r).portfolio (effectiveness_on v c r *ℤ (available_at v r -ℤ floor_at v r)) p (effectiveness (factor_at v r c) * (nat_of (available_at v r) - nat_of (floor_at v r)))
      (owner_known o accepted r l).0 (ap₂ (λ (x y : ℤ). x *ℤ y) (effect_is r) (apart (available_at v r) (floor_at v r) a.1 a.2 a.3)))

-- ---- the choice
-- a mark of 1
pub one_exactly : (s : ℤ) → (s ≡ pos 1) ↔ (nat_of s ≡ 1)
one_exactly (pos n) = (ap nat_of, ap pos)
one_exactly (negsuc n) = ((λ e. ap nat_of e), λ e. absurd (omega arith))

-- a seller that stands once on a list is absent from what follows
absent_is : (p : ℕ) (l : List Withheld) → ((y : Withheld) → Memᴰ y l → p ≡ y.who → ⊥) → Absent p l
unfolding Absent
absent_is p [] h = tt
absent_is p (x ∷ l) h = ((λ e. h x (Memᴰ.head refl) (sym e)), absent_is p l (λ y m. h y (Memᴰ.tail m)))

absent_not : (p : ℕ) (l : List Withheld) → Absent p l → (y : Withheld) → Memᴰ y l → p ≡ y.who → ⊥
unfolding Absent
absent_not p [] a y m e = Memᴰ.not-nil m
absent_not p (x ∷ l) a y m e = ⊎_elim (λ z. a.0 (sym (e ∙ ap (λ (w : Withheld). w.who) z))) (λ k. absent_not p l a.1 y k e) (Memᴰ.cases_cons m)

pub withheld_is : (l : List Withheld) → withheld_by l ≡ pos (total l)
unfolding total
withheld_is [] = refl
withheld_is (x ∷ l) = ap (λ (z : ℤ). pos x.amount +ℤ z) (withheld_is l)

-- supply less withheld below demand
below_exactly : (s w d : ℕ) → ((pos s -ℤ pos w) <ℤ pos d) ↔ (s < d + w)
below_exactly s w d =
    ((λ h. omega (arith, lt_from (sub (lit s) (lit w)) (lit d) h)), λ h. lt_by (sub (lit s) (lit w)) (lit d) (omega arith))

module _ (o : Opening) (accepted : opening_refusal o ≡ 0) (v : Interval) (sound : interval_refusal o.resources v ≡ 0) (c : ℕ) where
  -- a net seller that withholds no more than it can
  abbrev pub Withholds : Withheld → Type 0
  Withholds x = IsNetSeller o x.who × (pos x.amount ≤ℤ can_withhold o v c x.who)

  withholds_exactly : (x : Withheld) → Withholds x ↔ (NetSeller (path_from o v c) x.who × (x.amount ≤ withholdable (path_from o v c) x.who))
  withholds_exactly x =
      let one = one_exactly (seller_at o x.who) in
      let most = can_withhold_is o accepted v sound c x.who in (
        (λ h. ((h.0.0, one.0 h.0.1), omega (arith, le_from (lit _) (lit _) (rw most at h.1)))),
        λ h. ((h.0.0, one.1 h.0.1), rw most (le_by (lit _) (lit _) (omega (arith, h.1)))),
      )

  pub possible_is : (l : List Withheld) → EachOnce l → ((x : Withheld) → Memᴰ x l → Withholds x) → Possible (path_from o v c) l
  unfolding Possible
  possible_is [] once each = tt
  possible_is (x ∷ l) once each =
      let a = (withholds_exactly x).0 (each x (Memᴰ.head refl)) in
      (a.0, a.1, absent_is x.who l once.0, possible_is l once.1 (λ y m. each y (Memᴰ.tail m)))

  pub once_of : (l : List Withheld) → Possible (path_from o v c) l → EachOnce l
  unfolding Possible
  once_of [] h = tt
  once_of (x ∷ l) h = (absent_not x.who l h.2, once_of l h.3)

  pub each_of : (l : List Withheld) → Possible (path_from o v c) l → (x : Withheld) → Memᴰ x l → Withholds x
  unfolding Possible
  each_of [] h x m = absurd (Memᴰ.not-nil m)
  each_of (y ∷ l) h x m = ⊎_elim (λ e. rw e ((withholds_exactly y).1 (h.0, h.1))) (λ k. each_of l h.3 x k) (Memᴰ.cases_cons m)

  -- A constraint enters exactly when it is non-competitive.
  pub enters_exactly : Enters o v c ↔ NonCompetitive (path_from o v c)
  enters_exactly =
      let s = supply_is o accepted v sound c in
      let d = demand_is o accepted v sound c in (
        (λ h.
            record {
              binding = h.binding;
              choice = h.choice;
              few = h.few;
              possible = possible_is h.choice h.once h.each;
              below = (below_exactly _ _ _).0 (rw (s, d, withheld_is h.choice) at h.below);
            }),
        λ h.
            record {
              binding = h.binding;
              choice = h.choice;
              few = h.few;
              once = once_of h.choice h.possible;
              each = each_of h.choice h.possible;
              below = rw (s, d, withheld_is h.choice) ((below_exactly _ _ _).1 h.below);
            },
      )
