-- Paper 01, Refused, by place: "Opening checks 9, then 10, then each resource in number order: bid, costs (or the pack's curve), 11". Assumes nothing.
use mathlib.Core.List.{List, [], ◌∷◌, ◌++◌}
use mathlib.Core.Logic.{◌⊎◌, inl, inr, ⊎_elim, ◌↔◌}
use mathlib.Core.Path.{◌≡◌, refl, sym, subst, ◌∙◌}
use Prim.Native.Nat.{ℕ, ◌≤◌, ◌<◌}
use native.Mathlib.Omega.{arith}
use lib.IntN.{pos, nat_abs}
use lib.ListN.{length, get_or}
use lib.Signed.{◌≤ℤ◌, ◌<ℤ◌}
use Rattle.rules_number.proofs.OverLaws.{le_or_lt}
use Rattle.rules_curve.specs.Demands.{Demand, ◌asks◌, First, each_demand}
use Rattle.rules_curve.proofs.FirstLaws.{none_exactly}
use Rattle.rules_curve.specs.Conditions.{bid_demands, default_demands}
use Rattle.rules_curve.specs.Curves.{bid_refusal, default_refusal}
use Rattle.rules_curve.proofs.Exactly.{bid_exactly, default_exactly}
use Rattle.rules_cost.specs.Conditions.{cost_demands}
use Rattle.rules_cost.specs.Costs.{cost_refusal}
use Rattle.rules_cost.proofs.Exactly.{cost_exactly}
use Rattle.rules_opening.specs.ResourceConditions.{Full, Inside, source_demands, resource_demands}
use Rattle.rules_opening.specs.Resources.{resource_refusal}
use Rattle.rules_opening.proofs.ResourceExactly.{resource_exactly}
use Rattle.rules_opening.specs.Conditions.{Limited, Known}
use Rattle.rules_opening.specs.Openings.{no_resource, opening_refusal}
use Rattle.rules_opening.proofs.Exactly.{opening_exactly}
use Rattle.rules_opening.specs.declared.Resource.{Resource}
use Rattle.rules_opening.specs.declared.Source.{Source}
use Rattle.rules_opening.specs.declared.Source.TheVariants as source
use Rattle.rules_opening.specs.declared.Opening.{Opening}
use Rattle.statements.proofs.Told.{and_so, passed, stopped, parted, each_met, one_of_each}
use Rattle.statements.proofs.Refusals.{Within, edge, edge_is, m, PMax, bid, pack, costs}

-- ---- a resource in a month: "bid, costs (or the pack's curve), 11"
-- b is the number of its bid, s that of its costs or of its pack, and inside says that the bid lies inside its default curve
pub record ResourceSays (b s : ℕ) (inside : Type 0) (r : ℕ) : Type 0 where
  pub one_to_eight : (k : ℕ) → 1 ≤ k → k ≤ 8 → (r ≡ k) ↔ ((b ≡ k) ⊎ ((b ≡ 0) × (s ≡ k)))
  -- 11 "bid reaches outside its default curve"
  pub eleven : (r ≡ 11) ↔ ((b ≡ 0) × ((s ≡ 0) × (inside → ⊥)))
  pub none : (r ≡ 0) ↔ ((b ≡ 0) × ((s ≡ 0) × inside))
  pub no_other : (r ≤ 8) ⊎ (r ≡ 11)

-- ---- an opening
module _ (o : Opening) where
  abbrev pub resource : ℕ → Resource
  resource k = get_or o.list k no_resource

  -- the number of resource k, in the opening's month
  abbrev number : ℕ → ℕ
  number k = resource_refusal (nat_abs o.month) (resource k)

  -- 9 "month, portfolio or resource count outside limits": "1 to 16 portfolios, 1 to 64 resources, .. month 1 to 1,200"
  abbrev Counts : Type 0
  Counts = Within (pos 1) (pos 1200) o.month × (1 ≤ o.portfolios) × (o.portfolios ≤ 16) × (1 ≤ o.resources) × (o.resources ≤ 64)

  -- 10 "seller not 0 or 1, or unknown portfolio"
  abbrev Members : Type 0
  Members =
      ((p : ℕ) → p < o.portfolios → (get_or o.sellers p (pos 0) ≡ pos 0) ⊎ (get_or o.sellers p (pos 0) ≡ pos 1))
      × ((k : ℕ) → k < o.resources → (pos 0 ≤ℤ (resource k).portfolio) × ((resource k).portfolio <ℤ pos o.portfolios))

pub record OpeningSays (o : Opening) (r : ℕ) : Type 0 where
  pub nine : (r ≡ 9) ↔ (Counts o → ⊥)
  pub ten : (r ≡ 10) ↔ (Counts o × (Members o → ⊥))
  -- "then each resource in number order"
  pub others : (n : ℕ) → 0 < n → (n ≡ 9 → ⊥) → (n ≡ 10 → ⊥)
      → (r ≡ n) ↔ (Counts o × (Members o × ((k : ℕ) × (k < o.resources) × ((j : ℕ) → j < k → number o j ≡ 0) × (number o k ≡ n))))
  pub none : (r ≡ 0) ↔ (Counts o × (Members o × ((k : ℕ) → k < o.resources → number o k ≡ 0)))

-- ---- from the theorems
module _ (k l : List Demand) (b s r : ℕ) (P inside : Type 0) (bids : (n : ℕ) → (b ≡ n) ↔ First n k) (sources : (n : ℕ) → (s ≡ n) ↔ First n l) (same : P ↔ inside)
    (exactly : (n : ℕ) → (r ≡ n) ↔ First n (k ++ (l ++ ((11 asks P) ∷ [])))) (b-few : b ≤ 8) (s-few : s ≤ 8) where
  -- which of the three tells it
  abbrev Parts : ℕ → Type 0
  Parts n = ((0 < n) × (b ≡ n)) ⊎ ((b ≡ 0) × (((0 < n) × (s ≡ n)) ⊎ ((s ≡ 0) × (((n ≡ 0) × inside) ⊎ ((n ≡ 11) × (inside → ⊥))))))

  last : (n : ℕ) → First n ((11 asks P) ∷ []) ↔ (((n ≡ 0) × inside) ⊎ ((n ≡ 11) × (inside → ⊥)))
  last n = (
    (λ x. ⊎_elim (λ y. inl (y.1, same.0 y.0)) (λ y. inr (y.1, λ i. y.0 (same.1 i))) x),
    λ x. ⊎_elim (λ y. inl (same.1 y.1, y.0)) (λ y. let e = y.0 in inr ((λ i. y.1 (same.0 i)), y.0, omega arith)) x,
  )

  parts : (n : ℕ) → (r ≡ n) ↔ Parts n
  parts n = and_so (exactly n) (and_so (parted k (l ++ ((11 asks P) ∷ [])) n) (
    (λ x. ⊎_elim
        (λ y. inl (y.0, (bids n).1 y.1))
        (λ y. inr (
          (bids 0).1 ((none_exactly k).1 y.0),
          ⊎_elim
              (λ z. inl (z.0, (sources n).1 z.1))
              (λ z. inr ((sources 0).1 ((none_exactly l).1 z.0), (last n).0 z.1))
              ((parted l ((11 asks P) ∷ []) n).0 y.1),
        ))
        x),
    λ x. ⊎_elim
        (λ y. inl (y.0, (bids n).0 y.1))
        (λ y. inr (
          (none_exactly k).0 ((bids 0).0 y.0),
          (parted l ((11 asks P) ∷ []) n).1 (⊎_elim
              (λ z. inl (z.0, (sources n).0 z.1))
              (λ z. inr ((none_exactly l).0 ((sources 0).0 z.0), (last n).1 z.1))
              y.1),
        ))
        x,
  ))

  resource_says : ResourceSays b s inside r
  resource_says = record {
    one_to_eight = λ n low high. and_so (parts n) (
      (λ x. ⊎_elim (λ y. inl y.1) (λ y. inr (y.0, ⊎_elim (λ z. z.1) (λ z. ⊎_elim (λ u. absurd (omega (arith, u.0))) (λ u. absurd (omega (arith, u.0))) z.1) y.1)) x),
      λ x. ⊎_elim (λ y. inl (low, y)) (λ y. inr (y.0, inl (low, y.1))) x,
    );
    eleven = and_so (parts 11) (
      (λ x. ⊎_elim (λ y. absurd (omega (arith, y.1))) (λ y. (y.0, ⊎_elim (λ z. absurd (omega (arith, z.1))) (λ z. (z.0, ⊎_elim (λ u. absurd (omega (arith, u.0))) (λ u. u.1) z.1)) y.1)) x),
      λ x. inr (x.0, inr (x.1.0, inr (refl, x.1.1))),
    );
    none = and_so (parts 0) (
      (λ x. ⊎_elim (λ y. absurd (omega (arith, y.0))) (λ y. (y.0, ⊎_elim (λ z. absurd (omega (arith, z.0))) (λ z. (z.0, ⊎_elim (λ u. u.1) (λ u. absurd (omega (arith, u.0))) z.1)) y.1)) x),
      λ x. inr (x.0, inr (x.1.0, inl (refl, x.1.1))),
    );
    no_other = ⊎_elim (λ y. inl (omega (arith, y.1))) (λ y. ⊎_elim (λ z. inl (omega (arith, z.1))) (λ z. ⊎_elim (λ u. inl (omega (arith, u.0))) (λ u. inr u.0) z.1) y.1) ((parts r).0 refl);
  }

at_most_eight : (n lo hi : ℕ) → hi ≤ 8 → (n ≡ 0) ⊎ ((lo ≤ n) × (n ≤ hi)) → n ≤ 8
at_most_eight n lo hi few x = ⊎_elim (λ e. omega arith) (λ y. omega (arith, y.1)) x

module _ (month : ℕ) (x : Resource) (full : (length x.bid.steps ≡ 11) × (length x.pack.steps ≡ 11)) where
  few : bid_refusal month x.bid ≤ 8
  few = at_most_eight _ 1 3 (omega arith) (bid x.bid full.0 month).no_other

  held : Full x
  held = record { bid = full.0; pack = full.1 }

  exactly_of : (s : Source) → x.source ≡ s → (n : ℕ) → (resource_refusal month x ≡ n) ↔ First n (bid_demands month x.bid ++ (source_demands s x ++ ((11 asks Inside s x) ∷ [])))
  exactly_of s e n = subst (λ (s : Source). (resource_refusal month x ≡ n) ↔ First n (bid_demands month x.bid ++ (source_demands s x ++ ((11 asks Inside s x) ∷ [])))) e (resource_exactly month x held n)

  -- "The curve starts at the first m and each later m ends one step"
  pub resource_of_costs : x.source ≡ source.Costs
      → ResourceSays (bid_refusal month x.bid) (cost_refusal x.costs) ((m x.costs 0 ≤ℤ x.bid.start) × (edge x.bid x.bid.count ≤ℤ PMax x.costs)) (resource_refusal month x)
  resource_of_costs e =
      resource_says (bid_demands month x.bid) (cost_demands x.costs) _ _ _ (Inside source.Costs x) _ (bid_exactly x.bid full.0 month) (cost_exactly x.costs)
      ((λ h. (h.starts, rw (edge_is x.bid x.bid.count) h.ends)), λ h. record { starts = h.0; ends = rw (edge_is x.bid x.bid.count) at h.1 })
      (exactly_of source.Costs e) few (at_most_eight _ 4 8 (omega arith) (costs x.costs).no_other)

  pub resource_of_pack : x.source ≡ source.Pack
      → ResourceSays (bid_refusal month x.bid) (default_refusal x.pack) ((x.pack.start ≤ℤ x.bid.start) × (edge x.bid x.bid.count ≤ℤ edge x.pack x.pack.count))
      (resource_refusal month x)
  resource_of_pack e =
      resource_says (bid_demands month x.bid) (default_demands x.pack) _ _ _ (Inside source.Pack x) _ (bid_exactly x.bid full.0 month) (default_exactly x.pack full.1) (
        (λ h. (h.starts, rw (edge_is x.bid x.bid.count, edge_is x.pack x.pack.count) h.ends)),
        λ h. record { starts = h.0; ends = rw (edge_is x.bid x.bid.count, edge_is x.pack x.pack.count) at h.1 },
      )
      (exactly_of source.Pack e) few (at_most_eight _ 1 3 (omega arith) (pack x.pack full.1).no_other)

  -- 9 and 10 are no resource's
  neither : (n : ℕ) → 9 ≤ n → n ≤ 10 → resource_refusal month x ≡ n → ⊥
  neither n low high e = go x.source refl
    where
      go : (s : Source) → x.source ≡ s → ⊥
      go source.Costs q = ⊎_elim (λ y. omega arith) (λ y. omega arith) (resource_of_costs q).no_other
      go source.Pack q = ⊎_elim (λ y. omega arith) (λ y. omega arith) (resource_of_pack q).no_other

module _ (o : Opening) (full : (k : ℕ) → k < o.resources → (length (resource o k).bid.steps ≡ 11) × (length (resource o k).pack.steps ≡ 11)) where
  counts_are : Limited o ↔ Counts o
  counts_are = (
    (λ h. (h.month, h.portfolios.0, h.portfolios.1, h.resources.0, h.resources.1)),
    λ h. record { month = h.0; portfolios = (h.1, h.2); resources = (h.3, h.4) },
  )

  members_are : Known o ↔ Members o
  members_are = ((λ h. (h.marked, h.owned)), λ h. record { marked = h.0; owned = h.1 })

  held_each : (k : ℕ) → k < o.resources → Full (resource o k)
  held_each k l = held (nat_abs o.month) (resource o k) (full k l)

  -- what is asked of resource k, of each, and from 10 on
  abbrev of_one : ℕ → List Demand
  of_one k = resource_demands (nat_abs o.month) (resource o k)

  abbrev of_each : List Demand
  of_each = each_demand of_one o.resources

  abbrev from_ten : List Demand
  from_ten = (10 asks Known o) ∷ of_each

  exactly : (n : ℕ) → (opening_refusal o ≡ n) ↔ First n ((9 asks Limited o) ∷ from_ten)
  exactly n = opening_exactly o (λ k l low. held_each k l) n

  each_exactly : (k : ℕ) → k < o.resources → (n : ℕ) → (number o k ≡ n) ↔ First n (of_one k)
  each_exactly k l n = resource_exactly (nat_abs o.month) (resource o k) (held_each k l) n

  one : (n : ℕ) → 0 < n → First n of_each ↔ ((k : ℕ) × (k < o.resources) × ((j : ℕ) → j < k → number o j ≡ 0) × (number o k ≡ n))
  one n some = one_of_each of_one (number o) n some o.resources each_exactly

  unsaid : (n : ℕ) → 9 ≤ n → n ≤ 10 → First n of_each → ⊥
  unsaid n low high f =
      let k = (one n (omega arith)).0 f in
      neither (nat_abs o.month) (resource o k.0) (full k.0 k.1) n low high k.3

  not_nine : First 9 from_ten → ⊥
  not_nine (inl f) = unsaid 9 (omega arith) (omega arith) f.1
  not_nine (inr f) = omega (arith, f.1)

  -- an opening that meets 9, and one that meets 10 too
  past_nine : {R : Type 0} (n : ℕ) → (n ≡ 9 → ⊥) → First n from_ten ↔ R → (opening_refusal o ≡ n) ↔ (Counts o × R)
  past_nine n other rest = and_so (exactly n) (passed n 9 from_ten counts_are other rest)

  past_ten : {R : Type 0} (n : ℕ) → (n ≡ 9 → ⊥) → (n ≡ 10 → ⊥) → First n of_each ↔ R → (opening_refusal o ≡ n) ↔ (Counts o × (Members o × R))
  past_ten n other too rest = past_nine n other (passed n 10 of_each members_are too rest)

  within : OpeningSays o (opening_refusal o)
  within = record {
    nine = and_so (exactly 9) (stopped 9 9 from_ten counts_are refl (omega arith) not_nine);
    ten = past_nine 10 (λ e. omega arith) (stopped 10 10 of_each members_are refl (omega arith) (unsaid 10 (omega arith) (omega arith)));
    others = λ n some nine ten. past_ten n nine ten (one n some);
    none = past_ten 0 (λ e. omega arith) (λ e. omega arith) (each_met of_one (number o) o.resources each_exactly);
  }

-- what is read of an opening, at most 64 resources, holds its curves in arrays of eleven steps
module _ (o : Opening) (full : (k : ℕ) → k < o.resources → k < 64 → (length (resource o k).bid.steps ≡ 11) × (length (resource o k).pack.steps ≡ 11)) where
  over : 64 < o.resources → OpeningSays o (opening_refusal o)
  over h =
      let said : opening_refusal o ≡ 9 = (opening_exactly o (λ k l low. held (nat_abs o.month) (resource o k) (full k l low)) 9).1 (inr ((λ lim. omega (arith, lim.resources.1)), refl, omega arith)) in record {
        nine = ((λ e c. omega (arith, c.4)), λ n. said);
        ten = ((λ e. absurd (omega arith)), λ x. absurd (omega (arith, x.0.4)));
        others = λ n some nine ten. ((λ e. absurd (nine (sym e ∙ said))), λ x. absurd (omega (arith, x.0.4)));
        none = ((λ e. absurd (omega arith)), λ x. absurd (omega (arith, x.0.4)));
      }

  pub opening : OpeningSays o (opening_refusal o)
  opening = ⊎_elim (λ h. within o (λ k l. full k l (omega arith))) over (le_or_lt o.resources 64)
