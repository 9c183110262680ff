-- Paper 01, Refused, by place, and "each number given only on its condition": what 1 to 8 say, and which curves and costs are taken. Assumes nothing.
use mathlib.Core.List.{List, [], ◌∷◌}
use mathlib.Core.Logic.{◌⊎◌, inl, inr, ⊎_elim, ◌↔◌}
use mathlib.Core.Path.{◌≡◌, refl}
use Prim.Native.Nat.{ℕ, zero, suc, ◌-◌, ◌*◌, ◌/◌, ◌≤◌, ◌<◌}
use lib.IntN.{ℤ, pos, neg_ℤ, ◌-ℤ◌, ◌*ℤ◌}
use lib.ListN.{length, get_or}
use lib.Signed.{◌≤ℤ◌, ◌<ℤ◌}
use Rattle.rules_number.specs.Order.{min_z, max_z}
use Rattle.rules_curve.specs.Demands.{First}
use Rattle.rules_curve.specs.Conditions as rules
use Rattle.rules_curve.specs.Conditions.{Counted, Edged, Priced, BidPriced, DefaultPriced}
use Rattle.rules_curve.specs.Curves.{bid_refusal, default_refusal}
use Rattle.rules_curve.proofs.Exactly.{bid_exactly, default_exactly}
use Rattle.rules_curve.specs.declared.RawCurve.{RawCurve}
use Rattle.rules_cost.specs.Conditions.{Pointed, Quantified, Heated, Charged, Part, whole, lower, upper, IsRate, Rated}
use Rattle.rules_cost.specs.Costs.{cost_refusal}
use Rattle.rules_cost.proofs.Exactly.{cost_exactly}
use Rattle.rules_cost.specs.declared.Costs.{Costs}
use Rattle.statements.proofs.Told.{◌says◌, Item, demands, told, taken, only}
use Rattle.statements.proofs.Plain.{Whole}

-- x is lo to hi
abbrev pub Within : ℤ → ℤ → ℤ → Type 0
Within lo hi x = (lo ≤ℤ x) × (x ≤ℤ hi)

-- ---- a curve of eleven cells: its steps are numbered from 0, and its edges too, of which the first is its start
module _ (c : RawCurve) where
  abbrev pub edge : ℕ → ℤ
  edge zero = c.start
  edge (suc i) = (get_or c.steps i (record { end = pos 0; price = pos 0 })).end

  abbrev price : ℕ → ℤ
  price i = (get_or c.steps i (record { end = pos 0; price = pos 0 })).price

  -- 1 "step count outside 1 to 10"; "refusal 1 allows a default curve 11"
  abbrev pub Steps : ℕ → Type 0
  Steps most = (1 ≤ c.count) × (c.count ≤ most)

  -- 2 "an edge outside 0 to 1,000,000, or edges not rising"
  abbrev pub Edges : Type 0
  Edges = ((i : ℕ) → i ≤ c.count → Within (pos 0) (pos 1000000) (edge i)) × ((i : ℕ) → i < c.count → edge i <ℤ edge (suc i))

  -- 3 "price outside its range, or falling"
  abbrev Prices : ℤ → ℤ → Type 0
  Prices low top = ((i : ℕ) → i < c.count → Within low top (price i)) × ((i : ℕ) → suc i < c.count → price i ≤ℤ price (suc i))

  -- "A bid price is at least -1,500,000 and at most 5,000,000 in months 1 to 12 since the rule took effect, 7,500,000 in months 13 to 24, 10,000,000 from month 25"
  abbrev pub BidPrices : ℕ → Type 0
  BidPrices month =
      (month ≤ 12 → Prices (neg_ℤ (pos 1500000)) (pos 5000000))
      × (13 ≤ month → month ≤ 24 → Prices (neg_ℤ (pos 1500000)) (pos 7500000))
      × (25 ≤ month → Prices (neg_ℤ (pos 1500000)) (pos 10000000))

  -- "A default curve, from a pack or from costs, allows prices of -1,000,000,000 to 1,000,000,000"
  abbrev pub DefaultPrices : Type 0
  DefaultPrices = Prices (neg_ℤ (pos 1000000000)) (pos 1000000000)

-- "the lowest applicable number wins"; 0 stands for none
pub record CurveSays (most : ℕ) (c : RawCurve) (prices : Type 0) (r : ℕ) : Type 0 where
  pub one : (r ≡ 1) ↔ (Steps c most → ⊥)
  pub two : (r ≡ 2) ↔ (Steps c most × (Edges c → ⊥))
  pub three : (r ≡ 3) ↔ (Steps c most × (Edges c × (prices → ⊥)))
  pub none : (r ≡ 0) ↔ (Steps c most × (Edges c × prices))
  pub no_other : (r ≡ 0) ⊎ ((1 ≤ r) × (r ≤ 3))

-- ---- costs: their points (m, h) are numbered from 0
module _ (c : Costs) where
  abbrev pub m : ℕ → ℤ
  m i = (get_or c.points i (record { mw = pos 0; heat = pos 0 })).mw

  abbrev pub h : ℕ → ℤ
  h i = (get_or c.points i (record { mw = pos 0; heat = pos 0 })).heat

  -- 4 "point count outside 2 to 11"
  abbrev Points : Type 0
  Points = (2 ≤ c.count) × (c.count ≤ 11)

  -- 5 "m outside 0 to 1,000,000 or not rising"
  abbrev pub Quantities : Type 0
  Quantities = ((i : ℕ) → i < c.count → Within (pos 0) (pos 1000000) (m i)) × ((i : ℕ) → suc i < c.count → m i <ℤ m (suc i))

  -- 6 "h outside its range", 1 to 100,000
  abbrev Heats : Type 0
  Heats = (i : ℕ) → i < c.count → Within (pos 1) (pos 100000) (h i)

  -- 7 "a price, rate or fee outside its range"
  abbrev Charges : Type 0
  Charges =
      Within (pos 0) (pos 1000000) c.gas × Within (pos 0) (pos 200000) c.rate × Within (pos 0) (pos 10000000) c.allowance
      × Within (pos 0) (pos 1000000) c.om × Within (pos 0) (pos 1000000) c.msc × Within (pos 0) (pos 1000000) c.soc × Within (pos 0) (pos 1000000) c.fee

  -- "For neighbours (m, h) and (m', h'): w = m' - m and n = h' × m' - h × m"; "PMax is the last m"
  abbrev pub w : ℕ → ℤ
  w i = m (suc i) -ℤ m i

  abbrev pub n : ℕ → ℤ
  n i = h (suc i) *ℤ m (suc i) -ℤ h i *ℤ m i

  abbrev pub PMax : ℤ
  PMax = m (c.count - 1)

  -- "k, which is 4 × PMax / 5 rounded down, where k lies strictly inside" the segment i
  abbrev pub k : ℤ
  k = pos (4 * Whole PMax / 5)

  abbrev pub Across : ℕ → Type 0
  Across i = (m i <ℤ k) × (k <ℤ m (suc i))

  -- what reaches from one quantity to another is the segment i, or the lower or the upper part of it where it is split
  abbrev pub PartOf : ℕ → ℤ → ℤ → Type 0
  PartOf i from to =
      ((Across i → ⊥) × (from ≡ m i) × (to ≡ m (suc i)))
      ⊎ (Across i × (((from ≡ m i) × (to ≡ k)) ⊎ ((from ≡ k) × (to ≡ m (suc i)))))

  -- "R = n / w, up. If 5 × m' <= 4 × PMax, R is at most the larger of h and h'", with "n and w of the whole segment" and the end of the part: q is n / w, up
  abbrev pub RateBy : ℕ → ℤ → ℤ → ℤ → Type 0
  RateBy i to q R =
      (n i ≤ℤ (q *ℤ w i)) × (((q -ℤ pos 1) *ℤ w i) <ℤ n i)
      × ((pos 5 *ℤ to) ≤ℤ (pos 4 *ℤ PMax) → R ≡ min_z q (max_z (h i) (h (suc i))))
      × ((pos 4 *ℤ PMax) <ℤ (pos 5 *ℤ to) → R ≡ q)

  -- 8 "an R, after the 80% limit, outside -100,000 to 100,000"
  abbrev Rates : Type 0
  Rates = (i : ℕ) → suc i < c.count → (from to : ℤ) → PartOf i from to → (q R : ℤ) → RateBy i to q R → Within (neg_ℤ (pos 100000)) (pos 100000) R

pub record CostsSay (c : Costs) (r : ℕ) : Type 0 where
  pub four : (r ≡ 4) ↔ (Points c → ⊥)
  pub five : (r ≡ 5) ↔ (Points c × (Quantities c → ⊥))
  pub six : (r ≡ 6) ↔ (Points c × (Quantities c × (Heats c → ⊥)))
  pub seven : (r ≡ 7) ↔ (Points c × (Quantities c × (Heats c × (Charges c → ⊥))))
  pub eight : (r ≡ 8) ↔ (Points c × (Quantities c × (Heats c × (Charges c × (Rates c → ⊥)))))
  pub none : (r ≡ 0) ↔ (Points c × (Quantities c × (Heats c × (Charges c × Rates c))))
  pub no_other : (r ≡ 0) ⊎ ((4 ≤ r) × (r ≤ 8))

-- ---- from the theorems
module _ (c : RawCurve) where
  pub steps_are : (most : ℕ) → Counted most c ↔ Steps c most
  steps_are most = ((λ h. (h.at_least, h.at_most)), λ h. record { at_least = h.0; at_most = h.1 })

  pub edge_is : (i : ℕ) → edge c i ≡ rules.edge c i
  edge_is zero = refl
  edge_is (suc i) = refl

  pub edges_are : Edged c ↔ Edges c
  edges_are = (
    (λ h. ((λ i l. rw (edge_is i) (h.within i l)), λ i l. rw (edge_is i) (h.rising i l))),
    λ h. record { within = λ i l. rw (edge_is i) at (h.0 i l); rising = λ i l. rw (edge_is i) at (h.1 i l) },
  )

  pub prices_are : (low top : ℤ) → Priced low top c ↔ Prices c low top
  prices_are low top = ((λ h. (h.within, h.never_falling_lem)), λ h. record { within = h.0; never_falling_lem = h.1 })

  bid_prices_are : (month : ℕ) → BidPriced month c ↔ BidPrices c month
  bid_prices_are month = (
    (λ h. ((λ a. (prices_are _ _).0 (h.months_to_12 a)), (λ a b. (prices_are _ _).0 (h.months_13_to_24 a b)), λ a. (prices_are _ _).0 (h.months_from_25 a))),
    λ h. record { months_to_12 = λ a. (prices_are _ _).1 (h.0 a); months_13_to_24 = λ a b. (prices_are _ _).1 (h.1 a b); months_from_25 = λ a. (prices_are _ _).1 (h.2 a) },
  )

  module _ (most : ℕ) (P prices : Type 0) (same : P ↔ prices) (r : ℕ) where
    abbrev curve_items : List Item
    curve_items = (1 says steps_are most) ∷ (2 says edges_are) ∷ (3 says same) ∷ []

    curve_says : ((n : ℕ) → (r ≡ n) ↔ First n (demands curve_items)) → CurveSays most c prices r
    curve_says e = record {
      one = told curve_items r e 1 refl;
      two = told curve_items r e 2 refl;
      three = told curve_items r e 3 refl;
      none = taken curve_items r e;
      no_other = only curve_items r e 1 3 refl;
    }

-- a bid, by month, and the curve of a pack, each held in eleven cells
module _ (c : RawCurve) (full : length c.steps ≡ 11) where
  pub bid : (month : ℕ) → CurveSays 10 c (BidPrices c month) (bid_refusal month c)
  bid month = curve_says c 10 (BidPriced month c) (BidPrices c month) (bid_prices_are c month) (bid_refusal month c) (bid_exactly c full month)

  pub pack : CurveSays 11 c (DefaultPrices c) (default_refusal c)
  pack = curve_says c 11 (DefaultPriced c) (DefaultPrices c) (prices_are c _ _) (default_refusal c) (default_exactly c full)

module _ (c : Costs) where
  points_are : Pointed c ↔ Points c
  points_are = ((λ a. (a.at_least, a.at_most)), λ a. record { at_least = a.0; at_most = a.1 })

  pub quantities_are : Quantified c ↔ Quantities c
  quantities_are = ((λ a. (a.within, a.rising)), λ a. record { within = a.0; rising = a.1 })

  heats_are : Heated c ↔ Heats c
  heats_are = ((λ a. a), λ a. a)

  charges_are : Charged c ↔ Charges c
  charges_are = (
    (λ a. (a.gas, a.rate, a.allowance, a.om, a.msc, a.soc, a.fee)),
    λ a. record { gas = a.0; rate = a.1; allowance = a.2; om = a.3; msc = a.4; soc = a.5; fee = a.6 },
  )

  pub part_is : (i : ℕ) (from to : ℤ) → Part c i from to ↔ PartOf c i from to
  part_is i from to = (there, back)
    where
      there : Part c i from to → PartOf c i from to
      there (whole x f t) = inl (x, f, t)
      there (lower x f t) = inr (x, inl (f, t))
      there (upper x f t) = inr (x, inr (f, t))

      back : PartOf c i from to → Part c i from to
      back (inl p) = whole p.0 p.1 p.2
      back (inr p) = ⊎_elim (λ q. lower p.0 q.0 q.1) (λ q. upper p.0 q.0 q.1) p.1

  pub rate_is : (i : ℕ) (to R : ℤ) → IsRate c i to R ↔ ((q : ℤ) × RateBy c i to q R)
  rate_is i to R = (
    (λ a. (a.q, (a.enough, a.no_more, a.limited, a.unlimited))),
    λ a. record { q = a.0; enough = a.1.0; no_more = a.1.1; limited = a.1.2; unlimited = a.1.3 },
  )

  rates_are : Rated c ↔ Rates c
  rates_are = (
    (λ a i l from to p q R b. a i l from to R ((part_is i from to).1 p) ((rate_is i to R).1 (q, b))),
    λ a i l from to R p b. let d = (rate_is i to R).0 b in a i l from to ((part_is i from to).0 p) d.0 R d.1,
  )

  abbrev cost_items : List Item
  cost_items = (4 says points_are) ∷ (5 says quantities_are) ∷ (6 says heats_are) ∷ (7 says charges_are) ∷ (8 says rates_are) ∷ []

  pub costs : CostsSay c (cost_refusal c)
  costs =
      let e = cost_exactly c in
      let r = cost_refusal c in
      record {
        four = told cost_items r e 4 refl;
        five = told cost_items r e 5 refl;
        six = told cost_items r e 6 refl;
        seven = told cost_items r e 7 refl;
        eight = told cost_items r e 8 refl;
        none = taken cost_items r e;
        no_other = only cost_items r e 4 8 refl;
      }
