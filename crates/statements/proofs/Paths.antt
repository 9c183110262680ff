-- Paper 01, Path verdict (39.7.2.2), for any number of resources and portfolios: what the verdict of a constraint says, in full. Assumes nothing.
use mathlib.Core.Bool.{cond}
use mathlib.Core.List.Memᴰ
use mathlib.Core.List.{List, [], ◌∷◌, Memᴰ}
use mathlib.Core.Logic.{◌⊎◌, inl, inr, ⊎_elim, ◌↔◌}
use mathlib.Core.Path.{◌≡◌, refl, sym, ap, ◌∙◌}
use Prim.Native.Nat.{ℕ, zero, suc, ◌+◌, ◌-◌, ◌*◌, ◌/◌, ◌%◌, ◌^◌, ◌≤◌, ◌<◌}
use native.Mathlib.Omega.{arith}
use lib.Count.{ones}
use lib.Dec.{eqb}
use lib.IntN.{ℤ, pos, negsuc, neg_ℤ}
use lib.ListN.{length, get_or}
use lib.Signed.{◌≤ℤ◌, ◌<ℤ◌}
use Rattle.rules_number.specs.Over.{sum_to}
use Rattle.rules_number.proofs.Kit.{lt_of}
use Rattle.rules_number.proofs.OverLaws.{tested}
use Rattle.rules_number.proofs.TestLaws.{above_exactly, not_above_exactly}
use Rattle.rules_interval.specs.declared.Interval.{Interval}
use Rattle.rules_path.specs.Paths.{Path, binds, effectiveness, demand, supply, share, withholdable, Withheld, total, sellers, named, left, Absent, Possible, NonCompetitive}
use Rattle.rules_path.specs.Verdicts.{verdict_of}
use Rattle.rules_path.specs.Judgements.{path_in}
use Rattle.rules_path.proofs.JudgedOn.{judged_shadow, judged_resources, judged_factor, judged_dispatch, judged_available, judged_floor, judged_portfolio, judged_seller}
use Rattle.rules_path.specs.declared.Market.{Market}
use Rattle.rules_path.specs.declared.Verdict.{Verdict}
use Rattle.rules_path.specs.declared.Finding.TheVariants as finding
use Rattle.rules_path.proofs.BitLaws.{bit_zero}
use Rattle.rules_path.proofs.TopLaws.{On}
use Rattle.rules_path.proofs.PathVerdict as rules
use Rattle.statements.proofs.Told.{and_so}
use Rattle.statements.proofs.Plain.{Sum, Whole}

-- "A resource's effectiveness e is -s where its shift factor s is below 0, else 0."
pub effective : (s : ℤ) → (s <ℤ pos 0 → pos (effectiveness s) ≡ neg_ℤ s) × (pos 0 ≤ℤ s → effectiveness s ≡ 0)
effective (pos s) = ((λ h. absurd (omega (arith, lt_of h))), λ h. refl)
effective (negsuc s) = ((λ h. refl), λ h. absurd h.le)

module _ (d : Path) where
  -- "Demand is the sum of e × dispatch over all resources. Supply is the sum of e × available."
  abbrev pub Demand : ℕ
  Demand = Sum (λ r. effectiveness (d.factor r) * d.dispatch r) d.resources

  abbrev pub Supply : ℕ
  Supply = Sum (λ r. effectiveness (d.factor r) * d.available r) d.resources

  -- "a portfolio can withhold the sum of e × (available - floor) over its resources"
  abbrev pub Withholdable : ℕ → ℕ
  Withholdable p = Sum (λ r. cond (eqb (d.portfolio r) p) (effectiveness (d.factor r) * (d.available r - d.floor r)) 0) d.resources

  -- "Seller 1 marks a net seller"
  abbrev pub IsSeller : ℕ → Type 0
  IsSeller p = (p < d.portfolios) × (d.seller p ≡ 1)

-- "some set of at most three net sellers, each withholding a whole amount up to that"
pub record Choice (d : Path) : Type 0 where
  pub count : ℕ
  pub at_most_three : count ≤ 3
  pub who : ℕ → ℕ
  pub amount : ℕ → ℕ
  pub net_seller : (i : ℕ) → i < count → IsSeller d (who i)
  pub up_to : (i : ℕ) → i < count → amount i ≤ Withholdable d (who i)
  pub distinct : (i j : ℕ) → i < j → j < count → who i ≡ who j → ⊥

abbrev pub Withholds : {d : Path} → Choice d → ℕ
Withholds c = Sum c.amount c.count

-- bit p of a number
abbrev pub Bit : ℕ → ℕ → ℕ
Bit p n = n / 2 ^ p % 2

-- what is found of a constraint
pub record FindingSays (d : Path) : Type 0 where
  -- "Non-competitive: it binds and some set of at most three net sellers, each withholding a whole amount up to that, leaves supply less withheld below demand."
  pub non_competitive : ((verdict_of d).finding ≡ finding.NonCompetitive) ↔ ((pos 0 <ℤ d.shadow) × ((c : Choice d) × (Supply d < Demand d + Withholds c)))
  pub competitive : ((verdict_of d).finding ≡ finding.Competitive) ↔ ((pos 0 <ℤ d.shadow) × (((c : Choice d) × (Supply d < Demand d + Withholds c)) → ⊥))
  -- "A constraint binds exactly when its shadow price is above 0."
  pub not_binding_lem : ((verdict_of d).finding ≡ finding.NotBinding) ↔ (d.shadow ≤ℤ pos 0)

-- what a verdict on a constraint carries
pub record VerdictSays (d : Path) (v : Verdict) : Type 0 where
  -- "Verdict .. 2 not binding (then 0 0 and no sellers)"
  pub none : d.shadow ≤ℤ pos 0 → (v.demand ≡ 0) × (v.left ≡ 0) × (v.named ≡ 0)
  pub demand : pos 0 <ℤ d.shadow → v.demand ≡ Demand d
  -- no set withholds more than supply
  pub enough : (c : Choice d) → Withholds c ≤ Supply d
  -- "left", supply less the three largest such amounts
  pub left : pos 0 <ℤ d.shadow → (c : Choice d) × (v.left ≡ Supply d - Withholds c)
  pub none_less : pos 0 <ℤ d.shadow → (c : Choice d) → v.left ≤ Supply d - Withholds c
  -- "The sellers named for a constraint are one number, bit p standing for portfolio p, and at most three bits are ones."
  pub at_most_three : ones v.named ≤ 3
  pub listed : pos 0 <ℤ d.shadow → (ones v.named ≡ length (sellers d)) × ((p : ℕ) → (Bit p v.named ≡ 1) ↔ ((x : Withheld) × Memᴰ x (sellers d) × (x.who ≡ p)))
  -- "A seller that can withhold 0 isn't named."
  pub named : (p : ℕ) → Bit p v.named ≡ 1 → IsSeller d p × (0 < Withholdable d p)
  -- "the three largest such amounts (ties: lower portfolio number)"
  pub largest : pos 0 <ℤ d.shadow → (p q : ℕ) → Bit p v.named ≡ 1 → IsSeller d q → Bit q v.named ≡ 0
      → (Withholdable d q < Withholdable d p) ⊎ ((Withholdable d q ≡ Withholdable d p) × (p < q))
  pub three : pos 0 <ℤ d.shadow → (q : ℕ) → IsSeller d q → 0 < Withholdable d q → Bit q v.named ≡ 0 → ones v.named ≡ 3
  -- withheld is all that a seller named can withhold, and 0 of any other
  pub withheld : (p : ℕ) → p < 16 → Bit p v.named ≡ 1 → get_or v.withheld p 0 ≡ Withholdable d p
  pub withheld_not : (p : ℕ) → p < 16 → Bit p v.named ≡ 0 → get_or v.withheld p 0 ≡ 0

-- constraint c of an interval is judged on the interval's numbers and on who owns what in the market: resources and portfolios are numbered from 0
pub record JudgedOn (m : Market) (v : Interval) (c : ℕ) : Type 0 where
  pub shadow : (path_in m v c).shadow ≡ get_or v.shadow c (pos 0)
  pub resources : (path_in m v c).resources ≡ m.resources
  pub factor : (r : ℕ) → (path_in m v c).factor r ≡ get_or v.factors (r * 32 + c) (pos 0)
  pub dispatch : (r : ℕ) → (path_in m v c).dispatch r ≡ Whole (get_or v.dispatch r (pos 0))
  pub available : (r : ℕ) → (path_in m v c).available r ≡ Whole (get_or v.available r (pos 0))
  pub floor : (r : ℕ) → (path_in m v c).floor r ≡ Whole (get_or v.floor r (pos 0))
  pub portfolio : (r : ℕ) → (path_in m v c).portfolio r ≡ get_or m.portfolio r 0
  pub seller : (p : ℕ) → (path_in m v c).seller p ≡ get_or m.seller p 0

-- ---- from the theorems
pub judged_on : (m : Market) (v : Interval) (c : ℕ) → JudgedOn m v c
judged_on m v c = record {
  shadow = judged_shadow m v c;
  resources = judged_resources m v c;
  factor = judged_factor m v c;
  dispatch = judged_dispatch m v c;
  available = judged_available m v c;
  floor = judged_floor m v c;
  portfolio = judged_portfolio m v c;
  seller = judged_seller m v c;
}

abbrev pub nobody : Withheld
nobody = record { who = 0; amount = 0 }

abbrev pub who_at : List Withheld → ℕ → ℕ
who_at l i = (get_or l i nobody).who

abbrev pub amount_at : List Withheld → ℕ → ℕ
amount_at l i = (get_or l i nobody).amount

sum_front : (f : ℕ → ℕ) (n : ℕ) → Sum f (suc n) ≡ f 0 + Sum (λ i. f (suc i)) n
sum_front f zero = omega arith
sum_front f (suc n) = omega (arith, sum_front f n)

total_is : (l : List Withheld) → total l ≡ Sum (amount_at l) (length l)
unfolding total
total_is [] = refl
total_is (x ∷ l) = ap (λ (n : ℕ). x.amount + n) (total_is l) ∙ sym (sum_front (amount_at (x ∷ l)) (length l))

absent_at : (p : ℕ) (l : List Withheld) → Absent p l → (i : ℕ) → i < length l → who_at l i ≡ p → ⊥
unfolding Absent
absent_at p [] a i h e = omega arith
absent_at p (x ∷ l) a zero h e = a.0 e
absent_at p (x ∷ l) a (suc i) h e = absent_at p l a.1 i (omega arith) e

module _ (d : Path) where
  seller_at_lem : (l : List Withheld) → Possible d l → (i : ℕ) → i < length l → IsSeller d (who_at l i) × (amount_at l i ≤ Withholdable d (who_at l i))
  unfolding Possible withholdable share sum_to
  seller_at_lem [] h i k = absurd (omega arith)
  seller_at_lem (x ∷ l) h zero k = (h.0, h.1)
  seller_at_lem (x ∷ l) h (suc i) k = seller_at_lem l h.3 i (omega arith)

  distinct_at : (l : List Withheld) → Possible d l → (i j : ℕ) → i < j → j < length l → who_at l i ≡ who_at l j → ⊥
  unfolding Possible
  distinct_at [] h i j k m e = omega arith
  distinct_at (x ∷ l) h i zero k m e = omega arith
  distinct_at (x ∷ l) h zero (suc j) k m e = absent_at x.who l h.2 j (omega arith) (sym e)
  distinct_at (x ∷ l) h (suc i) (suc j) k m e = distinct_at l h.3 i j (omega arith) (omega arith) e

  chosen : (l : List Withheld) → length l ≤ 3 → Possible d l → Choice d
  chosen l few h = record {
    count = length l;
    at_most_three = few;
    who = who_at l;
    amount = amount_at l;
    net_seller = λ i k. (seller_at_lem l h i k).0;
    up_to = λ i k. (seller_at_lem l h i k).1;
    distinct = distinct_at l h;
  }

abbrev pub list_from : ℕ → (ℕ → ℕ) → (ℕ → ℕ) → List Withheld
list_from zero w a = []
list_from (suc k) w a = record { who = w 0; amount = a 0 } ∷ list_from k (λ i. w (suc i)) (λ i. a (suc i))

pub from_length : (k : ℕ) (w a : ℕ → ℕ) → length (list_from k w a) ≡ k
from_length zero w a = refl
from_length (suc k) w a = ap suc (from_length k (λ i. w (suc i)) (λ i. a (suc i)))

from_total : (k : ℕ) (w a : ℕ → ℕ) → total (list_from k w a) ≡ Sum a k
unfolding total
from_total zero w a = refl
from_total (suc k) w a = ap (λ (n : ℕ). a 0 + n) (from_total k (λ i. w (suc i)) (λ i. a (suc i))) ∙ sym (sum_front a k)

from_absent : (p k : ℕ) (w a : ℕ → ℕ) → ((i : ℕ) → i < k → w i ≡ p → ⊥) → Absent p (list_from k w a)
unfolding Absent
from_absent p zero w a h = tt
from_absent p (suc k) w a h = (h 0 (omega arith), from_absent p k (λ i. w (suc i)) (λ i. a (suc i)) (λ i l. h (suc i) (omega arith)))

module _ (d : Path) where
  from_possible : (k : ℕ) (w a : ℕ → ℕ) → ((i : ℕ) → i < k → IsSeller d (w i)) → ((i : ℕ) → i < k → a i ≤ Withholdable d (w i)) → ((i j : ℕ) → i < j → j < k → w i ≡ w j → ⊥)
      → Possible d (list_from k w a)
  unfolding Possible withholdable share sum_to
  from_possible zero w a s u h = tt
  from_possible (suc k) w a s u h = (
    s 0 (omega arith),
    u 0 (omega arith),
    from_absent (w 0) k (λ i. w (suc i)) (λ i. a (suc i)) (λ i l e. h 0 (suc i) (omega arith) (omega arith) (sym e)),
    from_possible k (λ i. w (suc i)) (λ i. a (suc i)) (λ i l. s (suc i) (omega arith)) (λ i l. u (suc i) (omega arith)) (λ i j l m e. h (suc i) (suc j) (omega arith) (omega arith) e),
  )

  list_of : Choice d → List Withheld
  list_of c = list_from c.count c.who c.amount

  list_few : (c : Choice d) → length (list_of c) ≤ 3
  unfolding list_of
  list_few c = omega (arith, from_length c.count c.who c.amount, c.at_most_three)

  list_possible : (c : Choice d) → Possible d (list_of c)
  unfolding list_of
  list_possible c = from_possible c.count c.who c.amount c.net_seller c.up_to c.distinct

  list_total : (c : Choice d) → total (list_of c) ≡ Withholds c
  unfolding list_of
  list_total c = from_total c.count c.who c.amount

  -- some choice leaves too little
  abbrev Short : Type 0
  Short = (c : Choice d) × (Supply d < Demand d + Withholds c)

  non_competitive_is : NonCompetitive d ↔ ((pos 0 <ℤ d.shadow) × Short)
  unfolding supply demand chosen sum_to
  non_competitive_is = (
    (λ h. (h.binding, (chosen d h.choice h.few h.possible, rw (← total_is h.choice) h.below))),
    λ h. record { binding = h.0; choice = list_of h.1.0; few = list_few h.1.0; possible = list_possible h.1.0; below = rw (list_total h.1.0) h.1.1 },
  )

  pub finding_says : FindingSays d
  finding_says = record {
    non_competitive = and_so (rules.non_competitive_exactly d) non_competitive_is;
    competitive = and_so (rules.competitive_exactly d) ((λ h. (h.0, λ s. h.1 (non_competitive_is.1 (h.0, s)))), λ h. (h.0, λ n. h.1 (non_competitive_is.0 n).1));
    not_binding_lem = rules.not_binding_exactly d;
  }

  -- the verdict on a constraint that binds, and on one that doesn't
  module _ (binding : pos 0 <ℤ d.shadow) where
    demand_is : (verdict_of d).demand ≡ Demand d
    unfolding verdict_of demand sum_to
    demand_is = rw ((above_exactly d.shadow).1 binding)

    left_is : (verdict_of d).left ≡ left d
    unfolding verdict_of
    left_is = rw ((above_exactly d.shadow).1 binding)

    named_is : (verdict_of d).named ≡ named d
    unfolding verdict_of
    named_is = rw ((above_exactly d.shadow).1 binding)

  nothing : d.shadow ≤ℤ pos 0 → ((verdict_of d).demand ≡ 0) × ((verdict_of d).left ≡ 0) × ((verdict_of d).named ≡ 0)
  unfolding verdict_of
  nothing h = rw ((not_above_exactly d.shadow).1 h) (refl, refl, refl)

  -- it binds, or no seller is named
  by_binding : {X : Type 0} → (pos 0 <ℤ d.shadow → X) → ((verdict_of d).named ≡ 0 → X) → X
  by_binding f g = ⊎_elim (λ e. f ((above_exactly d.shadow).0 e)) (λ e. g (nothing ((not_above_exactly d.shadow).0 e)).2) (tested (binds d))

  on_there : (p : ℕ) (l : List Withheld) → On p l → (x : Withheld) × Memᴰ x l × (x.who ≡ p)
  unfolding On
  on_there p [] o = absurd o
  on_there p (x ∷ l) (inl e) = (x, Memᴰ.head refl, e)
  on_there p (x ∷ l) (inr o) = let t = on_there p l o in (t.0, Memᴰ.tail t.1, t.2)

  on_back : (p : ℕ) (l : List Withheld) (x : Withheld) → Memᴰ x l → x.who ≡ p → On p l
  unfolding On
  on_back p [] x m e = absurd (Memᴰ.not-nil m)
  on_back p (y ∷ l) x m e = ⊎_elim (λ s. inl (ap (λ (z : Withheld). z.who) (sym s) ∙ e)) (λ n. inr (on_back p l x n e)) (Memᴰ.cases_cons m)

  pub verdict_says : VerdictSays d (verdict_of d)
  unfolding supply withholdable share chosen ones sum_to
  verdict_says = record {
    none = nothing;
    demand = demand_is;
    enough = λ c. rw (← list_total c) (rules.withheld_within_supply d (list_of c) (list_possible c));
    left = λ b. let l = rules.least_left d in (chosen d l.choice l.few l.possible, left_is b ∙ l.exactly ∙ ap (λ (n : ℕ). Supply d - n) (total_is l.choice));
    none_less = λ b c. rw (left_is b, ← list_total c) ((rules.least_left d).none_less (list_of c) (list_few c) (list_possible c));
    at_most_three = by_binding (λ b. rw (named_is b) (rules.at_most_three_named d)) (λ e. let z : ones 0 ≡ 0 = refl in rw e (omega arith));
    listed = λ b. rw (named_is b) (rules.ones_are_sellers d, λ p. ((λ e. on_there p (sellers d) ((rules.bit_exactly d p).1 e)), λ x. (rules.bit_exactly d p).0 (on_back p (sellers d) x.0 x.1 x.2)));
    named = λ p. by_binding (λ b e. rules.named_can_withhold d p (rw (named_is b) at e)) (λ z e. let n : Bit p 0 ≡ 1 = rw z at e in absurd (omega (arith, bit_zero p)));
    largest = λ b p q e s z. rules.ties_to_lower d p q (rw (named_is b) at e) s (rw (named_is b) at z);
    three = λ b q s h z. rw (named_is b) (rules.named_until_three d q s h (rw (named_is b) at z));
    withheld = rules.withheld_of_named d;
    withheld_not = rules.withheld_of_others d;
  }
