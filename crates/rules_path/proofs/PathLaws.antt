-- What the verdict means: `left` is below `demand` exactly where some at most three net sellers can bring supply below demand.
use Prim.Native.Nat.{ℕ, zero, suc, ◌+◌, ◌-◌, ◌*◌, ◌≤◌, ◌<◌, zero-le}
use mathlib.Core.Bool.{Bool, true, false}
use mathlib.Core.List.{List, [], ◌∷◌}
use mathlib.Core.Path.{◌≡◌, refl, sym, ◌∙◌}
use mathlib.Core.Logic.{◌↔◌}
use native.Mathlib.Nat.{le_refl, le_trans, le_of_eq, mul-le-mul_left, add-le-add}
use native.Mathlib.Omega.{arith}
use lib.ListN.{length, set}
use lib.Dec.{ltb, eqb}
use borrow.Author.Tests.{ltb-true, lt-ltb, eqb-true, eq-eqb, ne_eqb}
use Rattle.rules_number.specs.Over.{sum_to}
use Rattle.rules_number.proofs.OverLaws.{listed_at, listed_length, both}
use Rattle.rules_path.specs.Paths.{Path, binds, effect, at, demand, supply, share, withholdable, offer, offers, largest, top, sellers, left, Withheld, Absent, NetSeller, Possible, total, is_non_competitive, NonCompetitive}
use Rattle.rules_number.proofs.TestLaws.{above_exactly}
use Rattle.rules_number.proofs.SumLaws.{sum_add, sum_mono}
use Rattle.rules_path.proofs.LargestLaws.{struck, struck_le}
use Rattle.rules_path.proofs.TopLaws.{Among, total_le, Pick, some, none, pick, top_total, top_short, top_absent}

-- ---- demand is at most supply where no dispatch is above what is available
sum_le_sum : (f g : ℕ → ℕ) (n : ℕ) → ((i : ℕ) → i < n → f i ≤ g i) → sum_to f n ≤ sum_to g n
unfolding sum_to
sum_le_sum f g zero h = le_refl 0
sum_le_sum f g (suc n) h = omega (arith, sum_le_sum f g n (λ i l. h i (omega arith)), h n (omega arith))

pub demand_within : (d : Path) → ((r : ℕ) → r < d.resources → d.dispatch r ≤ d.available r) → demand d ≤ supply d
unfolding demand supply
demand_within d h = sum_le_sum _ _ d.resources (λ r l. mul-le-mul_left (effect d r) (h r l))

-- ---- what the offers say
beyond : (l : List ℕ) (i : ℕ) → 0 < at l i → i < length l
beyond [] i h = absurd (omega arith)
beyond (x ∷ l) zero h = omega arith
beyond (x ∷ l) (suc i) h = omega (arith, beyond l i h)

-- what resource r adds to what the sellers on the list can withhold
shares : Path → List Withheld → ℕ → ℕ
shares d [] r = 0
shares d (x ∷ l) r = share d x.who r + shares d l r

module _ (d : Path) where
  offers_at_lem : (p : ℕ) → p < d.portfolios → at (offers d) p ≡ offer d p
  unfolding offers
  offers_at_lem p h = listed_at (offer d) 0 d.portfolios p h

  offers_pos : (p : ℕ) → 0 < at (offers d) p → p < d.portfolios
  unfolding offers
  offers_pos p h = le_trans (beyond (offers d) p h) (le_of_eq (listed_length (offer d) d.portfolios))

  pub offer_of_seller : (p : ℕ) → NetSeller d p → at (offers d) p ≡ withholdable d p
  unfolding offer
  offer_of_seller p s = offers_at_lem p s.0 ∙ rw (eq-eqb _ _ s.1)

  pub seller_of_offer : (p : ℕ) → 0 < at (offers d) p → NetSeller d p × (at (offers d) p ≤ withholdable d p)
  unfolding offer
  seller_of_offer p h = go (eqb (d.seller p) 1) refl
    where
      e : at (offers d) p ≡ offer d p
      e = offers_at_lem p (offers_pos p h)

      go : (t : Bool) → eqb (d.seller p) 1 ≡ t → NetSeller d p × (at (offers d) p ≤ withholdable d p)
      go true t = ((offers_pos p h, eqb-true _ _ t), le_of_eq (e ∙ rw t))
      go false t = let z : at (offers d) p ≡ 0 = e ∙ rw t in absurd (omega arith)

  -- ---- the two ways between the statement and the amounts
  pub possible_among : (l : List Withheld) → Possible d l → Among (offers d) d.portfolios l
  unfolding Possible Among
  possible_among [] h = tt
  possible_among (x ∷ l) h = (h.0.0, le_trans h.1 (le_of_eq (sym (offer_of_seller x.who h.0))), h.2, possible_among l h.3)

  pub top_possible : (k : ℕ) (w : List ℕ) (n : ℕ) → ((i : ℕ) → at w i ≤ at (offers d) i) → Possible d (top k w n)
  unfolding top Possible
  top_possible zero w n h = tt
  top_possible (suc k) w n h =
      go (top_possible k (set w (largest w n) 0) n (λ i. le_trans (struck_le w (largest w n) i) (h i))) (pick k w n)
    where
      go : Possible d (top k (set w (largest w n) 0) n) → Pick k w n → Possible d (top (suc k) w n)
      go ih (none a b) = rw b tt
      go ih (some a b) =
          let o : NetSeller d (largest w n) × (at (offers d) (largest w n) ≤ withholdable d (largest w n)) = seller_of_offer (largest w n) (le_trans a (h _)) in
          rw b (o.0, le_trans (h _) o.1, top_absent k (set w (largest w n) 0) n (largest w n) (struck w (largest w n)), ih)

  -- ---- no more can be withheld than is supplied
  total_shares : (l : List Withheld) → Possible d l → total l ≤ sum_to (shares d l) d.resources
  unfolding total Possible shares withholdable
  total_shares [] h = zero-le
  total_shares (x ∷ l) h =
      le_trans (add-le-add h.1 (total_shares l h.3)) (le_of_eq (sym (sum_add (share d x.who) (shares d l) d.resources)))

  shares_absent : (l : List Withheld) (r : ℕ) → Absent (d.portfolio r) l → shares d l r ≡ 0
  unfolding shares share Absent
  shares_absent [] r h = refl
  shares_absent (x ∷ l) r h = rw (ne_eqb _ _ (λ e. h.0 (sym e))) (omega (arith, shares_absent l r h.1))

  shares_le : (l : List Withheld) (r : ℕ) → Possible d l → shares d l r ≤ effect d r * d.available r
  unfolding Possible shares share
  shares_le [] r h = zero-le
  shares_le (x ∷ l) r h = go (eqb (d.portfolio r) x.who) refl (shares_le l r h.3)
    where
      go : (t : Bool) → eqb (d.portfolio r) x.who ≡ t → shares d l r ≤ effect d r * d.available r
          → share d x.who r + shares d l r ≤ effect d r * d.available r
      go false t ih = rw t (omega (arith, ih))
      go true t ih =
          let z : shares d l r ≡ 0 = shares_absent l r (rw (eqb-true (d.portfolio r) x.who t) h.2) in
          let k : effect d r * (d.available r - d.floor r) ≤ effect d r * d.available r
          = mul-le-mul_left (effect d r) (omega arith) in
          rw t (omega arith)

  -- so no subtraction of the verdict is cut off at 0
  pub withheld_le_supply : (l : List Withheld) → Possible d l → total l ≤ supply d
  unfolding supply
  withheld_le_supply l h = le_trans (total_shares l h) (sum_mono _ _ (λ i. shares_le l i h) d.resources)

  -- ---- the theorem
  -- The sellers named are such a choice.
  pub sellers_possible : Possible d (sellers d)
  unfolding sellers
  sellers_possible = top_possible 3 (offers d) d.portfolios (λ i. le_refl _)

  pub sellers_few : length (sellers d) ≤ 3
  unfolding sellers
  sellers_few = top_short 3 (offers d) d.portfolios

  -- No choice withholds more than the sellers named.
  pub sellers_most : (l : List Withheld) → length l ≤ 3 → Possible d l → total l ≤ total (sellers d)
  unfolding sellers
  sellers_most l few h =
      le_trans (total_le 3 (offers d) d.portfolios l few (possible_among l h)) (le_of_eq (sym (top_total 3 (offers d) d.portfolios)))

  -- The test says what the paper says, for any number of portfolios and resources.
  pub non_competitive : (is_non_competitive d ≡ true) ↔ NonCompetitive d
  unfolding is_non_competitive left
  non_competitive = (
    (λ e.
        let b = both (binds d) (ltb (left d) (demand d)) e in
        let l : left d < demand d = ltb-true _ _ b.1 in
        record {
          binding = (above_exactly d.shadow).0 b.0;
          choice = sellers d;
          few = sellers_few;
          possible = sellers_possible;
          below = omega arith;
        }),
    (λ h.
        let l : left d < demand d
        = omega (arith, withheld_le_supply (sellers d) sellers_possible, sellers_most h.choice h.few h.possible, h.below) in
        rw ((above_exactly d.shadow).1 h.binding, lt-ltb (left d) (demand d) l)),
  )
