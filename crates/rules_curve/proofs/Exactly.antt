-- Curves, refusals 1 to 3, exactly: the number is that of the first demand that is not met, and 0 exactly when all three are met. Assumes nothing.
use mathlib.Core.Bool.{Bool, true, false, cond}
use mathlib.Core.List.{List, [], ◌∷◌}
use mathlib.Core.Logic.{◌↔◌, ⊎_elim}
use mathlib.Core.Path.{◌≡◌, refl, sym}
use Prim.Native.Nat.{ℕ, zero, suc, ◌≤◌, ◌<◌}
use native.Mathlib.Omega.{arith}
use borrow.Author.Tests.{le-leb, lt-leb}
use lib.Dec.{leb}
use lib.IntN.{ℤ, pos, neg_ℤ}
use lib.ListN.{length, get_or, take, length-take}
use lib.Seq.{get_or-take}
use lib.Signed.{◌≤ℤ◌, ◌<ℤ◌}
use Rattle.rules_number.proofs.Kit.{var, le_by, le_of, lt_of, ≤ℤ_trans}
use Rattle.rules_number.proofs.OverLaws.{never, le_or_lt}
use Rattle.rules_curve.specs.Demands.{◌asks◌, First}
use Rattle.rules_curve.specs.Conditions.{no_step, step_at, price, edge, Counted, Edged, Priced, BidPriced, DefaultPriced, bid_demands, default_demands}
use Rattle.rules_curve.specs.Curves.{most_bid_steps, most_steps, chain, count_good, edges_good, edge_suits, prices_good, price_suits, curve_refusal, bid_refusal, default_refusal, highest_bid, lowest_bid, highest_default, lowest_default}
use Rattle.rules_curve.specs.declared.RawCurve.{RawCurve}
use Rattle.rules_number.proofs.ExactLaws.{le_exactly, le_z_exactly, lt_z_exactly, and_exactly, range_exactly, iff_then}
use Rattle.rules_curve.proofs.FirstLaws.{exactly, first_more}

-- ---- a chain over the first n of a list
module _ {A : Type 0} (suits : ℤ → A → Bool) (key : A → ℤ) (d : A) where
  -- the key before element i
  abbrev before : ℤ → List A → ℕ → ℤ
  before p l zero = p
  before p l (suc i) = key (get_or l i d)

  there : (p : ℤ) (l : List A) → chain suits key p l ≡ true → (i : ℕ) → i < length l → suits (before p l i) (get_or l i d) ≡ true
  unfolding chain
  there p [] e i h = absurd (omega arith)
  there p (s ∷ l) e i h = go (suits p s) refl e i h (there (key s) l)
    where
      go : (t : Bool) → suits p s ≡ t → cond t (chain suits key (key s) l) false ≡ true → (i : ℕ) → i < length (s ∷ l)
          → (chain suits key (key s) l ≡ true → (i : ℕ) → i < length l → suits (before (key s) l i) (get_or l i d) ≡ true)
          → suits (before p (s ∷ l) i) (get_or (s ∷ l) i d) ≡ true
      go false q e i h ih = never e
      go true q e zero h ih = q
      go true q e (suc zero) h ih = ih e 0 (omega arith)
      go true q e (suc (suc i)) h ih = ih e (suc i) (omega arith)

  back : (p : ℤ) (l : List A) → ((i : ℕ) → i < length l → suits (before p l i) (get_or l i d) ≡ true) → chain suits key p l ≡ true
  unfolding chain
  back p [] h = refl
  back p (s ∷ l) h = rw (h 0 (omega arith)) (back (key s) l next)
    where
      next : (i : ℕ) → i < length l → suits (before (key s) l i) (get_or l i d) ≡ true
      next zero m = h 1 (omega arith)
      next (suc i) m = h (suc (suc i)) (omega arith)

  before_taken : (p : ℤ) (n : ℕ) (l : List A) (i : ℕ) → i < n → before p (take n l) i ≡ before p l i
  before_taken p n l zero h = refl
  before_taken p n l (suc i) h = rw (get_or-take n l i d (omega arith))

  pub chain_exactly : (p : ℤ) (n : ℕ) (l : List A) → n ≤ length l
      → (chain suits key p (take n l) ≡ true) ↔ ((i : ℕ) → i < n → suits (before p l i) (get_or l i d) ≡ true)
  chain_exactly p n l few = (
    (λ e i h. rw (before_taken p n l i h, get_or-take n l i d h) at (there p (take n l) e i (omega (arith, length-take n l)))),
    λ h. back p (take n l) (λ i m. let k : i < n = omega (arith, length-take n l) in rw (before_taken p n l i k, get_or-take n l i d k) (h i k)),
  )

  -- the same where k i is the key before element i, and each test passes exactly when Q holds
  pub chain_each : (Q : ℕ → Type 0) (k : ℕ → ℤ) (n : ℕ) (l : List A) → n ≤ length l → ((i : ℕ) → k (suc i) ≡ key (get_or l i d))
      → ((i : ℕ) → (suits (k i) (get_or l i d) ≡ true) ↔ Q i) → (chain suits key (k 0) (take n l) ≡ true) ↔ ((i : ℕ) → i < n → Q i)
  chain_each Q k n l few same h =
      iff_then (chain_exactly (k 0) n l few) (λ q i m. (h i).0 (rw (is i) at (q i m))) (λ q i m. rw (is i) ((h i).1 (q i m)))
    where
      is : (i : ℕ) → before (k 0) l i ≡ k i
      is zero = refl
      is (suc i) = sym (same i)

-- ---- 1
pub count_exactly : (most : ℕ) (c : RawCurve) → (count_good most c ≡ true) ↔ Counted most c
count_exactly most c =
    iff_then (and_exactly (leb 1 c.count) (leb c.count most) (le_exactly 1 c.count) (le_exactly c.count most))
    (λ h. record { at_least = h.0; at_most = h.1 })
    (λ h. (h.at_least, h.at_most))

module _ (c : RawCurve) (few : c.count ≤ length c.steps) where
  -- ---- 2
  abbrev Rises : ℕ → Type 0
  Rises i = (edge c i <ℤ edge c (suc i)) × (edge c (suc i) ≤ℤ pos 1000000)

  edge_exactly : (i : ℕ) → (edge_suits (edge c i) (step_at c i) ≡ true) ↔ Rises i
  edge_exactly i = and_exactly _ _ (lt_z_exactly (edge c i) (edge c (suc i))) (le_z_exactly (edge c (suc i)) (pos 1000000))

  edged : ((pos 0 ≤ℤ c.start) × (c.start ≤ℤ pos 1000000)) × ((i : ℕ) → i < c.count → Rises i) → Edged c
  edged h = record { within = λ i l. (above i l, below i l); rising = λ i l. (h.1 i l).0 }
    where
      above : (i : ℕ) → i ≤ c.count → pos 0 ≤ℤ edge c i
      above zero l = h.0.0
      above (suc i) l = let b = above i (omega arith) in let r = (h.1 i l).0 in le_by (var (pos 0)) (var (edge c (suc i))) (omega (arith, le_of b, lt_of r))

      below : (i : ℕ) → i ≤ c.count → edge c i ≤ℤ pos 1000000
      below zero l = h.0.1
      below (suc i) l = (h.1 i l).1

  pub edges_exactly : (edges_good c ≡ true) ↔ Edged c
  edges_exactly =
      iff_then (and_exactly _ _ (range_exactly (pos 0) (pos 1000000) c.start) (chain_each edge_suits (λ s. s.end) no_step Rises (edge c) c.count c.steps few (λ i. refl) edge_exactly))
      edged
      (λ h. (h.within 0 (omega arith), λ i l. (h.rising i l, (h.within (suc i) l).1)))

  -- ---- 3
  module _ (low top : ℤ) where
    -- the price before step i, and low before the first
    price_before : ℕ → ℤ
    price_before zero = low
    price_before (suc i) = price c i

    abbrev Suits : ℕ → Type 0
    Suits i = (price_before i ≤ℤ price c i) × (price c i ≤ℤ top)

    price_exactly : (i : ℕ) → (price_suits top (price_before i) (step_at c i) ≡ true) ↔ Suits i
    price_exactly i = and_exactly _ _ (le_z_exactly (price_before i) (price c i)) (le_z_exactly (price c i) top)

    priced : ((i : ℕ) → i < c.count → Suits i) → Priced low top c
    unfolding price_before
    priced h = record { within = λ i l. (above i l, (h i l).1); never_falling_lem = λ i l. (h (suc i) l).0 }
      where
        above : (i : ℕ) → i < c.count → low ≤ℤ price c i
        above zero l = (h 0 l).0
        above (suc i) l = ≤ℤ_trans (above i (omega arith)) (h (suc i) l).0

    suiting : Priced low top c → (i : ℕ) → i < c.count → Suits i
    unfolding price_before
    suiting h zero l = h.within 0 l
    suiting h (suc i) l = (h.never_falling_lem i l, (h.within (suc i) l).1)

    pub prices_exactly : (prices_good low top c ≡ true) ↔ Priced low top c
    unfolding price_before
    prices_exactly = iff_then (chain_each (price_suits top) (λ s. s.price) no_step Suits price_before c.count c.steps few (λ i. refl) price_exactly) priced suiting

-- ---- the three in order, where P says what the prices' test tests
module _ (most : ℕ) (low top : ℤ) (c : RawCurve) (held : most ≤ length c.steps) (P : Type 0) (said : Priced low top c ↔ P) where
  pub curve_first : First (curve_refusal most low top c) ((1 asks Counted most c) ∷ (2 asks Edged c) ∷ (3 asks P) ∷ [])
  unfolding curve_refusal
  curve_first =
      first_more ((1 asks Counted most c) ∷ (2 asks Edged c) ∷ []) _ (prices_good low top c) 2
      (first_more ((1 asks Counted most c) ∷ []) _ (edges_good c) 1 (first_more [] 0 (count_good most c) 0 refl (λ m. count_exactly most c)) (λ m. edges_exactly c (holds m.0)))
      (λ m. iff_then (prices_exactly c (holds m.0) low top) said.0 said.1)
    where
      holds : Counted most c → c.count ≤ length c.steps
      holds h = omega (arith, h.at_most)

-- ---- a bid's prices, by month
module _ (month : ℕ) (c : RawCurve) where
  abbrev To : ℤ → Type 0
  To top = Priced (neg_ℤ (pos 1500000)) top c

  to_12 : month ≤ 12 → To (highest_bid month) ↔ BidPriced month c
  to_12 h = rw (le-leb month 12 h)
      ((λ p. record { months_to_12 = λ a. p; months_13_to_24 = λ a b. absurd (omega arith); months_from_25 = λ a. absurd (omega arith) }), λ p. p.months_to_12 h)

  to_24 : 12 < month → month ≤ 24 → To (highest_bid month) ↔ BidPriced month c
  to_24 h k = rw (lt-leb month 12 h, le-leb month 24 k)
      ((λ p. record { months_to_12 = λ a. absurd (omega arith); months_13_to_24 = λ a b. p; months_from_25 = λ a. absurd (omega arith) }), λ p. p.months_13_to_24 h k)

  from_25 : 24 < month → To (highest_bid month) ↔ BidPriced month c
  from_25 h = rw (lt-leb month 12 (omega arith), lt-leb month 24 h)
      ((λ p. record { months_to_12 = λ a. absurd (omega arith); months_13_to_24 = λ a b. absurd (omega arith); months_from_25 = λ a. p }), λ p. p.months_from_25 h)

  pub bid_prices : To (highest_bid month) ↔ BidPriced month c
  bid_prices = ⊎_elim to_12 (λ h. ⊎_elim (to_24 h) from_25 (le_or_lt month 24)) (le_or_lt month 12)

-- ---- the theorems: a curve holds an array of eleven steps
module _ (c : RawCurve) (full : length c.steps ≡ most_steps) where
  pub bid_first : (month : ℕ) → First (bid_refusal month c) (bid_demands month c)
  bid_first month = curve_first most_bid_steps lowest_bid (highest_bid month) c (omega arith) (BidPriced month c) (bid_prices month c)

  pub default_first : First (default_refusal c) (default_demands c)
  default_first = curve_first most_steps lowest_default highest_default c (omega arith) (DefaultPriced c) ((λ p. p), λ p. p)

  -- a bid, and a default curve, is refused with n exactly when n is the number of the first demand that it does not meet
  pub bid_exactly : (month n : ℕ) → (bid_refusal month c ≡ n) ↔ First n (bid_demands month c)
  bid_exactly month n = exactly (bid_demands month c) (bid_refusal month c) (bid_first month) n

  pub default_exactly : (n : ℕ) → (default_refusal c ≡ n) ↔ First n (default_demands c)
  default_exactly n = exactly (default_demands c) (default_refusal c) default_first n
