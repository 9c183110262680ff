-- Net sellers by resource: each other resource is of no portfolio, and so what a portfolio offers is what its resources can withhold. Assumes nothing.
use mathlib.Core.Bool.{Bool, true, false, cond, ◌&&◌}
use mathlib.Core.List.{List}
use mathlib.Core.Logic.{⊎_elim}
use mathlib.Core.Path.{◌≡◌, refl, sym, ap, ◌∙◌}
use Prim.Native.Nat.{ℕ, ◌-◌, ◌*◌, ◌≤◌, ◌<◌}
use native.Mathlib.Omega.{arith}
use borrow.Author.Tests.{eq-eqb, ne_eqb, eqb-true, eqb-false, ltb-true, lt-ltb}
use lib.Dec.{ltb, eqb}
use lib.IntN.{ℤ, pos}
use lib.ListN.{get_or, replicate, get_or-replicate, get_or-eq_default}
use Rattle.rules_number.specs.Order.{nat_of}
use Rattle.rules_number.specs.Over.{sum_to, listed}
use Rattle.rules_number.proofs.OverLaws.{never, le_or_lt, listed_at, listed_length, listed_same, sum_same}
use Rattle.rules_number.proofs.SumLaws.{sum_le}
use Rattle.rules_path.specs.Paths.{Path, at, effect, demand, supply, share, withholdable, offer, offers, sellers, named, left, is_non_competitive}
use Rattle.rules_path.specs.Verdicts.{path_of, verdict_of}
use Rattle.rules_path.specs.declared.Market.{Market}
use Rattle.path.specs.Tallies.{seller_of, Sold, Within}

-- x is the portfolio of resource r, a net seller, or else 16
pub data Seller (m : Market) (r x : ℕ) : Type 0 where
  sells : at m.portfolio r < 16 → at m.seller (at m.portfolio r) ≡ 1 → x ≡ at m.portfolio r → Seller m r x
  none : (at m.portfolio r < 16 → at m.seller (at m.portfolio r) ≡ 1 → ⊥) → x ≡ 16 → Seller m r x

module _ (m : Market) (r : ℕ) where
  pub seller_is : (x : ℕ) → Seller m r x → x ≡ seller_of m r
  unfolding seller_of
  seller_is x (sells a b e) = rw (lt-ltb _ _ a, eq-eqb _ _ b) e
  seller_is x (none h e) = go (ltb (at m.portfolio r) 16) (eqb (at m.seller (at m.portfolio r)) 1) refl refl
    where
      go : (s t : Bool) → ltb (at m.portfolio r) 16 ≡ s → eqb (at m.seller (at m.portfolio r)) 1 ≡ t → x ≡ cond (s && t) (at m.portfolio r) 16
      go true true a b = absurd (h (ltb-true _ _ a) (eqb-true _ _ b))
      go true false a b = e
      go false t a b = e

  pub seller_known : Seller m r (seller_of m r)
  unfolding seller_of
  seller_known = go (ltb (at m.portfolio r) 16) (eqb (at m.seller (at m.portfolio r)) 1) refl refl
    where
      go : (s t : Bool) → ltb (at m.portfolio r) 16 ≡ s → eqb (at m.seller (at m.portfolio r)) 1 ≡ t → Seller m r (cond (s && t) (at m.portfolio r) 16)
      go true true a b = sells (ltb-true _ _ a) (eqb-true _ _ b) refl
      go true false a b = none (λ l k. eqb-false _ _ b k) refl
      go false t a b = none (λ l k. never (sym a ∙ lt-ltb _ _ l)) refl

  module _ (p x : ℕ) (few : p < 16) where
    -- where p is a net seller, the resource is p's the one way and the other
    pub own : at m.seller p ≡ 1 → Seller m r x → eqb x p ≡ eqb (at m.portfolio r) p
    own s (sells a b e) = rw e
    own s (none h e) =
        ne_eqb x p (λ q. omega arith)
        ∙ sym (ne_eqb (at m.portfolio r) p (λ q. h (omega arith) (rw q s)))

    -- where it isn't, no resource is p's
    pub not_own : (at m.seller p ≡ 1 → ⊥) → Seller m r x → eqb x p ≡ false
    not_own s (sells a b e) = ne_eqb x p (λ q. let z : at m.portfolio r ≡ p = sym e ∙ q in s (rw z at b))
    not_own s (none h e) = ne_eqb x p (λ q. omega arith)

sum_none : (f : ℕ → ℕ) (n : ℕ) → ((i : ℕ) → i < n → f i ≡ 0) → sum_to f n ≡ 0
sum_none f n h = let l : sum_to f n ≤ n * 0 = sum_le f 0 n (λ i k. omega (arith, h i k)) in omega arith

-- a verdict by the net sellers of each resource is the verdict
module _ (shadow : ℤ) (factors dispatch available floor : List ℤ) (m : Market) (by : List ℕ) (n c : ℕ) (same : (r : ℕ) → r < n → at by r ≡ seller_of m r) where
  abbrev sold : Path
  sold = path_of shadow factors dispatch available floor by (replicate 16 1) n c

  abbrev judged : Path
  judged = path_of shadow factors dispatch available floor m.portfolio m.seller n c

  known : (r : ℕ) → r < n → Seller m r (at by r)
  known r h = rw (same r h) (seller_known m r)

  amount : ℕ → ℕ
  amount r = effect judged r * (nat_of (get_or available r (pos 0)) - nat_of (get_or floor r (pos 0)))

  pub offer_same : (p : ℕ) → p < 16 → offer sold p ≡ offer judged p
  unfolding offer withholdable share amount
  offer_same p l = rw (get_or-replicate {A = ℕ} 16 p 1 0 l) (go (eqb (at m.seller p) 1) refl)
    where
      go : (t : Bool) → eqb (at m.seller p) 1 ≡ t
          → sum_to (λ r. cond (eqb (at by r) p) (amount r) 0) n ≡ cond t (sum_to (λ r. cond (eqb (at m.portfolio r) p) (amount r) 0) n) 0
      go true e = sum_same _ _ n (λ r h. ap (λ (t : Bool). cond t (amount r) 0) (own m r p (at by r) l (eqb-true _ _ e) (known r h)))
      go false e = sum_none _ n (λ r h. ap (λ (t : Bool). cond t (amount r) 0) (not_own m r p (at by r) l (eqb-false _ _ e) (known r h)))

  pub verdict_sold : verdict_of sold ≡ verdict_of judged
  unfolding verdict_of is_non_competitive left named sellers demand supply offers
  verdict_sold = let e : listed (offer sold) 16 ≡ listed (offer judged) 16 = listed_same _ _ 16 offer_same in rw e

-- where net sellers are below ports, no more is offered from there on
module _ (factors dispatch available floor : List ℤ) (by : List ℕ) (n c ports : ℕ) (below : Sold by n ports) where
  abbrev tallied : Path
  tallied = path_of (pos 0) factors dispatch available floor by (replicate 16 1) n c

  pub within : Within (listed (withholdable tallied) 16) ports
  unfolding withholdable share
  within p h = ⊎_elim past inside (le_or_lt 16 p)
    where
      past : 16 ≤ p → at (listed (withholdable tallied) 16) p ≡ 0
      past l = get_or-eq_default (listed (withholdable tallied) 16) 0 (omega (arith, listed_length (withholdable tallied) 16))

      no : (r : ℕ) → r < n → at by r ≡ p → p < 16 → ⊥
      no r k e l = omega (arith, below r k (omega arith))

      inside : p < 16 → at (listed (withholdable tallied) 16) p ≡ 0
      inside l =
          listed_at (withholdable tallied) 0 16 p l
          ∙ sum_none _ n (λ r k. ap (λ (t : Bool). cond t (effect tallied r * (nat_of (get_or available r (pos 0)) - nat_of (get_or floor r (pos 0)))) 0) (ne_eqb (at by r) p (λ e. no r k e l)))
