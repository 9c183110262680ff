-- The prices that are read, by place and by name, and the largest of them. Assumes nothing.
use mathlib.Core.List.{List}
use mathlib.Core.Logic.{inl, inr}
use mathlib.Core.Path.{◌≡◌, refl, sym, ap, subst, ◌∙◌}
use Prim.Native.Nat.{ℕ, zero, suc, ◌+◌, ◌-◌, ◌*◌, ◌≤◌}
use native.Mathlib.Omega.{arith}
use lib.IntN.{ℤ, pos}
use lib.ListN.{get_or}
use lib.Signed.{◌≤ℤ◌}
use Rattle.rules_number.proofs.HighestLaws.{highest_is_highest}
use Rattle.rules_number.proofs.Kit.{≤ℤ_trans}
use Rattle.rules_hydro.specs.Hydros.{hub_price, peak, balance, month, largest_at, largest_over}
use Rattle.rules_hydro.specs.Meaning.{Largest, AtDefaultHub, AtHub, AtHubs}

-- "The first hub is the default one, and the first monthly price is next month's": where the fourteen prices of a hub stand
pub record Placed (prices : List ℤ) : Type 0 where
  pub peaks : (i : ℕ) → peak prices i ≡ get_or prices (i * 14 + 0) (pos 0)
  pub balances : (i : ℕ) → balance prices i ≡ get_or prices (i * 14 + 1) (pos 0)
  pub months : (i k : ℕ) → month prices i k ≡ get_or prices (i * 14 + suc k) (pos 0)

pub placed : (prices : List ℤ) → Placed prices
placed prices = record { peaks = λ i. refl; balances = λ i. refl; months = λ i k. refl }

module _ (prices : List ℤ) where
  -- what holds of a hub's peak, its balance of month and its first n months holds of prices 0 to n + 1
  module _ (i n : ℕ) where
    pub by_name : (Q : ℤ → Type 0) → Q (peak prices i) → Q (balance prices i) → ((k : ℕ) → 1 ≤ k → k ≤ n → Q (month prices i k)) → (j : ℕ) → j ≤ n + 1 → Q (hub_price prices i j)
    by_name Q a b c zero h = a
    by_name Q a b c (suc zero) h = b
    by_name Q a b c (suc (suc j)) h = c (suc j) (omega arith) (omega arith)

    -- and back, of any price that is one of these
    pub by_place : (Q : ℤ → Type 0) → ((j : ℕ) → j ≤ n + 1 → Q (hub_price prices i j)) → (y : ℤ) → AtHub prices i n y → Q y
    by_place Q h y (inl e) = subst Q (sym e) (h 0 (omega arith))
    by_place Q h y (inr (inl e)) = subst Q (sym e) (h 1 (omega arith))
    by_place Q h y (inr (inr m)) = let t = m.to in subst Q (sym m.is) (h (suc m.k) (omega arith))

    pub named : (j : ℕ) → j ≤ n + 1 → AtHub prices i n (hub_price prices i j)
    named = by_name (AtHub prices i n) (inl refl) (inr (inl refl)) (λ k a b. inr (inr (record { k = k; from = a; to = b; is = refl })))

    largest_at_lem : Largest (AtHub prices i n) (largest_at prices i n)
    unfolding largest_at
    largest_at_lem =
        let h = highest_is_highest (hub_price prices i) (n + 1) in
        record { one = subst (AtHub prices i n) (sym h.attained) (named h.at h.among); at_least = by_place (λ y. y ≤ℤ largest_at prices i n) h.at_least_each }

  -- the default hub's first month is the next
  pub largest_default : Largest (AtDefaultHub prices) (largest_at prices 0 1)
  largest_default = let l = largest_at_lem 0 1 in record { one = there (largest_at prices 0 1) l.one; at_least = λ y u. l.at_least y (back y u) }
    where
      there : (y : ℤ) → AtHub prices 0 1 y → AtDefaultHub prices y
      there y (inl e) = inl e
      there y (inr (inl e)) = inr (inl e)
      there y (inr (inr m)) = let a = m.from in let b = m.to in let e : m.k ≡ 1 = omega arith in inr (inr (m.is ∙ ap (month prices 0) e))

      back : (y : ℤ) → AtDefaultHub prices y → AtHub prices 0 1 y
      back y (inl e) = inl e
      back y (inr (inl e)) = inr (inl e)
      back y (inr (inr e)) = inr (inr (record { k = 1; from = omega arith; to = omega arith; is = e }))

  pub largest_over_lem : (hubs n : ℕ) → 1 ≤ hubs → Largest (AtHubs prices hubs n) (largest_over prices hubs n)
  unfolding largest_over
  largest_over_lem hubs n some =
      let h = highest_is_highest (λ i. largest_at prices i n) (hubs - 1) in
      let a = h.among in
      record {
        one = record { hub = h.at; counted = omega arith; one = subst (AtHub prices h.at n) (sym h.attained) (largest_at_lem h.at n).one };
        at_least = λ y u. let c = u.counted in ≤ℤ_trans ((largest_at_lem u.hub n).at_least y u.one) (h.at_least_each u.hub (omega arith));
      }
