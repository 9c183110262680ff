-- Laws of the seller that leads, of the bits left, and of the order as it is stored. Assumes nothing.
use Rattle.std.specs.Prelude.{None, Option, Some, IfSome}
use Prim.Native.Nat.{ℕ, zero, suc, ◌+◌, ◌-◌, ◌*◌, ◌≤◌, ◌<◌, ◌/◌, ◌%◌, ◌^◌}
use mathlib.Core.Path.{◌≡◌, refl, sym, ap, subst, ◌∙◌}
use mathlib.Core.List.{[], ◌∷◌}
use mathlib.Core.Bool.{Bool, true, false, cond}
use mathlib.Core.Logic.{⊎_elim}
use borrow.Author.Tests.{eqb-true, eqb-false, eq-eqb}
use native.Mathlib.Omega.{arith}
use native.Mathlib.Nat.{add-div_left, add-zero, add-suc, pow-suc}
use native.Mathlib.Numerals.{add-one}
use lib.Count.{ones, count_trailing_zeros, under}
use lib.Dec.{eqb}
use lib.Pow.{pow_pos, pow_mono, shr-shr, field, mod-mod-pow}
use Rattle.rules_number.proofs.OverLaws.{le_or_lt}
use Rattle.rules_path.specs.Verdicts.{bit}
use Rattle.rules_path.proofs.BitLaws.{add_bit_other, add_bit_ones, bit_past}
use Rattle.rules_page.specs.Weights.{without, later, leads, and_then, by_weight}
use Rattle.rules_page.proofs.SellerOrder.{Leads, leads_are}
use Rattle.verdict_page.specs.Orders.{is_left}

-- ---- the one that leads, as the code has it
module _ (w : ℕ → ℕ) (left : ℕ → Bool) where
  pub none_led : leads w left 0 ≡ None
  unfolding leads
  none_led = refl

  module _ (n : ℕ) where
    leads_in : left n ≡ true → leads w left (suc n) ≡ later w (leads w left n) n
    unfolding leads
    leads_in e = rw e

    leads_out : left n ≡ false → leads w left (suc n) ≡ leads w left n
    unfolding leads
    leads_out e = rw e

    pub next_in : left n ≡ true → (b : ℕ) → Some b ≡ later w (leads w left n) n → Some b ≡ leads w left (n + 1)
    next_in e b f = f ∙ sym (ap (leads w left) (add-one n) ∙ leads_in e)

  -- the one that leads is one of those left
  below : (o : Option ℕ) (n : ℕ) → n ≤ 16 → Leads w left n o → IfSome o (λ p. p < 16)
  below None n h s = tt
  below (Some p) n h s = omega (arith, s.0)

  pub leads_below : (n : ℕ) → n ≤ 16 → IfSome (leads w left n) (λ p. p < 16)
  leads_below n h = below (leads w left n) n h (leads_are w left n)

  pub led : (p : ℕ) → leads w left 16 ≡ Some p → (p < 16) × (left p ≡ true)
  led p e = let s = subst (Leads w left 16) e (leads_are w left 16) in (s.0, s.1)

  pub order_none : leads w left 16 ≡ None → (k : ℕ) → by_weight k w left ≡ []
  unfolding by_weight
  order_none e zero = refl
  order_none e (suc k) = ap (λ (o : Option ℕ). and_then o (λ q. by_weight k w (without q left))) e

  pub order_next : (p : ℕ) → leads w left 16 ≡ Some p → (k : ℕ) → by_weight (suc k) w left ≡ p ∷ by_weight k w (without p left)
  unfolding by_weight
  order_next p e k = ap (λ (o : Option ℕ). and_then o (λ q. by_weight k w (without q left))) e

-- ---- the bits left
pub bit_there : (q m : ℕ) → is_left m q ≡ true → 2 ^ q ≤ m
bit_there q m h = ⊎_elim (λ l. l) (λ l. absurd (omega (arith, eqb-true (bit q m) 1 h, bit_past q m l))) (le_or_lt (2 ^ q) m)

-- the zeros below the lowest one
half_bit : (n j : ℕ) → bit (suc j) n ≡ bit j (n / 2)
half_bit n j = let e : suc j ≡ 1 + j = omega arith in ap (λ (k : ℕ). n / 2 ^ k % 2) e ∙ ap (λ (r : ℕ). r % 2) (sym (shr-shr n 1 j))

pub low_zeros : (k n j : ℕ) → j < count_trailing_zeros k n → bit j n ≡ 0
unfolding count_trailing_zeros
low_zeros zero n j h = absurd (omega (arith, h))
low_zeros (suc k) n j h = go (λ i l. low_zeros k (n / 2) i l) (n % 2) refl j h
  where
    go : ((i : ℕ) → i < count_trailing_zeros k (n / 2) → bit i (n / 2) ≡ 0) → (d : ℕ) → n % 2 ≡ d → (j : ℕ) → j < under d (count_trailing_zeros k (n / 2)) → bit j n ≡ 0
    go higher zero e zero l = omega (arith, e)
    go higher zero e (suc j) l = half_bit n j ∙ higher j (omega (arith, l))
    go higher (suc d) e j l = absurd (omega (arith, l))

pub low_one : (k n : ℕ) → 0 < n → n < 2 ^ k → (count_trailing_zeros k n < k) × (bit (count_trailing_zeros k n) n ≡ 1)
unfolding count_trailing_zeros
low_one zero n p h = absurd (omega (arith, p, h))
low_one (suc k) n p h = go (λ q. low_one k (n / 2) q (omega (arith, h, pow-suc 2 k))) (n % 2) refl
  where
    go : (0 < n / 2 → (count_trailing_zeros k (n / 2) < k) × (bit (count_trailing_zeros k (n / 2)) (n / 2) ≡ 1)) → (d : ℕ) → n % 2 ≡ d
        → (under d (count_trailing_zeros k (n / 2)) < suc k) × (bit (under d (count_trailing_zeros k (n / 2))) n ≡ 1)
    go higher zero e = let x = higher (omega (arith, e, p)) in (omega (arith, x.0), half_bit n (count_trailing_zeros k (n / 2)) ∙ x.1)
    go higher (suc d) e = (omega arith, omega (arith, e))

-- the rest of the bits, from p on
module _ (w : ℕ → ℕ) (left p rest : ℕ) (e : rest ≡ left / 2 ^ p) where
  rest_bit : (k : ℕ) → bit (p + k) left ≡ bit k rest
  rest_bit k = ap (λ (r : ℕ). r % 2) (sym (shr-shr left p k)) ∙ ap (bit k) (sym e)

  -- where the bits up to k are zeros, the one that leads stays
  pub rest_skip : (k : ℕ) → ((j : ℕ) → j < k → bit j rest ≡ 0) → leads w (is_left left) (p + k) ≡ leads w (is_left left) p
  rest_skip zero z = ap (leads w (is_left left)) (add-zero p)
  rest_skip (suc k) z =
      ap (leads w (is_left left)) (add-suc p k) ∙ leads_out w (is_left left) (p + k) (ap (λ (b : ℕ). eqb b 1) (rest_bit k ∙ z k (omega arith)))
      ∙ rest_skip k (λ j l. z j (omega (arith, l)))

  -- and up to the last
  pub rest_none : p ≤ 16 → ((j : ℕ) → j < 16 - p → bit j rest ≡ 0) → leads w (is_left left) p ≡ leads w (is_left left) 16
  rest_none l z =
      let whole : 16 ≡ p + (16 - p) = omega (arith, l) in
      sym (ap (leads w (is_left left)) whole ∙ rest_skip (16 - p) z)

  pub rest_in : (k : ℕ) → bit k rest ≡ 1 → is_left left (p + k) ≡ true
  rest_in k h = eq-eqb (bit (p + k) left) 1 (rest_bit k ∙ h)

  pub rest_after : (k : ℕ) → rest / 2 ^ k / 2 ≡ left / 2 ^ (p + k + 1)
  rest_after k = ap (λ (r : ℕ). r / 2 ^ k / 2) e ∙ ap (λ (r : ℕ). r / 2) (shr-shr left p k) ∙ shr-shr left (p + k) 1

-- taking its bit away strikes a portfolio out and leaves the others, of which there is one fewer
module _ (q m : ℕ) (h : is_left m q ≡ true) where
  sum : 2 ^ q + (m - 2 ^ q) ≡ m
  sum = omega (arith, bit_there q m h)

  gone : bit q (m - 2 ^ q) ≡ 0
  gone = omega (arith, add-div_left (m - 2 ^ q) {k = 2 ^ q} (pow_pos q), ap (bit q) sum, eqb-true (bit q m) 1 h)

  pub struck_out : is_left (m - 2 ^ q) ≡ without q (is_left m)
  struck_out = λ i p. at p i
    where
      at : (p : ℕ) → is_left (m - 2 ^ q) p ≡ without q (is_left m) p
      at p = go (eqb p q) refl
        where
          go : (d : Bool) → eqb p q ≡ d → is_left (m - 2 ^ q) p ≡ cond d false (is_left m p)
          go true e = ap (λ (k : ℕ). is_left (m - 2 ^ q) k) (eqb-true p q e) ∙ ap (λ (b : ℕ). eqb b 1) gone
          go false e = ap (λ (b : ℕ). eqb b 1) (sym (add_bit_other p q (m - 2 ^ q) gone (eqb-false p q e)) ∙ ap (bit p) sum)

  pub one_fewer : ones m ≡ suc (ones (m - 2 ^ q))
  one_fewer = sym (ap ones sum) ∙ add_bit_ones q (m - 2 ^ q) gone

-- the bit of a portfolio is one of the low sixteen
low_bit : (p m : ℕ) → p < 16 → bit p (m % 65536) ≡ bit p m
low_bit p m h =
    let k : 16 ≡ 15 - p + 1 + p = omega (arith, h) in
    ap (λ (j : ℕ). bit p (m % 2 ^ j)) k ∙ ap (λ (r : ℕ). r % 2) (field m (15 - p + 1) p) ∙ mod-mod-pow (m / 2 ^ p) (15 - p) 1

-- of which one fewer is left without it
pub one_fewer_low : (p m : ℕ) → p < 16 → is_left m p ≡ true → ones (m % 65536) ≡ suc (ones ((m - 2 ^ p) % 65536))
one_fewer_low p m l h =
    let k = ap (λ (b : ℕ). eqb b 1) (low_bit p m l) ∙ h in
    let rest : m % 65536 - 2 ^ p ≡ (m - 2 ^ p) % 65536 = omega (arith, bit_there p (m % 65536) k) in
    one_fewer p (m % 65536) k ∙ ap (λ (r : ℕ). suc (ones r)) rest

-- the bit of a portfolio, as the code shifts it
pub one_shifted : (p : ℕ) → p < 16 → 1 * 2 ^ p % 4294967296 ≡ 2 ^ p
one_shifted p h = let l : p ≤ 16 = omega arith in omega (arith, pow_mono {i = p} {j = 16} l)
