-- The price of a quantity, looked for step by step; what it means. Assumes nothing.
use Rattle.std.specs.Prelude.{None, Option, Some, ℤ}
use mathlib.Core.List.{List, [], ◌∷◌}
use mathlib.Core.Logic.{⊎_elim}
use mathlib.Core.Path.{◌≡◌, refl}
use Prim.Native.Nat.{ℕ, ◌+◌, ◌<◌, ◌≤◌}
use native.Mathlib.Numerals.{add-one}
use native.Mathlib.Omega.{arith}
use borrow.Author.Tests.{lt-ltb, le-ltb}
use lib.ListN.{length, get_or, drop, drop_of_length-le}
use lib.Seq.{drop-cons}
use Rattle.rules_number.proofs.OverLaws.{le_or_lt}
use Rattle.rules_curve.specs.Curves.{price_at, end_of, blank_step, quote_from, quote}
use Rattle.rules_curve.specs.Meaning.{Rising}
use Rattle.rules_curve.proofs.PriceLaws.{rising_end}
use Rattle.rules_curve.specs.declared.Step.{Step}

-- ---- from step i on
module _ (l : List Step) (q i : ℕ) where
  pub quote_end : length l ≤ i → quote_from (drop i l) q ≡ None
  unfolding quote_from
  quote_end h = rw (drop_of_length-le l h)

  module _ (s : Step) (h : i < length l) (es : get_or l i blank_step ≡ s) where
    pub quote_here : q < s.end → quote_from (drop i l) q ≡ Some s.price
    unfolding quote_from
    quote_here t = rw (drop-cons l i blank_step h, es, lt-ltb q s.end t)

    pub quote_on : {r : (Option ℤ)} → s.end ≤ q → quote_from (drop i l) q ≡ r → quote_from (drop (i + 1) l) q ≡ r
    unfolding quote_from
    quote_on t e = rw add-one (rw (drop-cons l i blank_step h, es, le-ltb q s.end t) at e)

-- ---- "Quantity q has the price of the step with lower edge <= q < end": between start and end that is its price, and elsewhere there is none
inside_from : (p : ℕ) (l : List Step) (q : ℕ) → p ≤ q → q < end_of p l → quote_from l q ≡ Some (price_at l q)
unfolding quote_from price_at
inside_from p [] q h k = absurd (omega arith)
inside_from p (s ∷ l) q h k =
    ⊎_elim (λ x. rw (le-ltb q s.end x) (inside_from s.end l q x k)) (λ x. rw (lt-ltb q s.end x)) (le_or_lt s.end q)

pub quote_inside : (p : ℕ) (l : List Step) (q : ℕ) → p ≤ q → q < end_of p l → quote p l q ≡ Some (price_at l q)
quote_inside p l q h k = rw (le-ltb q p h) (inside_from p l q h k)

past_from : (p : ℕ) (l : List Step) (q : ℕ) → Rising p l → end_of p l ≤ q → quote_from l q ≡ None
unfolding quote_from
past_from p [] q r k = refl
past_from p (s ∷ l) q r k = rw (le-ltb q s.end (omega (arith, rising_end s.end l r.1))) (past_from s.end l q r.1 k)

pub quote_before : (p : ℕ) (l : List Step) (q : ℕ) → q < p → quote p l q ≡ None
quote_before p l q h = rw (lt-ltb q p h)

pub quote_past : (p : ℕ) (l : List Step) (q : ℕ) → Rising p l → end_of p l ≤ q → quote p l q ≡ None
quote_past p l q r k = rw (le-ltb q p (omega (arith, rising_end p l r))) (past_from p l q r k)
