-- One number more of the search, as a loop tries it. Assumes nothing.
use mathlib.Core.Bool.{Bool, true, false, ◌&&◌, cond}
use mathlib.Core.Path.{◌≡◌, refl, sym, ap, ◌∙◌}
use Prim.Native.Nat.{ℕ, suc, ◌+◌, ◌≤◌, ◌<◌}
use native.Mathlib.Omega.{arith}
use native.Mathlib.Numerals.{add-one}
use borrow.Author.Tests.{lt-ltb, le-ltb, eq-eqb, ne_eqb}
use lib.Bits.{bit_and}
use lib.Count.{ones}
use lib.Dec.{ltb}
use Rattle.rules_mask.specs.Masks.{is_within}
use Rattle.rules_pivotal.specs.Searches.{better_of, searched_to}
use Rattle.rules_pivotal.specs.declared.Found.{Found}

and-false : (a : Bool) → (a && false) ≡ false
and-false true = refl
and-false false = refl

pub not_fewer : (f : ℕ → Bool) (s best : ℕ) → ones best ≤ ones s → better_of f s best ≡ best
unfolding better_of
not_fewer f s best h = rw (le-ltb (ones s) (ones best) h)

pub fewer : (f : ℕ → Bool) (s best : ℕ) → ones s < ones best → (t : Bool) → f s ≡ t → better_of f s best ≡ cond t s best
unfolding better_of
fewer f s best h t e = rw (lt-ltb (ones s) (ones best) h, e)

-- one that doesn't work changes nothing
pub no_use : (f : ℕ → Bool) (s best : ℕ) → f s ≡ false → better_of f s best ≡ best
unfolding better_of
no_use f s best e = rw (e, and-false (ltb (ones s) (ones best)))

-- a number that isn't a set of net sellers, or comes when the budget is used up, changes nothing
pub not_within : (f : ℕ → Bool) (m b n : ℕ) → is_within m (suc n) ≡ false → searched_to f m b (suc n) ≡ searched_to f m b n
unfolding searched_to
not_within f m b n h = rw h

pub used_up : (f : ℕ → Bool) (m b n : ℕ) → b ≤ (searched_to f m b n).tried → searched_to f m b (suc n) ≡ searched_to f m b n
unfolding searched_to
used_up f m b n h = rw (le-ltb (searched_to f m b n).tried b h, and-false (is_within m (suc n)))

pub one_tried : (f : ℕ → Bool) (m b n : ℕ) → is_within m (suc n) ≡ true → (searched_to f m b n).tried < b
    → searched_to f m b (suc n) ≡ record { best = better_of f (suc n) (searched_to f m b n).best; tried = (searched_to f m b n).tried + 1 }
unfolding searched_to
one_tried f m b n e h = rw (e, lt-ltb (searched_to f m b n).tried b h)

-- one turn of a loop, on the numbers that it carries
abbrev pub found_of : ℕ → ℕ → Found
found_of best tried = record { best = best; tried = tried }

module _ (f : ℕ → Bool) (m b n best t : ℕ) (so_far : found_of best t ≡ searched_to f m b n) where
  is_tried : t ≡ (searched_to f m b n).tried
  is_tried = ap (λ (x : Found). x.tried) so_far

  is_best : best ≡ (searched_to f m b n).best
  is_best = ap (λ (x : Found). x.best) so_far

  pub turn_tried : (r : ℕ) → r ≡ better_of f (n + 1) best → bit_and (n + 1) m ≡ n + 1 → t < b → found_of r (t + 1) ≡ searched_to f m b (n + 1)
  turn_tried r e w l =
      let z : bit_and (suc n) m ≡ suc n = rw (add-one n) at w in
      rw (add-one n) (rw (e, add-one n, is_best, is_tried) (sym (one_tried f m b n (eq-eqb (bit_and (suc n) m) (suc n) z) (omega (arith, is_tried)))))

  pub turn_used : b ≤ t → found_of best t ≡ searched_to f m b (n + 1)
  turn_used l = rw (add-one n) (so_far ∙ sym (used_up f m b n (omega (arith, is_tried))))

  pub turn_other : (bit_and (n + 1) m ≡ n + 1 → ⊥) → found_of best t ≡ searched_to f m b (n + 1)
  turn_other w = rw (add-one n) (so_far ∙ sym (not_within f m b n (ne_eqb (bit_and (suc n) m) (suc n) (λ e. w (rw (add-one n) e)))))
