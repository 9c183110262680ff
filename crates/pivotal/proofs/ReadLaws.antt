-- Net sellers and binding constraints as the code finds them. Assumes nothing.
use mathlib.Core.Bool.{Bool, true, false, ◌||◌}
use mathlib.Core.List.{List}
use mathlib.Core.Logic.{⊎_elim}
use mathlib.Core.Path.{◌≡◌, refl, sym, ap, ◌∙◌}
use Prim.Native.Nat.{ℕ, zero, suc, ◌+◌, ◌*◌, ◌%◌, ◌^◌, ◌<◌}
use native.Mathlib.Nat.{one-mul, mod-eq_of_lt, add_comm}
use native.Mathlib.Numerals.{add-one}
use native.Mathlib.Omega.{arith}
use lib.IntN.{ℤ}
use lib.Pow.{pow-lt}
use Rattle.rules_number.specs.Order.{nat_of}
use Rattle.rules_number.proofs.OverLaws.{listed_at, last_or_before, never}
use Rattle.rules_library.specs.Slices.{cell_at}
use Rattle.rules_path.specs.Paths.{at}
use Rattle.rules_mask.specs.Masks.{set_of}
use Rattle.rules_mask.proofs.SizeLaws.{set_next, set_below}
use Rattle.rules_pivotal.specs.Pivotals.{any_to}
use Rattle.rules_state.specs.Layout.{most_resources, most_portfolios, market_from}
use Rattle.rules_state.specs.States.{market_in, wholes_in}

-- the mark of a portfolio is a cell
pub mark_at : (state : List ℤ) (p : ℕ) → p < 16 → at (market_in state).seller p ≡ nat_of (cell_at state (market_from + 1 + most_resources + p))
unfolding market_in wholes_in
mark_at state p h = listed_at (λ i. nat_of (cell_at state (market_from + 1 + most_resources + i))) 0 most_portfolios p h

module _ (f : ℕ → Bool) (p x : ℕ) (so_far : x ≡ set_of f p) where
  pub set_more : p < 16 → f p ≡ true → x + 1 * 2 ^ p % 4294967296 ≡ set_of f (p + 1)
  set_more l e =
      let b : 1 * 2 ^ p % 4294967296 ≡ 2 ^ p = ap (λ (z : ℕ). z % 4294967296) (one-mul (2 ^ p)) ∙ mod-eq_of_lt (pow-lt {i = p} {j = 32} (omega arith)) in
      rw (b, so_far, add-one p) (add_comm (set_of f p) (2 ^ p) ∙ sym (set_next f p ∙ rw e))

  pub set_kept : f p ≡ false → x ≡ set_of f (p + 1)
  set_kept e = rw (add-one p) (so_far ∙ sym (set_next f p ∙ rw e))

  pub set_fits : p < 16 → x + 1 * 2 ^ p % 4294967296 < 4294967296
  set_fits l =
      let b : 1 * 2 ^ p % 4294967296 ≡ 2 ^ p = ap (λ (z : ℕ). z % 4294967296) (one-mul (2 ^ p)) ∙ mod-eq_of_lt (pow-lt {i = p} {j = 32} (omega arith)) in
      omega (arith, set_below f p, pow-lt {i = p} {j = 16} l)

-- ---- one of n
module _ (f : ℕ → Bool) where
  pub any_next : (n : ℕ) → any_to f n ≡ false → f n ≡ false → any_to f (n + 1) ≡ false
  unfolding any_to
  any_next n a b = rw (add-one n, a, b)

  pub any_found : (n i : ℕ) → i < n → f i ≡ true → true ≡ any_to f n
  unfolding any_to
  any_found zero i h e = absurd (omega arith)
  any_found (suc n) i h e = ⊎_elim (λ x. last (any_to f n) (f n) (ap f (sym x) ∙ e)) (λ l. first (any_to f n) (f n) (any_found n i l e)) (last_or_before i n h)
    where
      last : (a b : Bool) → b ≡ true → true ≡ (a || b)
      last true b x = refl
      last false b x = sym x

      first : (a b : Bool) → true ≡ a → true ≡ (a || b)
      first true b x = refl
      first false b x = never (sym x)
