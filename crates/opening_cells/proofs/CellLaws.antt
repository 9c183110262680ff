-- Laws of a bid in cells, and of checks that look at the last number alone. Assumes nothing.
use mathlib.Core.Bool.{Bool, true, false, ◌&&◌, cond}
use mathlib.Core.List.{List}
use mathlib.Core.Path.{◌≡◌, refl, ap, ap₂, ◌∙◌}
use Prim.Native.Nat.{ℕ, zero, suc, ◌+◌, ◌^◌, ◌≤◌, ◌<◌}
use native.Mathlib.Omega.{arith}
use borrow.Author.Tests.{lt-leb}
use lib.Dec.{leb}
use lib.IntN.{ℤ, pos, negsuc}
use lib.ListN.{length, get_or, drop}
use lib.Signed.{le_z, mag}
use Rattle.rules_number.specs.Order.{max_z, nat_of}
use Rattle.rules_curve.specs.Curves.{chain, lowest_bid, highest_bid}
use Rattle.rules_curve.proofs.ChainLaws.{chain_step, chain_stop, chain_end}
use Rattle.rules_text.proofs.ListLaws.{and-false}
use Rattle.rules_state.specs.States.{cell_of}

-- a whole number of 63 bits as a cell
pub cell_max : (z : ℤ) → mag z < 2 ^ 63 → max_z z (pos 0) ≡ cell_of (nat_of z)
cell_max (pos zero) h = refl
cell_max (pos (suc n)) h = rw (lt-leb (suc n) 0 (omega arith)) (ap pos (omega arith))
cell_max (negsuc n) h = refl

-- ---- each suits the one before it, and the last lies at most at the top
module _ {A : Type 0} (rel : ℤ → ℤ → Bool) (key : A → ℤ) (top : ℤ) where
  abbrev pub suits : ℤ → A → Bool
  suits p s = rel p (key s) && le_z (key s) top

  module _ (p : ℤ) (l : List A) (i : ℕ) (e s : A) (h : i < length l) (es : get_or l i e ≡ s) where
    pub capped_step : rel p (key s) ≡ true → (le_z (key s) top ≡ true → le_z p top ≡ true)
        → (le_z p top && chain suits key p (drop i l)) ≡ (le_z (key s) top && chain suits key (key s) (drop (i + 1) l))
    capped_step r up = go (le_z (key s) top) refl
      where
        go : (t : Bool) → le_z (key s) top ≡ t → (le_z p top && chain suits key p (drop i l)) ≡ (t && chain suits key (key s) (drop (i + 1) l))
        go true q = ap₂ ◌&&◌ (up q) (chain_step suits key p l i e s h es (ap₂ ◌&&◌ r q))
        go false q = ap (λ (t : Bool). le_z p top && t) (chain_stop suits key p l i e s h es (ap₂ ◌&&◌ r q)) ∙ and-false (le_z p top)

    pub capped_stop : rel p (key s) ≡ false → (le_z p top && chain suits key p (drop i l)) ≡ false
    capped_stop r = ap (λ (t : Bool). le_z p top && t) (chain_stop suits key p l i e s h es (ap (λ (t : Bool). t && le_z (key s) top) r)) ∙ and-false (le_z p top)

  pub capped_end : (p : ℤ) (l : List A) (i : ℕ) → length l ≤ i → (le_z p top && chain suits key p (drop i l)) ≡ le_z p top
  capped_end p l i h = ap (λ (t : Bool). le_z p top && t) (chain_end suits key p l i h) ∙ and_true (le_z p top)
    where
      and_true : (t : Bool) → (t && true) ≡ t
      and_true true = refl
      and_true false = refl

-- of a bid's prices the lowest lies below the highest
pub bid_range : (month : ℕ) → le_z lowest_bid (highest_bid month) ≡ true
bid_range month = go (leb month 12) (leb month 24)
  where
    go : (a b : Bool) → le_z lowest_bid (cond a (pos 5000000) (cond b (pos 7500000) (pos 10000000))) ≡ true
    go true b = refl
    go false true = refl
    go false false = refl
