-- Laws of the answers of put_checked, one for each way out. Assumes nothing.
use Prim.Native.Nat.{ℕ, zero, suc, ◌≤◌, ◌<◌}
use mathlib.Core.Path.{◌≡◌, sym, ap, subst, ◌∙◌}
use mathlib.Core.Bool.{Bool, cond, ◌&&◌}
use mathlib.Core.List.{List}
use native.Mathlib.Omega.{arith}
use borrow.Author.Tests.{le-leb, lt-leb}
use lib.Dec.{leb}
use lib.IntN.{ℤ, pos, negsuc}
use lib.ListN.{length}
use lib.Seq.{sets}
use Rattle.rules_curve.specs.declared.Curve.{Curve}
use Rattle.rules_library.specs.Slices.{edge_count, price_count, edges_of, prices_of, is_room, put_answer, if_written, edges_with, prices_with}

module _ (edges : List ℕ) (prices : List ℤ) (n : ℕ) (curve : Curve) where
  -- the answer and the two slices are as they should be
  abbrev pub Answered : ℤ → List ℕ → List ℤ → Type 0
  Answered r e p = (r ≡ put_answer edges prices n) × ((e ≡ edges_with edges prices n curve) × (p ≡ prices_with edges prices n curve))

  answered : (z : ℤ) → put_answer edges prices n ≡ z → Answered z (if_written z (sets edges 0 (edges_of curve)) edges) (if_written z (sets prices 0 (prices_of curve)) prices)
  unfolding edges_with prices_with
  answered z h = (
    sym h,
    (ap (λ (x : ℤ). if_written x (sets edges 0 (edges_of curve)) edges) (sym h), ap (λ (x : ℤ). if_written x (sets prices 0 (prices_of curve)) prices) (sym h)),
  )

  by_room : (b : Bool) → is_room edges prices ≡ b → put_answer edges prices n ≡ cond b (pos n) (negsuc 0)
  by_room b h = ap (λ (t : Bool). cond t (pos n) (negsuc 0)) h

  pub few_edges : length edges < edge_count → Answered (negsuc 0) edges prices
  few_edges h = answered (negsuc 0) (by_room _ (ap (λ (b : Bool). b && leb price_count (length prices)) (lt-leb edge_count (length edges) h)))

  module _ (h : edge_count ≤ length edges) where
    room : (b : Bool) → leb price_count (length prices) ≡ b → is_room edges prices ≡ b
    room b e = ap (λ (t : Bool). t && leb price_count (length prices)) (le-leb edge_count (length edges) h) ∙ e

    pub few_prices : length prices < price_count → Answered (negsuc 0) edges prices
    few_prices k = answered (negsuc 0) (by_room _ (room _ (lt-leb price_count (length prices) k)))

    module _ (k : price_count ≤ length prices) where
      number : (m : ℕ) → n ≡ m → put_answer edges prices n ≡ pos m
      number m e = by_room _ (room _ (le-leb price_count (length prices) k)) ∙ ap pos e

      pub refused : (m : ℕ) → 0 < m → n ≡ m → Answered (pos m) edges prices
      refused zero l e = absurd (omega arith)
      refused (suc m) l e = answered (pos (suc m)) (number (suc m) e)

      pub written : n ≡ 0 → Answered (pos 0) (sets edges 0 (edges_of curve)) (sets prices 0 (prices_of curve))
      written z = answered (pos 0) (number 0 z)

-- of the number and the curve that a check gave
pub put_same : (edges : List ℕ) (prices : List ℤ) (n m : ℕ) (a b : Curve) → n ≡ m → a ≡ b → (r : ℤ) (e : List ℕ) (p : List ℤ) → Answered edges prices n a r e p → Answered edges prices m b r e p
put_same edges prices n m a b x y r e p h = subst (λ (k : ℕ). Answered edges prices k b r e p) x (subst (λ (k : Curve). Answered edges prices n k r e p) y h)
