-- The lines of sellers are the path verdict's three largest, in the order in which they are found. Assumes nothing.
use Prim.Native.Nat.{ℕ, zero, suc, ◌≤◌, ◌<◌}
use mathlib.Core.Path.{◌≡◌, refl, sym, ap, ap₂, ◌∙◌}
use mathlib.Core.List.Memᴰ
use mathlib.Core.List.{List, [], ◌∷◌, map, Memᴰ}
use mathlib.Core.Bool.{true}
use mathlib.Core.Logic.{◌≢◌, ◌↔◌, inl, inr, ⊎_elim}
use native.Mathlib.Nat.{le_trans, le_of_eq}
use native.Mathlib.Omega.{arith}
use lib.Count.{ones}
use lib.IntN.{pos}
use lib.ListN.{length, set, length-set, length-map}
use Rattle.rules_number.proofs.OverLaws.{last_or_before, listed_length}
use Rattle.rules_path.specs.Paths.{Path, binds, at, largest, Withheld, top, withholdable, offers, sellers}
use Rattle.rules_path.specs.Verdicts.{bit, is_named, verdict_of}
use Rattle.rules_path.proofs.LargestLaws.{struck, struck_le, kept, largest_max, largest_first}
use Rattle.rules_path.proofs.PathLaws.{offer_of_seller, seller_of_offer}
use Rattle.rules_path.proofs.PathVerdict.{bit_exactly, ones_are_sellers}
use Rattle.rules_path.proofs.TopLaws.{Pick, pick, On, top_above}
use Rattle.rules_text.specs.Numbers.{Row}
use Rattle.rules_text.proofs.ListLaws.{byte_there}
use Rattle.rules_page.proofs.SellerLines.{seller_line, SellerLines, lines_only, exactly_named}
use Rattle.rules_page.proofs.SellerOrder.{Before, Ordered, ordered_same, by_weight_lem}

-- the portfolios of a list, in order
abbrev pub whose_of : List Withheld → List ℕ
whose_of l = map (λ (x : Withheld). x.who) l

-- a seller found and its amount, as a line
abbrev pub found_line : Withheld → Row
found_line x = pos x.who ∷ pos x.amount ∷ []

on_mem : (p : ℕ) (l : List Withheld) → Memᴰ p (whose_of l) ↔ On p l
unfolding On
on_mem p [] = ((λ m. Memᴰ.not-nil m), λ o. absurd o)
on_mem p (x ∷ l) =
    ((λ m. ⊎_elim (λ e. inl (sym e)) (λ k. inr ((on_mem p l).0 k)) (Memᴰ.cases_cons m)), ⊎_elim (λ e. Memᴰ.head (sym e)) (λ o. Memᴰ.tail ((on_mem p l).1 o)))

le_ne : (m q : ℕ) → m ≤ q → q ≢ m → m < q
le_ne m q l d = ⊎_elim (λ e. absurd (d (sym e))) (λ h. h) (last_or_before m q (omega (arith, l)))

-- ---- what is found after the largest
module _ (k : ℕ) (w : List ℕ) (n : ℕ) where
  rest : List Withheld
  rest = top k (set w (largest w n) 0) n

  -- another portfolio, with an amount
  other : (x : ℕ) → On x rest → (x ≢ largest w n) × (0 < at (set w (largest w n) 0) x)
  unfolding rest
  other x o =
      let a = top_above k (set w (largest w n) 0) n x o in
      ((λ e. let z : at (set w (largest w n) 0) x ≡ at (set w (largest w n) 0) (largest w n) = ap (at (set w (largest w n) 0)) e in omega (arith, a, z, struck w (largest w n))), a)

  -- which comes after the largest
  after : length w ≤ n → (x : ℕ) → On x rest → Before (at w) (largest w n) x
  after s x o =
      let r = other x o in
      let l : x < n = omega (arith, byte_there w x (omega (arith, r.1, struck_le w (largest w n) x)), s) in
      (largest_max w n x l, λ e. le_ne (largest w n) x (largest_first w n x l (sym e)) r.0)

module _ (n : ℕ) where
  top_ordered : (k : ℕ) (w : List ℕ) → length w ≤ n → Ordered (at w) (whose_of (top k w n))
  unfolding top rest
  top_ordered zero w s = tt
  top_ordered (suc k) w s = go (pick k w n) (top_ordered k (set w (largest w n) 0) (le_trans (le_of_eq (length-set w (largest w n) 0)) s))
    where
      go : Pick k w n → Ordered (at (set w (largest w n) 0)) (whose_of (rest k w n)) → Ordered (at w) (whose_of (top (suc k) w n))
      go (Pick.some a b) ih =
          rw b (
            (λ x m. after k w n s x ((on_mem x (rest k w n)).0 m)),
            ordered_same (at w) (at (set w (largest w n) 0)) (whose_of (rest k w n)) (λ x m. sym (kept w (largest w n) x (other k w n x ((on_mem x (rest k w n)).0 m)).0)) ih,
          )
      go (Pick.none a b) ih = rw b tt

  -- each with its amount
  top_lines : (k : ℕ) (w : List ℕ) → map found_line (top k w n) ≡ map (seller_line (at w)) (whose_of (top k w n))
  unfolding top rest
  top_lines zero w = refl
  top_lines (suc k) w = go (pick k w n) (top_lines k (set w (largest w n) 0))
    where
      same : (l : List ℕ) → ((x : ℕ) → Memᴰ x l → x ≢ largest w n) → map (seller_line (at (set w (largest w n) 0))) l ≡ map (seller_line (at w)) l
      same [] h = refl
      same (p ∷ l) h = ap₂ (λ (a : ℕ) (t : List Row). (pos p ∷ pos a ∷ []) ∷ t) (kept w (largest w n) p (h p (Memᴰ.head refl))) (same l (λ x m. h x (Memᴰ.tail m)))

      go : Pick k w n → map found_line (rest k w n) ≡ map (seller_line (at (set w (largest w n) 0))) (whose_of (rest k w n))
          → map found_line (top (suc k) w n) ≡ map (seller_line (at w)) (whose_of (top (suc k) w n))
      go (Pick.some a b) ih = rw b (ap (λ (t : List Row). seller_line (at w) (largest w n) ∷ t) (ih ∙ same (whose_of (rest k w n)) (λ x m. (other k w n x ((on_mem x (rest k w n)).0 m)).0)))
      go (Pick.none a b) ih = rw b

-- ---- a path that binds, of at most 16 portfolios: the sellers found are such lines
module _ (d : Path) (b : binds d ≡ true) (few : d.portfolios ≤ 16) where
  bits : (p : ℕ) → Memᴰ p (whose_of (sellers d)) ↔ (bit p (verdict_of d).named ≡ 1)
  unfolding verdict_of
  bits p = rw b ((λ m. (bit_exactly d p).0 ((on_mem p (sellers d)).0 m)), λ e. (on_mem p (sellers d)).1 ((bit_exactly d p).1 e))

  offered : (p : ℕ) → Memᴰ p (whose_of (sellers d)) → withholdable d p ≡ at (offers d) p
  unfolding sellers
  offered p m = sym (offer_of_seller d p (seller_of_offer d p (top_above 3 (offers d) d.portfolios p ((on_mem p (sellers d)).0 m))).0)

  as_withheld : (l : List ℕ) → ((p : ℕ) → Memᴰ p l → withholdable d p ≡ at (offers d) p) → map (seller_line (at (offers d))) l ≡ map (seller_line (withholdable d)) l
  as_withheld [] h = refl
  as_withheld (p ∷ l) h = ap₂ (λ (a : ℕ) (t : List Row). (pos p ∷ pos a ∷ []) ∷ t) (sym (h p (Memᴰ.head refl))) (as_withheld l (λ x m. h x (Memᴰ.tail m)))

  pub found_lines : SellerLines d (withholdable d) (map found_line (sellers d))
  unfolding sellers offers
  found_lines = record {
    who = whose_of (sellers d);
    order = by_weight_lem (withholdable d) (is_named (verdict_of d)) (whose_of (sellers d)) (exactly_named d few (whose_of (sellers d)) bits)
        (ordered_same (withholdable d) (at (offers d)) (whose_of (sellers d)) offered (top_ordered d.portfolios 3 (offers d) (le_of_eq (listed_length _ d.portfolios))));
    exactly = bits;
    lines = top_lines d.portfolios 3 (offers d) ∙ as_withheld (whose_of (sellers d)) offered;
  }

  -- lines of sellers are the "three largest such amounts (ties: lower portfolio number)", in the order in which these are found
  module _ (rows : List Row) (s : SellerLines d (withholdable d) rows) where
    pub sellers_found : rows ≡ map found_line (sellers d)
    sellers_found = lines_only d (withholdable d) rows (map found_line (sellers d)) s found_lines

    -- as many as ones in the mask
    pub named_lines : length rows ≡ ones (verdict_of d).named
    unfolding verdict_of
    named_lines = ap length sellers_found ∙ (simp length-map) ∙ sym (ones_are_sellers d) ∙ rw b
