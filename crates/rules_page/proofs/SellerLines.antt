-- The lines of sellers: exactly the bits of the mask, each once, with that seller's amount, the larger first. Assumes nothing.
use mathlib.Core.Bool.{Bool, true, false}
use mathlib.Core.List.{List, [], ◌∷◌, map, Memᴰ}
use mathlib.Core.Logic.{◌↔◌}
use mathlib.Core.Path.{◌≡◌, refl, sym, ap, ap₂, ◌∙◌}
use Prim.Native.Nat.{ℕ, ◌≤◌, ◌<◌}
use native.Mathlib.Nat.{le_trans}
use native.Mathlib.Omega.{arith}
use lib.IntN.{pos}
use Rattle.rules_number.proofs.ExactLaws.{eq_exactly}
use Rattle.rules_path.specs.Paths.{Path, binds, withholdable}
use Rattle.rules_path.specs.Verdicts.{verdict_of, bit, is_named}
use Rattle.rules_path.proofs.BitLaws.{bit_zero}
use Rattle.rules_path.proofs.PathVerdict.{named_can_withhold, withheld_of_named}
use Rattle.rules_text.specs.Numbers.{Row}
use Rattle.rules_page.specs.Pages.{printable, weight_of, seller_row, sellers_printed, sellers_named, seller_rows}
use Rattle.rules_page.proofs.SameValues.{same_verdict}
use Rattle.rules_page.proofs.SellerOrder.{ByWeight, same_weights, sellers_by_weight, sellers_only}

-- portfolio p and its amount
abbrev pub seller_line : (ℕ → ℕ) → ℕ → Row
seller_line amount p = pos p ∷ pos (amount p) ∷ []

-- the lines of the sellers named for a constraint, each with its amount
pub record SellerLines (d : Path) (amount : ℕ → ℕ) (rows : List Row) : Type 0 where
  -- the portfolios of the lines
  pub who : List ℕ
  -- "the larger withheld amount now comes first, equal ones by lower portfolio number"; each once
  pub order : ByWeight amount (is_named (verdict_of d)) who
  -- "bit p standing for portfolio p": exactly the bits of the mask
  pub exactly : (p : ℕ) → Memᴰ p who ↔ (bit p (verdict_of d).named ≡ 1)
  pub lines : rows ≡ map (seller_line amount) who

-- "Two printouts of one hour differed in the lines of sellers": no two are such
pub lines_only : (d : Path) (amount : ℕ → ℕ) (k l : List Row) → SellerLines d amount k → SellerLines d amount l → k ≡ l
lines_only d amount k l s t =
    let is = is_named (verdict_of d) in
    s.lines ∙ ap (map (seller_line amount)) (sellers_only amount is s.who s.order ∙ sym (sellers_only amount is t.who t.order)) ∙ sym t.lines

-- of at most 16 portfolios
module _ (d : Path) (few : d.portfolios ≤ 16) where
  -- no bit is a one from 16 on
  pub bits_few : (p : ℕ) → bit p (verdict_of d).named ≡ 1 → p < 16
  unfolding verdict_of
  bits_few p b = go (binds d) refl
    where
      go : (t : Bool) → binds d ≡ t → p < 16
      go true e = le_trans (named_can_withhold d p (rw e at b)).0.0 few
      go false e = let z : bit p 0 ≡ 1 = rw e at b in absurd (omega (arith, bit_zero p))

  -- those named among 16 are those whose bit is a one
  pub named_exactly : (who : List ℕ) → ((p : ℕ) → Memᴰ p who ↔ ((p < 16) × (is_named (verdict_of d) p ≡ true))) → (p : ℕ) → Memᴰ p who ↔ (bit p (verdict_of d).named ≡ 1)
  unfolding is_named
  named_exactly who is p = let one = eq_exactly (bit p (verdict_of d).named) 1 in ((λ m. one.0 ((is p).0 m).1), λ b. (is p).1 (bits_few p b, one.1 b))

  pub exactly_named : (who : List ℕ) → ((p : ℕ) → Memᴰ p who ↔ (bit p (verdict_of d).named ≡ 1)) → (p : ℕ) → Memᴰ p who ↔ ((p < 16) × (is_named (verdict_of d) p ≡ true))
  unfolding is_named
  exactly_named who is p = let one = eq_exactly (bit p (verdict_of d).named) 1 in ((λ m. (bits_few p ((is p).0 m), one.1 ((is p).0 m))), λ h. (is p).1 (one.0 h.1))

  -- each with what that portfolio can withhold
  own_weight : (p : ℕ) → bit p (verdict_of d).named ≡ 1 → weight_of (verdict_of d) p ≡ printable (withholdable d p)
  own_weight p b = ap printable (withheld_of_named d p (bits_few p b) b)

  amounts : (l : List ℕ) → ((p : ℕ) → Memᴰ p l → bit p (verdict_of d).named ≡ 1)
      → map (seller_row (verdict_of d)) l ≡ map (seller_line (λ p. printable (withholdable d p))) l
  amounts [] h = refl
  amounts (p ∷ l) h = ap₂ (λ (x : ℕ) (t : List Row). (pos p ∷ pos x ∷ []) ∷ t) (own_weight p (h p (Memᴰ.head refl))) (amounts l (λ q m. h q (Memᴰ.tail m)))

  -- "the sellers named", each printed once
  pub seller_lines : SellerLines d (λ p. printable (withholdable d p)) (seller_rows (verdict_of d))
  unfolding sellers_named
  seller_lines =
      let who = sellers_printed (verdict_of d) in
      let by = sellers_by_weight (weight_of (verdict_of d)) (is_named (verdict_of d)) in
      let bits = named_exactly who by.exactly in
      record {
        who = who;
        order = same_weights (λ p. printable (withholdable d p)) (weight_of (verdict_of d)) (is_named (verdict_of d)) who (λ p m. sym (own_weight p ((bits p).0 m))) by;
        exactly = bits;
        lines = ap sellers_named (same_verdict d) ∙ amounts who (λ p m. (bits p).0 m);
      }
