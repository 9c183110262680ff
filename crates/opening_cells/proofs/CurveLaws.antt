-- Laws of curves and of a market put into cells. Assumes nothing.
use Prim.Native.Nat.{ℕ, ◌+◌}
use mathlib.Core.Path.{◌≡◌, sym, ap, ◌∙◌}
use mathlib.Core.List.{List, ◌++◌, map}
use native.Mathlib.Omega.{arith}
use lib.IntN.{ℤ}
use lib.ListN.{length, set, length-map, length-append}
use lib.Seq.{sets}
use Rattle.rules_curve.specs.Curves.{most_steps}
use Rattle.rules_curve.specs.declared.Curve.{Curve}
use Rattle.rules_path.specs.declared.Market.{Market}
use Rattle.rules_text.proofs.ListLaws.{sets_append}
use Rattle.rules_state.specs.Layout.{most_resources, most_portfolios, market_from, curve_room}
use Rattle.rules_state.specs.States.{cell_of, market_cells, curve_cells}

-- the ends and the prices of a curve as cells
abbrev pub ends_of : Curve → List ℤ
ends_of c = map (λ s. cell_of s.end) c.steps

abbrev pub prices_of : Curve → List ℤ
prices_of c = map (λ s. s.price) c.steps

module _ (c : Curve) (eleven : length c.steps ≡ most_steps) where
  ends_length : length (ends_of c) ≡ most_steps
  ends_length = simp length-map eleven

  prices_length : length (prices_of c) ≡ most_steps
  prices_length = simp length-map eleven

  pub curve_length : length (curve_cells c) ≡ curve_room
  unfolding curve_cells
  curve_length = let e = ends_length in let p = prices_length in let z = length-append (ends_of c) (prices_of c) in omega arith

-- the cells of a curve, and others put after them
pub cells_after_lem : (s first out : List ℤ) (at : ℕ) (a b : List ℤ) → length a ≡ curve_room → first ≡ sets s at a → out ≡ sets first (at + curve_room) b → out ≡ sets s at (a ++ b)
cells_after_lem s first out at a b n e f =
    f ∙ ap (λ (l : List ℤ). sets l (at + curve_room) b) e ∙ ap (λ (i : ℕ). sets (sets s at a) (at + i) b) (sym n) ∙ sym (sets_append s at a b)

-- ---- a market
pub market_length : (m : Market) → length m.portfolio ≡ most_resources → length m.seller ≡ most_portfolios → length (market_cells m) ≡ 1 + most_resources + most_portfolios
unfolding market_cells
market_length m n k =
    let z : length (map cell_of m.portfolio ++ map cell_of m.seller) ≡ most_resources + most_portfolios = simp (length-append, length-map) (omega arith) in
    omega arith

-- the number of resources, the portfolios and then the sellers
pub market_put : (m : Market) (s counted owned out : List ℤ) → length m.portfolio ≡ most_resources → counted ≡ set s market_from (cell_of m.resources)
    → owned ≡ sets counted (market_from + 1) (map cell_of m.portfolio) → out ≡ sets owned (market_from + 1 + most_resources) (map cell_of m.seller) → out ≡ sets s market_from (market_cells m)
unfolding market_cells
market_put m s counted owned out n e f g =
    let owners = map cell_of m.portfolio in
    let sellers = map cell_of m.seller in
    let head = set s market_from (cell_of m.resources) in
    let far : most_resources ≡ length owners = sym (simp length-map n) in
    g ∙ ap (λ (l : List ℤ). sets l (market_from + 1 + most_resources) sellers) (f ∙ ap (λ (l : List ℤ). sets l (market_from + 1) owners) e)
    ∙ ap (λ (i : ℕ). sets (sets head (market_from + 1) owners) (market_from + 1 + i) sellers) far ∙ sym (sets_append head (market_from + 1) owners sellers)
