-- Laws of the cells of a curve. Assumes nothing.
use mathlib.Core.Bool.{true}
use mathlib.Core.List.{List, [], ◌∷◌, ◌++◌, map}
use mathlib.Core.Path.{◌≡◌, refl, sym, ap, ap₂, ◌∙◌}
use Prim.Native.Nat.{ℕ, zero, suc, ◌+◌, ◌<◌, min}
use native.Mathlib.Omega.{arith}
use lib.IntN.{ℤ, pos}
use lib.ListN.{length, set, replicate, length-map, length-set}
use lib.Seq.{set-append_left}
use Rattle.rules_number.specs.Order.{nat_of}
use Rattle.rules_number.specs.Over.{padded}
use Rattle.rules_number.proofs.RangeLaws.{nat_is}
use Rattle.rules_curve.specs.Curves.{most_steps, step_to, blank_curve, unless_refused}
use Rattle.rules_curve.specs.declared.Step.{Step}
use Rattle.rules_curve.specs.declared.Curve.{Curve}
use Rattle.rules_cost.specs.Costs.{mw_in_range, cost_refusal, cost_curve}
use Rattle.rules_cost.specs.declared.Costs.{Costs}
use Rattle.rules_library.specs.Slices.{cell_at}
use Rattle.rules_state.specs.Fits.{CurveFits}
use Rattle.rules_state.specs.Layout.{curve_room}
use Rattle.rules_state.proofs.BackAgain.{curve_back, curve_room_lem}
use Rattle.rules_state.proofs.OpenedFits.{cost_fits, blank_fits}
use Rattle.rules_state.specs.States.{cell_of, curve_cells, curve_in_cells}
use Rattle.rules_state.specs.Takes.{if_accepted}

-- ---- a step put into the cells of a curve
set_right : {A : Type 0} (a b : List A) (k n : ℕ) (x : A) → length a ≡ n → set (a ++ b) (n + k) x ≡ a ++ set b k x
set_right a b k n x e = ap (λ (i : ℕ). set (a ++ b) (i + k) x) (sym e) ∙ go a
  where
    go : (a : List _) → set (a ++ b) (length a + k) x ≡ a ++ set b k x
    go [] = let z : 0 + k ≡ k = omega arith in ap (λ (i : ℕ). set b i x) z
    go (y ∷ a) = let z : suc (length a) + k ≡ suc (length a + k) = omega arith in ap (λ (i : ℕ). set (y ∷ (a ++ b)) i x) z ∙ ap (λ (l : List _). y ∷ l) (go a)

map_set : {A B : Type 0} (f : A → B) (l : List A) (i : ℕ) (x : A) → set (map f l) i (f x) ≡ map f (set l i x)
map_set f [] i x = refl
map_set f (y ∷ l) zero x = refl
map_set f (y ∷ l) (suc i) x = ap (λ (r : List _). f y ∷ r) (map_set f l i x)

abbrev pub curve_from : ℕ → ℕ → List Step → Curve
curve_from start count l = record { start = start; count = count; steps = l }

pub step_put : (start count : ℕ) (l : List Step) (k e : ℕ) (p : ℤ) → length l ≡ most_steps → k < most_steps
    → set (set (curve_cells (curve_from start count l)) (2 + k) (cell_of e)) (2 + most_steps + k) p ≡ curve_cells (curve_from start count (set l k (step_to e p)))
unfolding curve_cells
step_put start count l k e p n h =
    let end : Step → ℤ = λ s. cell_of s.end in
    let price : Step → ℤ = λ s. s.price in
    let x = step_to e p in
    let ends : length (map end l) ≡ most_steps = simp length-map n in
    let more : length (map end (set l k x)) ≡ most_steps = simp (length-map, length-set) n in
    let i : 2 + k ≡ suc (suc k) = omega arith in
    let j : 2 + most_steps + k ≡ suc (suc (most_steps + k)) = omega arith in
    let head : List ℤ → List ℤ = λ r. cell_of count ∷ cell_of start ∷ r in
    ap₂ (λ (a b : ℕ). set (set (head (map end l ++ map price l)) a (cell_of e)) b p) i j
    ∙ ap (λ (r : List ℤ). head (set r (most_steps + k) p)) (set-append_left (map end l) (map price l) k (cell_of e) (omega arith) ∙ ap (λ (r : List ℤ). r ++ map price l) (map_set end l k x))
    ∙ ap head (set_right (map end (set l k x)) (map price l) k most_steps p more ∙ ap (λ (r : List ℤ). map end (set l k x) ++ r) (map_set price l k x))

-- a quantity in range as a cell
pub cell_in : (z : ℤ) → mw_in_range z ≡ true → cell_of (nat_of z) ≡ z
cell_in z e = let n = nat_is 1000000 z e in let m : min (nat_of z) 9223372036854775807 ≡ nat_of z = omega (arith, n.1) in ap pos m ∙ sym n.0

-- ---- a default curve, or a blank one where the costs are refused
module _ (c : Costs) where
  abbrev default : Curve
  default = unless_refused (cost_refusal c) (cost_curve c)

  default_fits : CurveFits default
  default_fits = go (cost_refusal c) refl
    where
      go : (n : ℕ) → cost_refusal c ≡ n → CurveFits (unless_refused n (cost_curve c))
      go zero e = cost_fits c e
      go (suc n) e = blank_fits

  -- put into blank cells
  blank_cells : (n : ℕ) → if_accepted n (curve_cells (cost_curve c)) (replicate curve_room (pos 0)) ≡ curve_cells (unless_refused n (cost_curve c))
  unfolding blank_curve curve_cells padded
  blank_cells zero = refl
  blank_cells (suc n) = refl

  module _ (l : List ℤ) (e : l ≡ if_accepted (cost_refusal c) (curve_cells (cost_curve c)) (replicate curve_room (pos 0))) where
    put : l ≡ curve_cells default
    put = e ∙ blank_cells (cost_refusal c)

    pub default_room : length l ≡ curve_room
    default_room = ap length put ∙ curve_room_lem default default_fits

    -- and read back from them
    pub default_back : curve_in_cells l 0 ≡ unless_refused (cost_refusal c) (cost_curve c)
    default_back = curve_back l 0 default default_fits (λ k h. let z : 0 + k ≡ k = omega arith in ap (λ (i : ℕ). cell_at l i) z ∙ ap (λ (m : List ℤ). cell_at m k) put)
