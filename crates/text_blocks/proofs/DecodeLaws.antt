-- Laws of a block with a resource's lines: it decodes to the resource of those lines. Assumes nothing.
use Prim.Native.Nat.{ℕ, zero, suc, ◌+◌, ◌*◌, ◌-◌, ◌≤◌, ◌<◌}
use mathlib.Core.Path.{◌≡◌, refl, sym, ap, ◌∙◌}
use mathlib.Core.List.{List, [], ◌∷◌, map}
use native.Mathlib.Omega.{arith}
use lib.IntN.{ℤ, pos}
use lib.ListN.{length, drop, get_or, get_or-eq_default}
use lib.Seq.{sets, length-sets, get_or-drop}
use Rattle.rules_number.specs.Order.{nat_of}
use Rattle.rules_number.specs.Over.{listed}
use Rattle.rules_number.proofs.OverLaws.{listed_length, listed_at}
use Rattle.rules_number.proofs.ListedLaws.{listed_is}
use Rattle.rules_curve.specs.declared.RawStep.{RawStep}
use Rattle.rules_curve.specs.declared.RawCurve.{RawCurve}
use Rattle.rules_curve.specs.Curves.{most_steps}
use Rattle.rules_cost.specs.Costs.{most_points}
use Rattle.rules_cost.specs.declared.Point.{Point}
use Rattle.rules_cost.specs.declared.Costs.{Costs}
use Rattle.rules_opening.specs.declared.Source.{Source}
use Rattle.rules_opening.specs.declared.Resource.{Resource}
use Rattle.rules_text.specs.Numbers.{Row}
use Rattle.rules_text.specs.Tables.{cell}
use Rattle.rules_text.specs.Offsets.{kept}
use Rattle.rules_text.proofs.ListLaws.{sets_before, sets_read}
use Rattle.rules_text.proofs.TableLaws.{kept_length}
use Rattle.rules_parts.specs.Parts.{step_of, bid_of, point_of, costs_of, resource_of}
use Rattle.rules_library.specs.Slices.{cell_at, raw_step_at, raw_point_at, costs_in}
use Rattle.rules_state.specs.Openings.{source_of, raw_from, resource_in}
use Rattle.text_blocks.specs.Blocks.{pairs_to, group_cells, charge_cells}
use Rattle.text_blocks.proofs.WindowLaws.{sets_after, sets_onto, blank}

-- ---- the cells of a group
pairs_length : (n : ℕ) (xs : List Row) → length (pairs_to n xs) ≤ 2 * n
unfolding pairs_to
pairs_length zero xs = omega arith
pairs_length (suc n) [] = omega arith
pairs_length (suc n) (x ∷ xs) = omega (arith, pairs_length n xs)

pub group_length : (xs : List Row) → length (group_cells xs) ≤ 23
unfolding group_cells
group_length xs = omega (arith, pairs_length 11 xs)

pub charge_length : (x : Row) → length (charge_cells x) ≡ 7
unfolding charge_cells
charge_length x = listed_length (λ k. cell (suc k) x) 7

pairs_first : (n : ℕ) (xs : List Row) (k : ℕ) → k < n → get_or (pairs_to n xs) (2 * k) (pos 0) ≡ cell 1 (get_or xs k [])
unfolding pairs_to
pairs_first zero xs k h = absurd (omega arith)
pairs_first (suc n) [] k h = get_or-eq_default [] (pos 0) {n = 2 * k} (omega arith) ∙ ap (cell 1) (sym (get_or-eq_default [] [] {n = k} (omega arith)))
pairs_first (suc n) (x ∷ xs) zero h = refl
pairs_first (suc n) (x ∷ xs) (suc k) h =
    let z : 2 * suc k ≡ suc (suc (2 * k)) = omega arith in
    ap (λ (i : ℕ). get_or (cell 1 x ∷ cell 2 x ∷ pairs_to n xs) i (pos 0)) z ∙ pairs_first n xs k (omega arith)

pairs_second : (n : ℕ) (xs : List Row) (k : ℕ) → k < n → get_or (pairs_to n xs) (suc (2 * k)) (pos 0) ≡ cell 2 (get_or xs k [])
unfolding pairs_to
pairs_second zero xs k h = absurd (omega arith)
pairs_second (suc n) [] k h = get_or-eq_default [] (pos 0) {n = suc (2 * k)} (omega arith) ∙ ap (cell 2) (sym (get_or-eq_default [] [] {n = k} (omega arith)))
pairs_second (suc n) (x ∷ xs) zero h = refl
pairs_second (suc n) (x ∷ xs) (suc k) h =
    let z : suc (2 * suc k) ≡ suc (suc (suc (2 * k))) = omega arith in
    ap (λ (i : ℕ). get_or (cell 1 x ∷ cell 2 x ∷ pairs_to n xs) i (pos 0)) z ∙ pairs_second n xs k (omega arith)

-- from cell i on, b has the cells of a group
record Holds (b : List ℤ) (i : ℕ) (xs : List Row) : Type 0 where
  number : cell_at b i ≡ pos (length xs)
  one : (k : ℕ) → k < 11 → cell_at b (i + 1 + 2 * k) ≡ cell 1 (get_or xs k [])
  two : (k : ℕ) → k < 11 → cell_at b (i + 1 + (2 * k + 1)) ≡ cell 2 (get_or xs k [])

holds : (b : List ℤ) (i : ℕ) (xs : List Row) → ((j : ℕ) → j < 23 → cell_at b (i + j) ≡ cell_at (group_cells xs) j) → Holds b i xs
unfolding group_cells
holds b i xs h = record {
  number = (let z : i + 0 ≡ i = omega arith in ap (cell_at b) (sym z) ∙ h 0 (omega arith));
  one = λ k l. (let z : i + 1 + 2 * k ≡ i + suc (2 * k) = omega arith in ap (cell_at b) z ∙ h (suc (2 * k)) (omega arith) ∙ pairs_first 11 xs k l);
  two = λ k l. (let z : i + 1 + (2 * k + 1) ≡ i + suc (suc (2 * k)) = omega arith in ap (cell_at b) z ∙ h (suc (suc (2 * k))) (omega arith) ∙ pairs_second 11 xs k l);
}

-- ---- a curve, and costs, of a block
map_at : {A B : Type 0} (f : A → B) (d : A) (l : List A) (i : ℕ) → get_or (map f l) i (f d) ≡ f (get_or l i d)
map_at f d [] zero = refl
map_at f d [] (suc i) = refl
map_at f d (x ∷ l) zero = refl
map_at f d (x ∷ l) (suc i) = map_at f d l i

-- what is kept of lines, by index
pub kept_is : {X : Type 0} (n : ℕ) (f : Row → X) (g : ℕ → X) (xs : List Row) → ((q : ℕ) → q < n → g q ≡ f (get_or xs q [])) → listed g n ≡ kept n (f []) (map f xs)
unfolding kept
kept_is n f g xs h =
    sym (listed_is (f []) (kept n (f []) (map f xs)) g n (kept_length n (f []) (map f xs)) (λ q l. sets_read n (f []) (map f xs) q l ∙ map_at f [] xs q ∙ sym (h q l)))

step_by : {e e' p p' : ℤ} → e ≡ e' → p ≡ p' → ◌≡◌ {A = RawStep} (record { end = e; price = p }) (record { end = e'; price = p' })
step_by a b = cc

point_by : {e e' p p' : ℤ} → e ≡ e' → p ≡ p' → ◌≡◌ {A = Point} (record { mw = e; heat = p }) (record { mw = e'; heat = p' })
point_by a b = cc

raw_by : {s s' : ℤ} {n n' : ℕ} {l l' : List RawStep} → s ≡ s' → n ≡ n' → l ≡ l' → ◌≡◌ {A = RawCurve} (record { start = s; count = n; steps = l }) (record { start = s'; count = n'; steps = l' })
raw_by a b c = cc

raw_is : (b : List ℤ) (from : ℕ) (start : ℤ) (xs : List Row) → cell_at b from ≡ start → Holds b (from + 1) xs → raw_from b from ≡ bid_of start xs
raw_is b from start xs e h =
    raw_by e (ap nat_of h.number)
    (kept_is most_steps step_of (raw_step_at (drop (from + 2) b)) xs
    (λ k l. let z : from + 2 + 2 * k ≡ from + 1 + 1 + 2 * k = omega arith in
    let y : from + 2 + (2 * k + 1) ≡ from + 1 + 1 + (2 * k + 1) = omega arith in
    step_by (get_or-drop (from + 2) b (2 * k) (pos 0) ∙ ap (cell_at b) z ∙ h.one k l) (get_or-drop (from + 2) b (2 * k + 1) (pos 0) ∙ ap (cell_at b) y ∙ h.two k l)))

costs_by_lem : {n n' : ℕ} {l l' : List Point} {a b c d e f g a' b' c' d' e' f' g' : ℤ} → n ≡ n' → l ≡ l' → a ≡ a' → b ≡ b' → c ≡ c' → d ≡ d' → e ≡ e' → f ≡ f' → g ≡ g'
    → ◌≡◌ {A = Costs} (record { count = n; points = l; gas = a; rate = b; allowance = c; om = d; msc = e; soc = f; fee = g }) (record { count = n'; points = l'; gas = a'; rate = b'; allowance = c'; om = d'; msc = e'; soc = f'; fee = g' })
costs_by_lem n l a b c d e f g = cc

costs_is : (b : List ℤ) (xs : List Row) (x : Row) → Holds b 26 xs → ((j : ℕ) → j < 7 → cell_at b (49 + j) ≡ cell (suc j) x) → costs_in (nat_of (cell_at b 26)) (drop 27 b) (drop 49 b) ≡ costs_of xs x
unfolding costs_in
costs_is b xs x h c =
    let charge : (j : ℕ) → j < 7 → cell_at (drop 49 b) j ≡ cell (suc j) x = λ j l. get_or-drop 49 b j (pos 0) ∙ c j l in
    costs_by_lem (ap nat_of h.number)
    (kept_is most_points point_of (raw_point_at (drop 27 b)) xs
    (λ k l. let z : 27 + 2 * k ≡ 26 + 1 + 2 * k = omega arith in
    let y : 27 + (2 * k + 1) ≡ 26 + 1 + (2 * k + 1) = omega arith in
    point_by (get_or-drop 27 b (2 * k) (pos 0) ∙ ap (cell_at b) z ∙ h.one k l) (get_or-drop 27 b (2 * k + 1) (pos 0) ∙ ap (cell_at b) y ∙ h.two k l)))
    (charge 0 (omega arith)) (charge 1 (omega arith)) (charge 2 (omega arith)) (charge 3 (omega arith)) (charge 4 (omega arith)) (charge 5 (omega arith)) (charge 6 (omega arith))

resource_by : {p p' : ℤ} {b b' k k' : RawCurve} {s s' : Source} {c c' : Costs} → p ≡ p' → b ≡ b' → s ≡ s' → c ≡ c' → k ≡ k'
    → ◌≡◌ {A = Resource} (record { portfolio = p; bid = b; source = s; costs = c; pack = k }) (record { portfolio = p'; bid = b'; source = s'; costs = c'; pack = k' })
resource_by p b s c k = cc

-- ---- the block
module _ (u v : ℤ) (steps points : List Row) (costs : Row) where
  abbrev owned : List ℤ
  owned = sets blank 0 (u ∷ v ∷ [])

  abbrev bidden : List ℤ
  bidden = sets owned 2 (group_cells steps)

  abbrev heated : List ℤ
  heated = sets bidden 26 (group_cells points)

  abbrev pub filled : List ℤ
  filled = sets heated 49 (charge_cells costs)

  long_owned : length owned ≡ 80
  long_owned = length-sets blank 0 (u ∷ v ∷ []) ∙ listed_length (λ k. pos 0) 80

  long_bidden : length bidden ≡ 80
  long_bidden = length-sets owned 2 (group_cells steps) ∙ long_owned

  long_heated : length heated ≡ 80
  long_heated = length-sets bidden 26 (group_cells points) ∙ long_bidden

  blank_owned : (j : ℕ) → 2 ≤ j → j < 80 → cell_at owned j ≡ pos 0
  blank_owned j h l = sets_after (pos 0) blank 0 (u ∷ v ∷ []) j h ∙ listed_at (λ k. pos 0) (pos 0) 80 j l

  blank_bidden : (j : ℕ) → 25 ≤ j → j < 80 → cell_at bidden j ≡ pos 0
  blank_bidden j h l = sets_after (pos 0) owned 2 (group_cells steps) j (omega (arith, group_length steps)) ∙ blank_owned j (omega arith) l

  blank_heated : (j : ℕ) → 49 ≤ j → j < 80 → cell_at heated j ≡ pos 0
  blank_heated j h l = sets_after (pos 0) bidden 26 (group_cells points) j (omega (arith, group_length points)) ∙ blank_bidden j (omega arith) l

  portfolio_at : cell_at owned 0 ≡ u
  unfolding listed
  portfolio_at = refl

  start_at : cell_at owned 1 ≡ v
  unfolding listed
  start_at = refl

  -- cells before the charges, and before the points
  before_charges : (j : ℕ) → j < 49 → cell_at filled j ≡ cell_at heated j
  before_charges j h = sets_before (pos 0) heated 49 (charge_cells costs) j h

  before_points : (j : ℕ) → j < 26 → cell_at filled j ≡ cell_at bidden j
  before_points j h = before_charges j (omega arith) ∙ sets_before (pos 0) bidden 26 (group_cells points) j h

  before_steps : (j : ℕ) → j < 2 → cell_at filled j ≡ cell_at owned j
  before_steps j h = before_points j (omega arith) ∙ sets_before (pos 0) owned 2 (group_cells steps) j h

  holds_steps : Holds filled 2 steps
  holds_steps = holds filled 2 steps (λ j h.
      let z : 2 + j - 2 ≡ j = omega arith in
      before_points (2 + j) (omega arith) ∙ sets_onto (pos 0) owned 2 (group_cells steps) (2 + j) (omega arith) (omega (arith, long_owned)) (blank_owned (2 + j) (omega arith) (omega arith)) ∙ ap (cell_at (group_cells steps)) z)

  holds_points : Holds filled 26 points
  holds_points = holds filled 26 points (λ j h.
      let z : 26 + j - 26 ≡ j = omega arith in
      before_charges (26 + j) (omega arith) ∙ sets_onto (pos 0) bidden 26 (group_cells points) (26 + j) (omega arith) (omega (arith, long_bidden)) (blank_bidden (26 + j) (omega arith) (omega arith)) ∙ ap (cell_at (group_cells points)) z)

  charges_at : (j : ℕ) → j < 7 → cell_at filled (49 + j) ≡ cell (suc j) costs
  unfolding charge_cells
  charges_at j h =
      let z : 49 + j - 49 ≡ j = omega arith in
      sets_onto (pos 0) heated 49 (charge_cells costs) (49 + j) (omega arith) (omega (arith, long_heated)) (blank_heated (49 + j) (omega arith) (omega arith)) ∙ ap (cell_at (charge_cells costs)) z
      ∙ listed_at (λ k. cell (suc k) costs) (pos 0) 7 j h

  no_pack_lem : (j : ℕ) → 56 ≤ j → j < 80 → cell_at filled j ≡ pos 0
  no_pack_lem j h l = sets_after (pos 0) heated 49 (charge_cells costs) j (omega (arith, charge_length costs)) ∙ blank_heated j (omega arith) l

  holds_none : Holds filled 57 []
  holds_none = record {
    number = no_pack_lem 57 (omega arith) (omega arith);
    one = λ k l. no_pack_lem (57 + 1 + 2 * k) (omega arith) (omega arith) ∙ ap (cell 1) (sym (get_or-eq_default [] [] {n = k} (omega arith)));
    two = λ k l. no_pack_lem (57 + 1 + (2 * k + 1)) (omega arith) (omega arith) ∙ ap (cell 2) (sym (get_or-eq_default [] [] {n = k} (omega arith)));
  }

  pub decoded : resource_in filled ≡ resource_of (pos 0 ∷ u ∷ v ∷ []) steps points costs
  unfolding resource_in
  decoded =
      resource_by (before_steps 0 (omega arith) ∙ portfolio_at) (raw_is filled 1 v steps (before_steps 1 (omega arith) ∙ start_at) holds_steps)
      (ap source_of (before_points 25 (omega arith) ∙ blank_bidden 25 (omega arith) (omega arith)))
      (costs_is filled points costs holds_points charges_at)
      (raw_is filled 56 (pos 0) [] (no_pack_lem 56 (omega arith) (omega arith)) holds_none)

-- a block of zeros
pub decoded_blank : resource_in blank ≡ resource_of [] [] [] []
unfolding resource_in costs_in kept listed
decoded_blank = refl
