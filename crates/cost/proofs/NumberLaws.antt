-- Costs as they stand in slices of numbers. Assumes nothing.
use mathlib.Core.Bool.{Bool, cond, ◌&&◌}
use mathlib.Core.List.{List}
use mathlib.Core.Path.{◌≡◌, refl, sym, ap, ap₂, ◌∙◌}
use Prim.Native.Nat.{ℕ, zero, suc, ◌+◌, ◌*◌, ◌-◌, ◌≤◌, ◌<◌}
use native.Mathlib.Omega.{arith}
use lib.Dec.{ltb}
use lib.IntN.{ℤ, pos}
use lib.ListN.{length, get_or, set, length-set}
use lib.Seq.{get_or-set_same, get_or-set_other}
use mathlib.Core.Logic.{⊎_elim}
use lib.Signed.{lt_z}
use Rattle.rules_number.specs.Over.{listed}
use Rattle.rules_number.proofs.OverLaws.{last_or_before, listed_at, listed_same}
use Rattle.rules_cost.specs.Costs.{most_points, blank_point, point_at, mw_at, heat_at, mark, is_split, first_to, split_at}
use Rattle.rules_cost.specs.declared.Point.{Point}
use Rattle.rules_cost.specs.declared.Costs.{Costs}
use Rattle.rules_library.specs.Slices.{cell_at, raw_point_at, points_in, costs_in}
use Rattle.cost.specs.Cells.{charge_count, charges_of, point_of, splits_at}

-- the costs, with their parts in sight
abbrev pub costs_by : ℕ → List ℤ → List ℤ → Costs
costs_by n points charges = record {
  count = n;
  points = points_in points;
  gas = cell_at charges 0;
  rate = cell_at charges 1;
  allowance = cell_at charges 2;
  om = cell_at charges 3;
  msc = cell_at charges 4;
  soc = cell_at charges 5;
  fee = cell_at charges 6;
}

module _ (n : ℕ) (points charges : List ℤ) where
  pub in_sight : costs_in n points charges ≡ costs_by n points charges
  unfolding costs_in
  in_sight = refl

  -- point i
  pub point_in : (i : ℕ) → i < most_points → point_at (costs_by n points charges) i ≡ raw_point_at points i
  point_in i h = listed_at (raw_point_at points) blank_point most_points i h

  pub mw_at_lem : (i : ℕ) → i < most_points → cell_at points (2 * i) ≡ mw_at (costs_by n points charges) i
  mw_at_lem i h = sym (ap (λ (p : Point). p.mw) (point_in i h))

  pub heat_at_lem : (i : ℕ) → i < most_points → cell_at points (2 * i + 1) ≡ heat_at (costs_by n points charges) i
  heat_at_lem i h = sym (ap (λ (p : Point). p.heat) (point_in i h))

  -- the next one
  pub next_mw : (i : ℕ) → suc i < most_points → cell_at points (2 * i + 2) ≡ mw_at (costs_by n points charges) (suc i)
  next_mw i h = let e : 2 * i + 2 ≡ 2 * suc i = omega arith in ap (cell_at points) e ∙ mw_at_lem (suc i) h

  pub next_heat : (i : ℕ) → suc i < most_points → cell_at points (2 * i + 3) ≡ heat_at (costs_by n points charges) (suc i)
  next_heat i h = let e : 2 * i + 3 ≡ 2 * suc i + 1 = omega arith in ap (cell_at points) e ∙ heat_at_lem (suc i) h

-- the first number of which one holds, where the tests agree
first_same : (f g : ℕ → Bool) (n : ℕ) → ((i : ℕ) → i < n → f i ≡ g i) → first_to f n ≡ first_to g n
unfolding first_to
first_same f g zero h = refl
first_same f g (suc n) h =
    ap₂ (λ (r : ℕ) (b : Bool). cond (ltb r n) r (cond b n (suc n))) (first_same f g n (λ i l. h i (omega arith))) (h n (omega arith))

-- the segment that the mark splits
pub split_by : (n : ℕ) (points charges : List ℤ) (k : ℤ) (segments : ℕ) → n ≤ most_points → segments ≡ n - 1 → k ≡ mark (costs_by n points charges) → first_to (splits_at points k) segments ≡ split_at (costs_by n points charges)
unfolding split_at
split_by n points charges k segments few e m =
    let d = costs_by n points charges in
    rw e (first_same (splits_at points k) (is_split d) (n - 1) (λ i h.
    ap₂ ◌&&◌ (ap₂ lt_z (mw_at_lem n points charges i (omega arith)) m) (ap₂ lt_z m (next_mw n points charges i (omega arith)))))

-- ---- numbers that are copied
module _ (points : List ℤ) where
  copied_cell : (m k : ℕ) → k < m → cell_at (listed (λ j. cell_at points (0 + j)) m) k ≡ cell_at points k
  copied_cell m k h = let z : 0 + k ≡ k = omega arith in listed_at (λ j. cell_at points (0 + j)) (pos 0) m k h ∙ ap (cell_at points) z

  copied_point : (k : ℕ) → k < most_points → raw_point_at (listed (λ j. cell_at points (0 + j)) (2 * most_points)) k ≡ raw_point_at points k
  copied_point k h = ap₂ point_of (copied_cell (2 * most_points) (2 * k) (omega arith)) (copied_cell (2 * most_points) (2 * k + 1) (omega arith))

pub copied : (n : ℕ) (points charges : List ℤ) → costs_in n (listed (λ k. cell_at points (0 + k)) (2 * most_points)) (listed (λ k. cell_at charges (0 + k)) charge_count) ≡ costs_in n points charges
unfolding costs_in
copied n points charges =
    let p : points_in (listed (λ k. cell_at points (0 + k)) (2 * most_points)) ≡ points_in points = listed_same (raw_point_at (listed (λ j. cell_at points (0 + j)) (2 * most_points))) (raw_point_at points) most_points (copied_point points) in
    let at : (k : ℕ) → k < 7 → cell_at (listed (λ j. cell_at charges (0 + j)) 7) k ≡ cell_at charges k = copied_cell charges 7 in
    let a = at 0 (omega arith) in
    let b = at 1 (omega arith) in
    let c = at 2 (omega arith) in
    let d = at 3 (omega arith) in
    let e = at 4 (omega arith) in
    let f = at 5 (omega arith) in
    let g = at 6 (omega arith) in
    by_parts n p a b c d e f g
  where
    by_parts : (n : ℕ) {p p' : List Point} {a a' b b' c c' d d' e e' f f' g g' : ℤ} → p ≡ p' → a ≡ a' → b ≡ b' → c ≡ c' → d ≡ d' → e ≡ e' → f ≡ f' → g ≡ g'
        → ◌≡◌ {A = Costs} (record { count = n; points = p; gas = a; rate = b; allowance = c; om = d; msc = e; soc = f; fee = g })
        (record { count = n; points = p'; gas = a'; rate = b'; allowance = c'; om = d'; msc = e'; soc = f'; fee = g' })
    by_parts n p a b c d e f g = cc

-- ---- costs put into numbers
pub costs_again : (c : Costs) (points charges : List ℤ) → points_in points ≡ c.points → charges ≡ charges_of c → costs_in c.count points charges ≡ c
unfolding costs_in
costs_again c points charges e f = ap₂ (λ (p : List Point) (h : List ℤ). with_points p (costs_by c.count points h)) e f
  where
    with_points : List Point → Costs → Costs
    with_points p d = record { count = d.count; points = p; gas = d.gas; rate = d.rate; allowance = d.allowance; om = d.om; msc = d.msc; soc = d.soc; fee = d.fee }

-- one point after another
pub point_next : (p : List Point) (l : List ℤ) (i : ℕ) (x y : ℤ) → length l ≡ 2 * most_points → i < most_points → x ≡ (get_or p i blank_point).mw → y ≡ (get_or p i blank_point).heat
    → ((j : ℕ) → j < i → raw_point_at l j ≡ get_or p j blank_point)
    → (j : ℕ) → j < i + 1 → raw_point_at (set (set l (2 * i) x) (2 * i + 1) y) j ≡ get_or p j blank_point
point_next p l i x y n h e f before j b =
    let out = set (set l (2 * i) x) (2 * i + 1) y in
    ⊎_elim
    (λ q. rw q (ap₂ point_of
    (get_or-set_other (set l (2 * i) x) (2 * i + 1) (2 * i) y (pos 0) (λ z. omega arith) ∙ get_or-set_same l (2 * i) x (pos 0) (omega arith) ∙ e)
    (get_or-set_same (set l (2 * i) x) (2 * i + 1) y (pos 0) (omega (arith, length-set l (2 * i) x)) ∙ f)))
    (λ k. ap₂ point_of (apart (2 * j) (λ z. omega arith) (λ z. omega arith)) (apart (2 * j + 1) (λ z. omega arith) (λ z. omega arith)) ∙ before j k)
    (last_or_before j i (omega arith))
  where
    apart : (k : ℕ) → (k ≡ 2 * i + 1 → ⊥) → (k ≡ 2 * i → ⊥) → cell_at (set (set l (2 * i) x) (2 * i + 1) y) k ≡ cell_at l k
    apart k u v = get_or-set_other (set l (2 * i) x) (2 * i + 1) k y (pos 0) u ∙ get_or-set_other l (2 * i) k x (pos 0) v
