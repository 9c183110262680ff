-- Cuts in cells. Assumes nothing.
use Rattle.std.specs.Prelude.{Option, Some}
use mathlib.Core.Bool.{Bool, true, false, cond}
use mathlib.Core.List.{List, [], ◌∷◌, ◌++◌, flat_map}
use mathlib.Core.Path.{◌≡◌, refl, sym, ap, ap₂, ◌∙◌}
use Prim.Native.Nat.{ℕ, zero, suc, ◌+◌, ◌≤◌, ◌<◌}
use borrow.Author.Tests.{lt-ltb, le-ltb}
use native.Mathlib.Numerals.{add-one}
use native.Mathlib.Omega.{arith}
use lib.Dec.{ltb}
use lib.IntN.{ℤ, pos, negsuc, neg_ℤ, ◌*ℤ◌}
use lib.ListN.{length, set, replicate}
use lib.Seq.{sets}
use Rattle.rules_number.specs.Order.{min_z}
use Rattle.rules_number.specs.Over.{sum_over, listed}
use Rattle.rules_mitigation.specs.Mitigation.{lowered}
use Rattle.rules_interval.specs.Intervals.{cell, dispatch_at, lmp_at, shadow_at, factor_at, interval_refusal}
use Rattle.rules_interval.specs.declared.Interval.{Interval}
use Rattle.rules_interval.proofs.IntervalLaws.{in_limits}
use Rattle.rules_library.specs.Slices.{cell_at}
use Rattle.rules_path.specs.Judgements.{path_in}
use Rattle.rules_path.specs.Paths.{is_non_competitive}
use Rattle.rules_path.specs.declared.Market.{Market}
use Rattle.rules_hour.specs.Cuts.{competitive_price, cut_from, cut_of, entering, component}
use Rattle.rules_state.specs.Layout.{most_resources, market_from, cause_width}
use Rattle.rules_state.specs.Intervals.{outputs_in}
use Rattle.rules_state.specs.States.{floor_of, mark_of, price_of}
use Rattle.rules_state.specs.Causes.{cause_of, cause_at, causes_cells}
use Rattle.rules_state.specs.Takes.{if_accepted, cut_cell, cuts_by, cuts_to}
use Rattle.rules_state.specs.Verdicts.{judged_cells}
use Rattle.rules_state.proofs.TakeLaws.{written_zero}
use Rattle.rules_state.proofs.WrittenSlices.{judged_finding}
use Rattle.interval.specs.Over.{output_at}
use Rattle.interval.specs.declared.Output.{Output}
use Rattle.interval.proofs.OverLaws.{over_at, over_first}
use Rattle.cutting.specs.Entering.{enters_by, entering_in, component_over, cut_over, cause_over}
use Rattle.cutting.specs.Places.{count_at}
use Rattle.cutting.proofs.EnteringLaws.{enters_is, entering_same}

-- ---- price and dispatch of a resource, as they are lent
module _ (outputs : List ℤ) (r : ℕ) (few : r < 64) (o : Output) (e : o ≡ output_at outputs r) where
  pub price_over : o.lmp ≡ cell (outputs_in outputs 0) r
  price_over = ap (λ (x : Output). x.lmp) e ∙ sym (over_first outputs r few)

  pub dispatch_over : o.dispatch ≡ cell (outputs_in outputs 1) r
  dispatch_over = ap (λ (x : Output). x.dispatch) e ∙ sym (over_at outputs 1 r few)

-- ---- a mark by its number
pub lower_marked : (mark before price : ℤ) → (mark ≡ pos 0 → ⊥) → price_of (lowered (floor_of mark before).price (Some price)) ≡ min_z before price
lower_marked (pos zero) before price h = absurd (h refl)
lower_marked (pos (suc n)) before price h = refl
lower_marked (negsuc n) before price h = refl

-- ---- a cut
pub cut_made : (from r : ℕ) (price : ℤ) (l next last : List ℤ) (mark before left : ℤ) → mark ≡ cell_at l (from + r) → before ≡ cell_at l (from + most_resources + r)
    → left ≡ price_of (lowered (floor_of mark before).price (Some price)) → next ≡ set l (from + r) (pos 1) → last ≡ set next (from + most_resources + r) left → last ≡ cut_cell from r (Some price) l
unfolding cut_cell
cut_made from r price l next last mark before left a b c d e = rw (e, d, c, a, b)

-- cuts that agree
pub cuts_same : (f g : ℕ → Option ℤ) (from n : ℕ) (l : List ℤ) → ((r : ℕ) → f r ≡ g r) → cuts_by f from n l ≡ cuts_by g from n l
unfolding cuts_by
cuts_same f g from zero l h = refl
cuts_same f g from (suc n) l h = ap₂ (cut_cell from n) (h n) (cuts_same f g from n l h)

-- a turn of the loop
pub cuts_next : (f : ℕ → Option ℤ) (from r : ℕ) (l next : List ℤ) (cut : Option ℤ) → cut ≡ f r → next ≡ cut_cell from r cut (cuts_by f from r l) → next ≡ cuts_by f from (r + 1) l
unfolding cuts_by
cuts_next f from r l next cut c e = rw (add-one r, e, c)

-- blocks that are the same
flat_same : {A B : Type 0} (f g : A → List B) (l : List A) → ((x : A) → f x ≡ g x) → flat_map f l ≡ flat_map g l
unfolding flat_map
flat_same f g [] h = refl
flat_same f g (x ∷ l) h = ap (λ (a : List _). a ++ flat_map f l) (h x) ∙ ap (λ (a : List _). g x ++ a) (flat_same f g l h)

-- ---- the cuts of an interval, by the list of the constraints that enter
module _ (m : Market) (v : Interval) (w : List ℤ) (few : v.constraints ≤ 32) (room : length w ≡ 640) where
  abbrev listing : List ℕ
  listing = entering_in (sets w 0 (judged_cells m v)) v.constraints

  -- the verdicts that were put list those that enter
  entering_are : listing ≡ entering m v
  unfolding entering
  entering_are =
      entering_same (sets w 0 (judged_cells m v)) (λ c. is_non_competitive (path_in m v c)) v.constraints
      (λ c h. ap enters_by (judged_finding m v w few (omega arith) c h) ∙ enters_is (path_in m v c))

  component_is : (r : ℕ) → component_over v.factors v.shadow listing r ≡ component m v r
  unfolding component_over component
  component_is r = ap (λ (l : List ℕ). neg_ℤ (sum_over (λ c. factor_at v r c *ℤ shadow_at v c) l)) entering_are

  cuts_are : (from n : ℕ) (l : List ℤ) → cuts_by (cut_over v listing) from n l ≡ cuts_to m v from n l
  unfolding cut_of
  cuts_are from n l =
      cuts_same (cut_over v listing) (cut_of m v) from n l
      (λ r. ap (λ (z : ℤ). cut_from (dispatch_at v r) (lmp_at v r) z v.parameter) (component_is r))

  -- and the causes
  module _ (same : v.resources ≡ m.resources) where
    cause_is : (r : ℕ) → cause_over v listing r ≡ cause_at m v r
    unfolding cause_over cause_at cause_of cut_of
    cause_is r =
        ap₂ (λ (n : ℕ) (z : ℤ). cond (ltb r n) (mark_of (cut_from (dispatch_at v r) (lmp_at v r) z v.parameter) ∷ z ∷ competitive_price (lmp_at v r) z ∷ price_of (cut_from (dispatch_at v r) (lmp_at v r) z v.parameter) ∷ []) (replicate cause_width (pos 0)))
        same (component_is r)

    causes_are : flat_map (cause_over v listing) (listed (λ r. r) most_resources) ≡ causes_cells m v
    unfolding causes_cells
    causes_are = flat_same (cause_over v listing) (cause_at m v) (listed (λ r. r) most_resources) cause_is

-- ---- an interval that none of 13 to 16 refuses: its verdicts stand at the front of w
module _ (m : Market) (v : Interval) (w verdicts : List ℤ) (list : List ℕ) (sound : interval_refusal m.resources v ≡ 0) (room : length w ≡ 640)
    (a : verdicts ≡ if_accepted (interval_refusal m.resources v) (sets w 0 (judged_cells m v)) w) (b : list ≡ entering_in verdicts v.constraints) where
  same_list : list ≡ entering_in (sets w 0 (judged_cells m v)) v.constraints
  same_list = b ∙ ap (λ (y : List ℤ). entering_in y v.constraints) (a ∙ written_zero (interval_refusal m.resources v) (sets w 0 (judged_cells m v)) w sound)

  same_count : v.resources ≡ m.resources
  same_count = (in_limits m.resources v sound).count

  few_constraints : v.constraints ≤ 32
  few_constraints = (in_limits m.resources v sound).constraints

  pub taken_cells : (l : List ℤ) (from : ℕ) → cuts_by (cut_over v list) from v.resources l ≡ cuts_to m v from m.resources l
  taken_cells l from = ap₂ (λ (k : ℕ) (y : List ℕ). cuts_by (cut_over v y) from k l) same_count same_list ∙ cuts_are m v w few_constraints room from m.resources l

  pub taken_causes : flat_map (cause_over v list) (listed (λ r. r) most_resources) ≡ causes_cells m v
  taken_causes = ap (λ (y : List ℕ). flat_map (cause_over v y) (listed (λ r. r) most_resources)) same_list ∙ causes_are m v w few_constraints room same_count

pub count_low : (pass : Bool) → count_at pass + 1 ≤ market_from
count_low true = omega arith
count_low false = omega arith

-- ---- the numbers of a cause
module _ (v : Interval) (l : List ℕ) (r : ℕ) where
  abbrev c : ℤ
  c = component_over v.factors v.shadow l r

  abbrev cut : Option ℤ
  cut = cut_over v l r

  pub cause_room_lem : length (cause_over v l r) ≡ cause_width
  unfolding cause_over
  cause_room_lem = go (ltb r v.resources)
    where
      go : (t : Bool) → length (cond t (mark_of cut ∷ c ∷ competitive_price (lmp_at v r) c ∷ price_of cut ∷ []) (replicate cause_width (pos 0))) ≡ cause_width
      go true = refl
      go false = refl

  pub cause_there : r < v.resources → (mark component competitive price : ℤ) → mark ≡ mark_of cut → component ≡ c → competitive ≡ competitive_price (lmp_at v r) c → price ≡ price_of cut
      → mark ∷ component ∷ competitive ∷ price ∷ [] ≡ cause_over v l r
  unfolding cause_over
  cause_there h mark component competitive price e f g k = rw (lt-ltb r v.resources h, e, f, g, k)

  pub no_cause : v.resources ≤ r → replicate cause_width (pos 0) ≡ cause_over v l r
  unfolding cause_over
  no_cause h = rw (le-ltb r v.resources h)

pub four_put : (s one two three out : List ℤ) (at : ℕ) (a b c d : ℤ) → one ≡ set s at a → two ≡ set one (at + 1) b → three ≡ set two (at + 2) c → out ≡ set three (at + 3) d → out ≡ sets s at (a ∷ b ∷ c ∷ d ∷ [])
four_put s one two three out at a b c d e f g h =
    let x : at + 1 ≡ suc at = omega arith in
    let y : at + 2 ≡ suc (suc at) = omega arith in
    let z : at + 3 ≡ suc (suc (suc at)) = omega arith in
    rw (h, g, f, e, x, y, z)
