-- Rows that stand for an interval: the search over them is the search over the interval. Assumes nothing.
use mathlib.Core.Bool.{Bool, true, false, not, ◌||◌, cond}
use mathlib.Core.List.{List, ◌∷◌, ◌++◌, flat_map}
use mathlib.Core.Logic.{⊎_elim}
use mathlib.Core.Path.{◌≡◌, refl, sym, ap, ap₂, ◌∙◌}
use Prim.Native.Nat.{ℕ, zero, suc, ◌+◌, ◌-◌, ◌*◌, ◌/◌, ◌%◌, ◌≤◌, ◌<◌, zero-le}
use native.Mathlib.Nat.{le_trans, le_of_eq}
use native.Mathlib.Omega.{arith}
use borrow.Author.Tests.{le-leb, lt-leb, le-ltb, lt-ltb, eqb-true, eq-eqb}
use lib.Dec.{leb, ltb, eqb}
use lib.ListN.{length, replicate, get_or-replicate, length-append, length-replicate, get_or-append}
use lib.Seq.{sets, get_or-append-add}
use Rattle.rules_number.specs.Over.{listed}
use Rattle.rules_number.proofs.OverLaws.{le_or_lt, last_or_before, sum_same, all_same, listed_at, listed_same}
use Rattle.rules_interval.specs.Intervals.{interval_refusal}
use Rattle.rules_interval.specs.declared.Interval.{Interval}
use Rattle.rules_interval.proofs.IntervalLaws.{in_limits}
use Rattle.rules_path.specs.Judgements.{path_in}
use Rattle.rules_path.specs.Paths.{Path, at, binds, demand, supply, withholdable, offer, offers, top, total}
use Rattle.rules_path.specs.Verdicts.{bit}
use Rattle.rules_path.specs.declared.Market.{Market}
use Rattle.rules_page.proofs.WithinBound.{supply_few, withholdable_few}
use Rattle.rules_mask.specs.Masks.{is_in, is_within}
use Rattle.rules_mask.proofs.SizeLaws.{within_self}
use Rattle.rules_pivotal.specs.Pivotals.{net_sellers, withheld_by, leaves_short, is_short, works_in, first_to, need_of, floor_of, pivotal_in}
use Rattle.rules_pivotal.proofs.FloorLaws.{first_le, floor_below}
use Rattle.rules_pivotal.proofs.SamePivotal.{first_same, most_same, search_same}
use Rattle.rules_pivotal.proofs.SellerSets.{within_sellers}
use Rattle.rules_state.proofs.StandLaws.{stored_at, stored_past}
use Rattle.cells.proofs.PutLaws.{flat_last}
use Rattle.path.specs.Offered.{offer_width, offered_row, offered_cells}
use Rattle.path.proofs.OfferLaws.{row_length}
use Rattle.pivotal.specs.Rows.{Held, lack_at, offer_at, part_of, part_at, withheld_at, works_on, Floor, offers_at, need_at, floor_on, pivotal_on}

-- ---- blocks of w numbers, one after the other
module _ (f : ℕ → Path) (w : ℕ) (each : (i : ℕ) → length (offered_row (f i)) ≡ w) where
  blocks : ℕ → List ℕ
  blocks n = flat_map offered_row (listed f n)

  blocks_next : (n : ℕ) → blocks (suc n) ≡ blocks n ++ offered_row (f n)
  unfolding blocks listed
  blocks_next n = flat_last offered_row (listed f n) (f n)

  pub blocks_length : (n : ℕ) → length (flat_map offered_row (listed f n)) ≡ w * n
  unfolding blocks listed flat_map
  blocks_length zero = omega arith
  blocks_length (suc n) = ap length (blocks_next n) ∙ length-append (blocks n) (offered_row (f n)) ∙ omega (arith, blocks_length n, each n, native.Mathlib.Nat.mul-suc w n)

  pub blocks_at : (n c k : ℕ) → c < n → k < w → at (flat_map offered_row (listed f n)) (w * c + k) ≡ at (offered_row (f c)) k
  unfolding blocks
  blocks_at zero c k h l = absurd (omega arith)
  blocks_at (suc n) c k h l =
      ap (λ (x : List ℕ). at x (w * c + k)) (blocks_next n)
      ∙ ⊎_elim here (λ m. get_or-append (blocks n) (offered_row (f n)) 0 (w * c + k) (inside m) ∙ blocks_at n c k m l) (last_or_before c n h)
    where
      here : c ≡ n → at (blocks n ++ offered_row (f n)) (w * c + k) ≡ at (offered_row (f c)) k
      here e =
          let i : w * c + k ≡ length (blocks n) + k = omega (arith, blocks_length n, ap (λ (x : ℕ). w * x) e) in
          ap (at (blocks n ++ offered_row (f n))) i ∙ get_or-append-add (blocks n) (offered_row (f n)) k 0 ∙ ap (λ (x : ℕ). at (offered_row (f x)) k) (sym e)

      inside : c < n → w * c + k < length (blocks n)
      inside m = omega (arith, blocks_length n, native.Mathlib.Nat.mul-le-mul_left w m, native.Mathlib.Nat.mul-suc w c)

-- ---- the rows of an interval that none of 13 to 16 applies to
module _ (m : Market) (v : Interval) (rows : List ℕ) (passed : interval_refusal m.resources v ≡ 0) (rows_are : rows ≡ sets (replicate 544 0) 0 (offered_cells m v)) where
  few : v.constraints ≤ 32
  few = (in_limits m.resources v passed).constraints

  sizes : (c : ℕ) → length (offered_row (path_in m v c)) ≡ 17
  sizes c = row_length (path_in m v c) refl

  put_length : length (offered_cells m v) ≡ 17 * v.constraints
  unfolding offered_cells
  put_length = blocks_length (path_in m v) 17 sizes v.constraints

  row_at : (c k : ℕ) → c < v.constraints → k < 17 → at rows (17 * c + k) ≡ at (offered_row (path_in m v c)) k
  unfolding offered_cells
  row_at c k h l =
      let z : 17 * c + k ≡ 0 + (17 * c + k) = omega arith in
      rw rows_are (ap (at (sets (replicate 544 0) 0 (offered_cells m v))) z ∙ stored_at 0 (replicate 544 0) 0 (offered_cells m v) (omega (arith, put_length, few, length-replicate {A = ℕ} 544 0)) (17 * c + k) (omega (arith, put_length))
      ∙ blocks_at (path_in m v) 17 sizes v.constraints c k h l)

  -- ---- one row
  lack_is : (c : ℕ) → c < v.constraints → lack_at rows c ≡ cond (binds (path_in m v c)) (supply (path_in m v c) + 1 - demand (path_in m v c)) 0
  unfolding offered_row
  lack_is c h =
      let z : 17 * c ≡ 17 * c + 0 = omega arith in
      ap (at rows) z ∙ row_at c 0 h (omega arith) ∙ go (binds (path_in m v c))
    where
      go : (t : Bool) → at (cond t ((supply (path_in m v c) + 1 - demand (path_in m v c)) ∷ offers (path_in m v c)) (replicate offer_width 0)) 0 ≡ cond t (supply (path_in m v c) + 1 - demand (path_in m v c)) 0
      go true = refl
      go false = refl

  offer_is : (c p : ℕ) → c < v.constraints → p < 16 → offer_at rows c p ≡ cond (binds (path_in m v c)) (offer (path_in m v c) p) 0
  unfolding offered_row offers
  offer_is c p h l =
      let z : 17 * c + 1 + p ≡ 17 * c + suc p = omega arith in
      ap (at rows) z ∙ row_at c (suc p) h (omega arith) ∙ go (binds (path_in m v c))
    where
      go : (t : Bool) → at (cond t ((supply (path_in m v c) + 1 - demand (path_in m v c)) ∷ listed (offer (path_in m v c)) 16) (replicate offer_width 0)) (suc p) ≡ cond t (offer (path_in m v c) p) 0
      go true = listed_at (offer (path_in m v c)) 0 16 p l
      go false = get_or-replicate {A = ℕ} 17 (suc p) 0 0 (omega arith)

  -- ---- short: the least amount that leaves it so
  lack_test : (s d w : ℕ) → leb (s + 1 - d) w ≡ ltb s (d + w)
  lack_test s d w = ⊎_elim (λ l. le-leb (s + 1 - d) w l ∙ sym (lt-ltb s (d + w) (omega arith))) (λ l. lt-leb (s + 1 - d) w l ∙ sym (le-ltb s (d + w) (omega arith))) (le_or_lt (s + 1 - d) w)

  module _ (s : ℕ) (of : is_within (net_sellers m) s ≡ true) where
    -- a member is a net seller, and offers all that it can withhold
    part_same : (c p : ℕ) → p < 16 → cond (is_in p s) (offer (path_in m v c) p) 0 ≡ cond (is_in p s) (withholdable (path_in m v c) p) 0
    unfolding offer
    part_same c p l = go (is_in p s) refl
      where
        go : (t : Bool) → is_in p s ≡ t → cond t (cond (eqb (at m.seller p) 1) (withholdable (path_in m v c) p) 0) 0 ≡ cond t (withholdable (path_in m v c) p) 0
        go true e = ap (λ (t : Bool). cond t (withholdable (path_in m v c) p) 0) (eq-eqb (at m.seller p) 1 ((within_sellers m s).0 of p (eqb-true (bit p s) 1 e)).1)
        go false e = refl

    withheld_same : (c : ℕ) → c < v.constraints → binds (path_in m v c) ≡ true → withheld_at rows s c ≡ withheld_by (path_in m v c) s
    unfolding withheld_at withheld_by part_of
    withheld_same c h b =
        sum_same (part_at rows s c) (λ p. cond (is_in p s) (withholdable (path_in m v c) p) 0) 16
        (λ p l. ap (λ (x : ℕ). cond (is_in p s) x 0) (offer_is c p h l ∙ ap (λ (t : Bool). cond t (offer (path_in m v c) p) 0) b) ∙ part_same c p l)

    short_same : (c : ℕ) → c < v.constraints → leb (lack_at rows c) (withheld_at rows s c) ≡ is_short (path_in m v c) s
    unfolding leaves_short
    short_same c h = go (binds (path_in m v c)) refl
      where
        go : (t : Bool) → binds (path_in m v c) ≡ t → leb (lack_at rows c) (withheld_at rows s c) ≡ (not t || ltb (supply (path_in m v c)) (demand (path_in m v c) + withheld_by (path_in m v c) s))
        go true e =
            ap₂ leb (lack_is c h ∙ ap (λ (t : Bool). cond t (supply (path_in m v c) + 1 - demand (path_in m v c)) 0) e) (withheld_same c h e)
            ∙ lack_test (supply (path_in m v c)) (demand (path_in m v c)) (withheld_by (path_in m v c) s)
        go false e =
            let z : lack_at rows c ≡ 0 = lack_is c h ∙ ap (λ (t : Bool). cond t (supply (path_in m v c) + 1 - demand (path_in m v c)) 0) e in
            le-leb (lack_at rows c) (withheld_at rows s c) (omega arith)

    works_same : works_on rows v.constraints s ≡ works_in m v s
    unfolding works_on works_in
    works_same = all_same _ _ v.constraints short_same

  -- ---- what each constraint needs
  need_same : (c : ℕ) → c < v.constraints → need_at rows c ≡ need_of (path_in m v c)
  unfolding need_at need_of leaves_short offers_at offers
  need_same c h = go (binds (path_in m v c)) refl
    where
      offers_same : binds (path_in m v c) ≡ true → offers_at rows c ≡ offers (path_in m v c)
      offers_same e = listed_same (offer_at rows c) (offer (path_in m v c)) 16 (λ p l. offer_is c p h l ∙ ap (λ (t : Bool). cond t (offer (path_in m v c) p) 0) e)

      go : (t : Bool) → binds (path_in m v c) ≡ t
          → first_to (λ k. leb (lack_at rows c) (total (top k (offers_at rows c) 16))) 16 ≡ first_to (λ k. not (binds (path_in m v c)) || ltb (supply (path_in m v c)) (demand (path_in m v c) + total (top k (offers (path_in m v c)) 16))) 16
      go true e =
          first_same _ _
          (λ k.
          ap₂ leb (lack_is c h ∙ ap (λ (t : Bool). cond t (supply (path_in m v c) + 1 - demand (path_in m v c)) 0) e) (ap (λ (x : List ℕ). total (top k x 16)) (offers_same e))
          ∙ lack_test (supply (path_in m v c)) (demand (path_in m v c)) (total (top k (offers (path_in m v c)) 16))
          ∙ sym (ap (λ (t : Bool). not t || ltb (supply (path_in m v c)) (demand (path_in m v c) + total (top k (offers (path_in m v c)) 16))) e)) 16
      go false e =
          let z : lack_at rows c ≡ 0 = lack_is c h ∙ ap (λ (t : Bool). cond t (supply (path_in m v c) + 1 - demand (path_in m v c)) 0) e in
          let a = first_le (λ k. leb (lack_at rows c) (total (top k (offers_at rows c) 16))) 16 0 (le-leb (lack_at rows c) (total (top 0 (offers_at rows c) 16)) (omega arith)) in
          let b = first_le (λ k. not (binds (path_in m v c)) || ltb (supply (path_in m v c)) (demand (path_in m v c) + total (top k (offers (path_in m v c)) 16))) 16 0 (ap (λ (t : Bool). not t || ltb (supply (path_in m v c)) (demand (path_in m v c) + total (top 0 (offers (path_in m v c)) 16))) e) in
          omega arith

  floor_same : floor_on rows v.constraints ≡ floor_of m v
  unfolding floor_on floor_of
  floor_same = most_same (need_at rows) (λ c. need_of (path_in m v c)) v.constraints need_same

  -- ---- the search
  pub pivotal_same : (budget : ℕ) → pivotal_on rows v.constraints (net_sellers m) budget ≡ pivotal_in m v budget
  unfolding pivotal_on pivotal_in
  pivotal_same budget =
      rw (works_same (net_sellers m) (within_self (net_sellers m)), search_same (works_on rows v.constraints) (works_in m v) (net_sellers m) budget works_same, floor_same)

  -- ---- what the code asks for
  pub floor_ok : Floor rows v.constraints (net_sellers m) (floor_on rows v.constraints)
  floor_ok s of w = rw floor_same (floor_below m v s ((within_sellers m s).0 of) (sym (works_same s of) ∙ w))

  pub held : Held rows
  unfolding offer
  held i = ⊎_elim past inside (le_or_lt (17 * v.constraints) i)
    where
      past : 17 * v.constraints ≤ i → at rows i ≤ 64000000000001
      past l = rw rows_are (le_trans (le_of_eq (stored_past 0 (replicate 544 0) 0 (offered_cells m v) i (omega (arith, put_length)))) (blank i))
        where
          blank : (i : ℕ) → at (replicate 544 0) i ≤ 64000000000001
          blank i = le_trans (le_of_eq (Rattle.rules_path.proofs.TopLaws.zeros 544 i)) zero-le

      most : (c k : ℕ) → c < v.constraints → k < 17 → at rows (17 * c + k) ≤ 64000000000001
      most c zero h l =
          let z : 17 * c + 0 ≡ 17 * c = omega arith in
          le_trans (le_of_eq (ap (at rows) z ∙ lack_is c h)) (go (binds (path_in m v c)))
        where
          go : (t : Bool) → cond t (supply (path_in m v c) + 1 - demand (path_in m v c)) 0 ≤ 64000000000001
          go true = omega (arith, supply_few m v passed c h)
          go false = zero-le
      most c (suc p) h l =
          let z : 17 * c + suc p ≡ 17 * c + 1 + p = omega arith in
          le_trans (le_of_eq (ap (at rows) z ∙ offer_is c p h (omega arith))) (go (binds (path_in m v c)))
        where
          some : (t : Bool) → cond t (withholdable (path_in m v c) p) 0 ≤ 64000000000001
          some true = omega (arith, withholdable_few m v passed c h p)
          some false = zero-le

          go : (t : Bool) → cond t (offer (path_in m v c) p) 0 ≤ 64000000000001
          go true = some (eqb (at m.seller p) 1)
          go false = zero-le

      inside : i < 17 * v.constraints → at rows i ≤ 64000000000001
      inside l =
          let e : 17 * (i / 17) + i % 17 ≡ i = omega arith in
          rw (← e) (most (i / 17) (i % 17) (omega arith) (omega arith))
