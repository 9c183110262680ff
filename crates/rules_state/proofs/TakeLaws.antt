-- What an accepted interval, and an accepted pass, write to the cells of an hour makes of it the hour after them, and nothing else of it changes. Assumes nothing.
use Rattle.std.specs.Prelude.{None, Option, Some}
use mathlib.Core.List.{List}
use mathlib.Core.Logic.{◌⊎◌, inl, inr, ⊎_elim}
use mathlib.Core.Path.{◌≡◌, refl, sym, ap, ap₂, ◌∙◌}
use Prim.Native.Nat.{ℕ, zero, suc, ◌+◌, ◌≤◌, ◌<◌}
use native.Mathlib.Decide.{ℕ_discrete}
use native.Mathlib.Omega.{arith}
use borrow.Author.Tests.{ltb-true}
use lib.Dec.{ltb}
use lib.IntN.{ℤ, pos}
use lib.ListN.{length, get_or, set, length-set}
use lib.Seq.{sets, length-sets, get_or-set_same, get_or-set_other}
use Rattle.rules_number.specs.Order.{nat_of}
use Rattle.rules_number.specs.Over.{listed, up_to}
use Rattle.rules_number.proofs.ListedLaws.{listed_is}
use Rattle.rules_number.proofs.OverLaws.{both, listed_at, listed_length, up_to_at, up_to_step}
use Rattle.rules_curve.proofs.CheckLaws.{then_both, unless_holds}
use Rattle.rules_mitigation.specs.Mitigation.{lowered}
use Rattle.rules_interval.specs.Intervals.{interval_refusal}
use Rattle.rules_interval.specs.declared.Interval.{Interval}
use Rattle.rules_interval.proofs.IntervalLaws.{in_limits}
use Rattle.rules_hour.specs.Cuts.{cut_of}
use Rattle.rules_hour.specs.Hours.{uncut, cut_floor, next_standing, call_refusal, standing_after}
use Rattle.rules_hour.specs.declared.Floor.{Floor}
use Rattle.rules_pass.specs.Passes.{turn_refusal, next_quarter, quarter_after}
use Rattle.rules_page.proofs.SameValues.{same_quantity}
use Rattle.rules_library.specs.Slices.{cell_at}
use Rattle.rules_state.specs.Layout.{most_resources, counted_room, quarter_from, market_from}
use Rattle.rules_state.specs.States.{floor_of, price_of, cell_of, floors_in, standing_in, quarter_in, market_in, rows_in}
use Rattle.rules_state.specs.Takes.{if_accepted, floor_from, cut_cell, cuts_by, standing_written, quarter_written}
use Rattle.rules_state.proofs.SameCells.{floors_full, floors_same, standing_same, market_same, rows_same}

-- ---- what is written where a number is 0, and where it isn't
pub written_zero : {A : Type 0} (n : ℕ) (a b : A) → n ≡ 0 → if_accepted n a b ≡ a
written_zero n a b e = rw e

pub not_written : {A : Type 0} (n : ℕ) (a b : A) → 0 < n → if_accepted n a b ≡ b
not_written zero a b h = absurd (omega arith)
not_written (suc n) a b h = refl

pub accepted_length : {A : Type 0} (n : ℕ) (l : List A) (i : ℕ) (a : List A) → length (if_accepted n (sets l i a) l) ≡ length l
accepted_length zero l i a = length-sets l i a
accepted_length (suc n) l i a = refl

-- ---- one cut: mark and price of its resource, and no other cell
pub cut_length : (from r : ℕ) (cut : Option ℤ) (l : List ℤ) → length (cut_cell from r cut l) ≡ length l
unfolding cut_cell
cut_length from r None l = refl
cut_length from r (Some x) l = length-set (set l (from + r) (pos 1)) (from + most_resources + r) _ ∙ length-set l (from + r) (pos 1)

cut_other : (from r : ℕ) (cut : Option ℤ) (l : List ℤ) (k : ℕ) → (k ≡ from + r → ⊥) → (k ≡ from + most_resources + r → ⊥) → cell_at (cut_cell from r cut l) k ≡ cell_at l k
unfolding cut_cell
cut_other from r None l k a b = refl
cut_other from r (Some x) l k a b = get_or-set_other (set l (from + r) (pos 1)) (from + most_resources + r) k _ (pos 0) b ∙ get_or-set_other l (from + r) k (pos 1) (pos 0) a

uncut_kept : (from r : ℕ) (l : List ℤ) (k : ℕ) → cell_at (cut_cell from r None l) k ≡ cell_at l k
unfolding cut_cell
uncut_kept from r l k = refl

-- a floor price in its two cells, after the cut x
cut_floor_back : (k : Floor) (x : ℤ) → floor_of (pos 1) (price_of (lowered k.price (Some x))) ≡ cut_floor (Some x) k
cut_floor_back k x = go k.price
  where
    go : (f : Option ℤ) → floor_of (pos 1) (price_of (lowered f (Some x))) ≡ record { price = lowered f (Some x) }
    go None = refl
    go (Some y) = refl

-- the floor price of a resource in cells
abbrev floor_at : List ℤ → ℕ → ℕ → Floor
floor_at l from r = floor_of (cell_at l (from + r)) (cell_at l (from + most_resources + r))

cut_here : (from r : ℕ) (cut : Option ℤ) (l : List ℤ) → r < most_resources → from + most_resources + most_resources ≤ length l → floor_at (cut_cell from r cut l) from r ≡ cut_floor cut (floor_at l from r)
unfolding cut_cell
cut_here from r None l h long = refl
cut_here from r (Some x) l h long =
    let once = set l (from + r) (pos 1) in
    let p = price_of (lowered (floor_from l from r) (Some x)) in
    let a : cell_at (set once (from + most_resources + r) p) (from + r) ≡ pos 1 =
    get_or-set_other once (from + most_resources + r) (from + r) p (pos 0) (λ e. omega arith) ∙ get_or-set_same l (from + r) (pos 1) (pos 0) (omega arith) in
    let b : cell_at (set once (from + most_resources + r) p) (from + most_resources + r) ≡ p =
    get_or-set_same once (from + most_resources + r) p (pos 0) (omega (arith, length-set l (from + r) (pos 1))) in
    rw (a, b) (cut_floor_back (floor_at l from r) x)

cut_elsewhere : (from r : ℕ) (cut : Option ℤ) (l : List ℤ) (q : ℕ) → r < most_resources → q < most_resources → (q ≡ r → ⊥) → floor_at (cut_cell from r cut l) from q ≡ floor_at l from q
cut_elsewhere from r cut l q h k n =
    ap₂ floor_of (cut_other from r cut l (from + q) (λ e. n (omega arith)) (λ e. absurd (omega arith)))
    (cut_other from r cut l (from + most_resources + q) (λ e. absurd (omega arith)) (λ e. n (omega arith)))

-- of all floor prices it sets its own
one_cut : (from r : ℕ) (cut : Option ℤ) (l : List ℤ) → r < most_resources → from + most_resources + most_resources ≤ length l
    → set (floors_in l from) r (cut_floor cut (get_or (floors_in l from) r uncut)) ≡ floors_in (cut_cell from r cut l) from
unfolding floors_in
one_cut from r cut l h long =
    listed_is uncut (set floors r new) (floor_at (cut_cell from r cut l) from) most_resources (length-set floors r new ∙ many) (λ q m. go q m (ℕ_discrete q r))
  where
    floors : List Floor
    floors = listed (floor_at l from) most_resources

    new : Floor
    new = cut_floor cut (get_or floors r uncut)

    many : length floors ≡ most_resources
    many = listed_length (floor_at l from) most_resources

    go : (q : ℕ) → q < most_resources → Dec (q ≡ r) → get_or (set floors r new) q uncut ≡ floor_at (cut_cell from r cut l) from q
    go q m (yes e) =
        rw e (get_or-set_same floors r new uncut (omega (arith, many)) ∙ ap (cut_floor cut) (listed_at (floor_at l from) uncut most_resources r h) ∙ sym (cut_here from r cut l h long))
    go q m (no e) = get_or-set_other floors r q new uncut e ∙ listed_at (floor_at l from) uncut most_resources q m ∙ sym (cut_elsewhere from r cut l q h m e)

-- ---- the cuts of n resources
module _ (f : ℕ → Option ℤ) (from : ℕ) where
  pub cuts_length : (n : ℕ) (l : List ℤ) → length (cuts_by f from n l) ≡ length l
  unfolding cuts_by
  cuts_length zero l = refl
  cuts_length (suc n) l = cut_length from n (f n) (cuts_by f from n l) ∙ cuts_length n l

  -- cells before the marks and past the prices are as they were
  pub cuts_outside : (n : ℕ) (l : List ℤ) → n ≤ most_resources → (k : ℕ) → (k < from) ⊎ (from + most_resources + most_resources ≤ k) → cell_at (cuts_by f from n l) k ≡ cell_at l k
  unfolding cuts_by
  cuts_outside zero l h k o = refl
  cuts_outside (suc n) l h k o =
      cut_other from n (f n) (cuts_by f from n l) k (λ e. ⊎_elim (λ m. omega arith) (λ m. omega arith) o) (λ e. ⊎_elim (λ m. omega arith) (λ m. omega arith) o)
      ∙ cuts_outside n l (omega arith) k o

  -- and mark and price of a resource without a cut are too
  pub cuts_kept : (n : ℕ) (l : List ℤ) → n ≤ most_resources → (r : ℕ) → r < most_resources → f r ≡ None
      → (k : ℕ) → (k ≡ from + r) ⊎ (k ≡ from + most_resources + r) → cell_at (cuts_by f from n l) k ≡ cell_at l k
  unfolding cuts_by
  cuts_kept zero l h r m u k o = refl
  cuts_kept (suc n) l h r m u k o = go (ℕ_discrete n r) ∙ cuts_kept n l (omega arith) r m u k o
    where
      go : Dec (n ≡ r) → cell_at (cut_cell from n (f n) (cuts_by f from n l)) k ≡ cell_at (cuts_by f from n l) k
      go (yes e) = ap (λ (x : Option ℤ). cell_at (cut_cell from n x (cuts_by f from n l)) k) (ap f e ∙ u) ∙ uncut_kept from n (cuts_by f from n l) k
      go (no e) =
          cut_other from n (f n) (cuts_by f from n l) k (λ z. ⊎_elim (λ y. e (omega arith)) (λ y. omega arith) o) (λ z. ⊎_elim (λ y. omega arith) (λ y. e (omega arith)) o)

  -- each floor price is cut
  pub cuts_floors : (n : ℕ) (l : List ℤ) → n ≤ most_resources → from + most_resources + most_resources ≤ length l
      → floors_in (cuts_by f from n l) from ≡ up_to (λ r x. cut_floor (f r) x) 0 n (floors_in l from)
  unfolding cuts_by up_to
  cuts_floors zero l h long = refl
  cuts_floors (suc n) l h long =
      let step : ℕ → Floor → Floor = λ r x. cut_floor (f r) x in
      let ih = cuts_floors n l (omega arith) long in
      let z : 0 + n ≡ n = omega arith in
      sym (one_cut from n (f n) (cuts_by f from n l) (omega arith) (omega (arith, cuts_length n l)))
      ∙ rw (ih, up_to_at step uncut 0 n (floors_in l from)) (rw z at (up_to_step step uncut 0 n (floors_in l from) (omega (arith, floors_full l from))))

-- ---- and the count: standing or quarter hour from cell b on
module _ (f : ℕ → Option ℤ) (b n : ℕ) (few : n ≤ most_resources) (l : List ℤ) (count : ℤ) where
  abbrev cuts : List ℤ
  cuts = cuts_by f (b + 1) n l

  abbrev after : List ℤ
  after = set cuts b count

  pub counted_length : length after ≡ length l
  counted_length = length-set cuts b count ∙ cuts_length f (b + 1) n l

  pub counted_outside : (k : ℕ) → (k < b) ⊎ (b + counted_room ≤ k) → cell_at after k ≡ cell_at l k
  counted_outside k o =
      get_or-set_other cuts b k count (pos 0) (λ e. ⊎_elim (λ m. omega arith) (λ m. omega arith) o)
      ∙ cuts_outside f (b + 1) n l few k (⊎_elim (λ m. inl (omega arith)) (λ m. inr (omega arith)) o)

  -- of standing and quarter hour, the cells of a resource without a cut are as they were
  pub counted_kept : (r : ℕ) → r < most_resources → f r ≡ None → (k : ℕ) → (k ≡ b + 1 + r) ⊎ (k ≡ b + 1 + most_resources + r) → cell_at after k ≡ cell_at l k
  counted_kept r m u k o =
      get_or-set_other cuts b k count (pos 0) (λ e. ⊎_elim (λ y. omega arith) (λ y. omega arith) o) ∙ cuts_kept f (b + 1) n l few r m u k o

  counted_count : b < length l → cell_at after b ≡ count
  counted_count h = get_or-set_same cuts b count (pos 0) (omega (arith, cuts_length f (b + 1) n l))

  counted_floors : b + counted_room ≤ length l → floors_in after (b + 1) ≡ up_to (λ r x. cut_floor (f r) x) 0 n (floors_in l (b + 1))
  counted_floors h =
      floors_same after cuts (b + 1) (λ i m o. get_or-set_other cuts b i count (pos 0) (λ e. omega arith))
      ∙ cuts_floors f (b + 1) n l few (omega arith)

-- ---- an accepted interval: it needs the 129 cells of the standing
module _ (l : List ℤ) (v : Interval) (sound : call_refusal (market_in l) (standing_in l) v ≡ 0) where
  interval_sound : ((standing_in l).accepted < 4) × (interval_refusal (market_in l).resources v ≡ 0)
  unfolding call_refusal
  interval_sound =
      let z = then_both _ (interval_refusal (market_in l).resources v) sound in
      (ltb-true (standing_in l).accepted 4 (unless_holds (ltb (standing_in l).accepted 4) 11 z.0), z.1)

  resources_few : (market_in l).resources ≤ most_resources
  resources_few = let i = in_limits (market_in l).resources v interval_sound.1 in omega (arith, i.count, i.few)

  pub standing_length : length (standing_written l v) ≡ length l
  unfolding standing_written
  standing_length = counted_length (cut_of (market_in l) v) 0 (market_in l).resources resources_few l (cell_of ((standing_in l).accepted + 1))

  -- no cell past the standing is touched
  pub standing_past : (k : ℕ) → quarter_from ≤ k → cell_at (standing_written l v) k ≡ cell_at l k
  unfolding standing_written
  standing_past k h = counted_outside (cut_of (market_in l) v) 0 (market_in l).resources resources_few l (cell_of ((standing_in l).accepted + 1)) k (inr h)

  -- nor mark or price of a resource that the interval doesn't cut
  pub standing_kept : (r : ℕ) → r < most_resources → cut_of (market_in l) v r ≡ None → (k : ℕ) → (k ≡ 1 + r) ⊎ (k ≡ 65 + r) → cell_at (standing_written l v) k ≡ cell_at l k
  unfolding standing_written
  standing_kept r m u k o = counted_kept (cut_of (market_in l) v) 0 (market_in l).resources resources_few l (cell_of ((standing_in l).accepted + 1)) r m u k o

  pub standing_next : counted_room ≤ length l → standing_in (standing_written l v) ≡ next_standing (market_in l) (standing_in l) v
  unfolding standing_written standing_in next_standing
  standing_next h =
      let a = nat_of (cell_at l 0) in
      let few : a < 4 = interval_sound.0 in
      let count = cell_of (a + 1) in
      let f = cut_of (market_in l) v in
      let n = (market_in l).resources in
      let c : nat_of (cell_at (set (cuts_by f 1 n l) 0 count) 0) ≡ a + 1 = ap nat_of (counted_count f 0 n resources_few l count (omega arith)) ∙ same_quantity (a + 1) (omega arith) in
      rw (c, counted_floors f 0 n resources_few l count h)

  pub standing_after_lem : counted_room ≤ length l → standing_in (standing_written l v) ≡ standing_after (market_in l) (standing_in l) v
  unfolding standing_after
  standing_after_lem h = standing_next h ∙ sym (rw sound)

  pub standing_market : market_in (standing_written l v) ≡ market_in l
  standing_market = market_same (standing_written l v) l (λ i h. standing_past i (omega arith))

  pub standing_rows : rows_in (standing_written l v) ≡ rows_in l
  standing_rows = rows_same (standing_written l v) l (λ i h. standing_past i (omega arith))

-- ---- an accepted pass: it needs the 129 cells of the quarter hour too
module _ (l : List ℤ) (v : Interval) (sound : turn_refusal (market_in l) (standing_in l).accepted (quarter_in l) v ≡ 0) where
  pass_sound : ((quarter_in l).passes < 3) × (interval_refusal (market_in l).resources v ≡ 0)
  unfolding turn_refusal
  pass_sound =
      let z = then_both _ (interval_refusal (market_in l).resources v) sound in
      let t = both (ltb 0 (standing_in l).accepted) (ltb (quarter_in l).passes 3) (unless_holds _ 18 z.0) in
      (ltb-true (quarter_in l).passes 3 t.1, z.1)

  few_resources : (market_in l).resources ≤ most_resources
  few_resources = let i = in_limits (market_in l).resources v pass_sound.1 in omega (arith, i.count, i.few)

  pub quarter_length : length (quarter_written l v) ≡ length l
  unfolding quarter_written
  quarter_length = counted_length (cut_of (market_in l) v) quarter_from (market_in l).resources few_resources l (cell_of ((quarter_in l).passes + 1))

  -- no cell before the quarter hour or past it is touched
  pub quarter_outside : (k : ℕ) → (k < quarter_from) ⊎ (market_from ≤ k) → cell_at (quarter_written l v) k ≡ cell_at l k
  unfolding quarter_written
  quarter_outside k o = counted_outside (cut_of (market_in l) v) quarter_from (market_in l).resources few_resources l (cell_of ((quarter_in l).passes + 1)) k o

  -- nor mark or price of a resource that the pass doesn't cut
  pub quarter_kept : (r : ℕ) → r < most_resources → cut_of (market_in l) v r ≡ None → (k : ℕ) → (k ≡ 130 + r) ⊎ (k ≡ 194 + r) → cell_at (quarter_written l v) k ≡ cell_at l k
  unfolding quarter_written
  quarter_kept r m u k o = counted_kept (cut_of (market_in l) v) quarter_from (market_in l).resources few_resources l (cell_of ((quarter_in l).passes + 1)) r m u k o

  pub quarter_next : market_from ≤ length l → quarter_in (quarter_written l v) ≡ next_quarter (market_in l) (quarter_in l) v
  unfolding quarter_written quarter_in next_quarter
  quarter_next h =
      let a = nat_of (cell_at l quarter_from) in
      let few : a < 3 = pass_sound.0 in
      let count = cell_of (a + 1) in
      let f = cut_of (market_in l) v in
      let n = (market_in l).resources in
      let c : nat_of (cell_at (set (cuts_by f (quarter_from + 1) n l) quarter_from count) quarter_from) ≡ a + 1 =
      ap nat_of (counted_count f quarter_from n few_resources l count (omega arith)) ∙ same_quantity (a + 1) (omega arith) in
      rw (c, counted_floors f quarter_from n few_resources l count h)

  pub quarter_after_lem : market_from ≤ length l → quarter_in (quarter_written l v) ≡ quarter_after (market_in l) (standing_in l).accepted (quarter_in l) v
  unfolding quarter_after
  quarter_after_lem h = quarter_next h ∙ sym (rw sound)

  pub quarter_standing : standing_in (quarter_written l v) ≡ standing_in l
  quarter_standing = standing_same (quarter_written l v) l (λ i h. quarter_outside i (inl h))

  pub quarter_market : market_in (quarter_written l v) ≡ market_in l
  quarter_market = market_same (quarter_written l v) l (λ i h. quarter_outside i (inr h))

  pub quarter_rows : rows_in (quarter_written l v) ≡ rows_in l
  quarter_rows = rows_same (quarter_written l v) l (λ i h. quarter_outside i (inr h))
