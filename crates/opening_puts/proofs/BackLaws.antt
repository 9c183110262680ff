-- A resource that is put into a block is read back from it, but for counts past 63 bits, which are held as the largest number of 63 bits. Assumes nothing but that its
-- arrays are full.
use Prim.Native.Nat.{ℕ, zero, suc, ◌+◌, ◌*◌, ◌<◌}
use mathlib.Core.Path.{◌≡◌, refl, sym, ap, ◌∙◌}
use mathlib.Core.List.{List, [], ◌∷◌, ◌++◌, map, flat_map}
use native.Mathlib.Omega.{arith}
use lib.IntN.{ℤ, pos}
use lib.ListN.{length, drop, get_or, replicate, length-replicate, length-map}
use lib.Seq.{sets, get_or-drop}
use Rattle.rules_number.specs.Order.{nat_of}
use Rattle.rules_number.specs.Over.{listed}
use Rattle.rules_number.proofs.ListedLaws.{listed_is}
use Rattle.rules_number.proofs.OverLaws.{listed_at}
use Rattle.rules_curve.specs.declared.RawCurve.{RawCurve}
use Rattle.rules_cost.specs.declared.Costs.{Costs}
use Rattle.rules_opening.specs.Openings.{no_resource}
use Rattle.rules_opening.specs.declared.Opening.{Opening}
use Rattle.rules_opening.specs.declared.Resource.{Resource}
use Rattle.rules_opening.specs.declared.Source.{Source}
use Rattle.rules_opening.specs.declared.Source.TheVariants as source
use Rattle.rules_library.specs.Slices.{cell_at, steps_in, points_in, costs_in}
use Rattle.rules_state.specs.Fits.{Each}
use Rattle.rules_state.specs.Layout.{most_resources, most_portfolios, block_room}
use Rattle.rules_state.specs.Openings.{block_of, source_of, raw_from, resource_in, opening_in}
use Rattle.rules_state.specs.States.{cell_of}
use Rattle.rules_state.proofs.StandLaws.{Stands, stands_stored, stands_first, stands_rest, stands_left, stands_right, stands_each, flat_length, each_at, each_also}
use Rattle.opening_puts.specs.Blocks.{blocks_room, step_numbers, point_numbers, raw_numbers, charges, cost_numbers, source_number, block_numbers, Rooms}
use Rattle.opening_puts.proofs.PutLaws.{each_two, points_length, raw_length, cost_length, block_length}

-- ---- what is held
unfoldable pub held_curve : RawCurve → RawCurve
held_curve c = record { start = c.start; count = nat_of (cell_of c.count); steps = c.steps }

unfoldable pub held_costs : Costs → Costs
held_costs c = record {
  count = nat_of (cell_of c.count);
  points = c.points;
  gas = c.gas;
  rate = c.rate;
  allowance = c.allowance;
  om = c.om;
  msc = c.msc;
  soc = c.soc;
  fee = c.fee;
}

unfoldable pub held_resource : Resource → Resource
held_resource x = record { portfolio = x.portfolio; bid = held_curve x.bid; source = x.source; costs = held_costs x.costs; pack = held_curve x.pack }

unfoldable pub held_opening : Opening → Opening
held_opening o = record { month = o.month; portfolios = o.portfolios; sellers = o.sellers; resources = o.resources; list = map held_resource o.list }

-- ---- two numbers of each entry
module _ {A : Type 0} (d : A) (f g : A → ℤ) (mk : ℤ → ℤ → A) (back : (x : A) → mk (f x) (g x) ≡ x) where
  abbrev both : A → List ℤ
  both x = f x ∷ g x ∷ []

  pairs_back : (l : List ℤ) (from : ℕ) (xs : List A) (n : ℕ) → length xs ≡ n → Stands l from (flat_map both xs) → listed (λ k. mk (cell_at (drop from l) (2 * k)) (cell_at (drop from l) (2 * k + 1))) n ≡ xs
  pairs_back l from xs n e t = sym (listed_is d xs (λ k. mk (cell_at (drop from l) (2 * k)) (cell_at (drop from l) (2 * k + 1))) n e at)
    where
      at : (k : ℕ) → k < n → get_or xs k d ≡ mk (cell_at (drop from l) (2 * k)) (cell_at (drop from l) (2 * k + 1))
      at k h =
          let q : k < length xs = omega arith in
          let x = get_or xs k d in
          let s = stands_each both 2 d l xs from (each_two both xs (λ y. refl)) t k q in
          let z : from + (2 * k + 1) ≡ from + 2 * k + 1 = omega arith in
          let a : cell_at (drop from l) (2 * k) ≡ f x = get_or-drop from l (2 * k) (pos 0) ∙ stands_first l (from + 2 * k) (f x) (g x ∷ []) s in
          let b : cell_at (drop from l) (2 * k + 1) ≡ g x =
          get_or-drop from l (2 * k + 1) (pos 0) ∙ ap (λ (i : ℕ). cell_at l i) z ∙ stands_first l (from + 2 * k + 1) (g x) [] (stands_rest l (from + 2 * k) (f x) (g x ∷ []) (from + 2 * k + 1) refl s) in
          sym (rw (a, b) (back x))

-- ---- read back, from where they stand
module _ (l : List ℤ) (from : ℕ) where
  raw_back : (c : RawCurve) → length c.steps ≡ 11 → Stands l from (raw_numbers c) → raw_from l from ≡ held_curve c
  unfolding raw_numbers held_curve
  raw_back c n t =
      let steps = flat_map step_numbers c.steps in
      let one = stands_rest l from c.start (cell_of c.count ∷ steps) (from + 1) refl t in
      let two = stands_rest l (from + 1) (cell_of c.count) steps (from + 2) (omega arith) one in
      let a : cell_at l from ≡ c.start = stands_first l from c.start (cell_of c.count ∷ steps) t in
      let b : nat_of (cell_at l (from + 1)) ≡ nat_of (cell_of c.count) = ap nat_of (stands_first l (from + 1) (cell_of c.count) steps one) in
      let d : steps_in (drop (from + 2) l) ≡ c.steps =
      pairs_back (record { end = pos 0; price = pos 0 }) (λ s. s.end) (λ s. s.price) (λ e p. record { end = e; price = p }) (λ x. refl) l (from + 2) c.steps 11 n two in
      rw (a, b, d)

  cost_back : (c : Costs) → length c.points ≡ 11 → Stands l from (cost_numbers c) → costs_in (nat_of (cell_at l from)) (drop (from + 1) l) (drop (from + 23) l) ≡ held_costs c
  unfolding cost_numbers costs_in held_costs
  cost_back c n t =
      let points = flat_map point_numbers c.points in
      let all = stands_rest l from (cell_of c.count) (points ++ charges c) (from + 1) refl t in
      let late = stands_right l (from + 1) points (charges c) (from + 23) (omega (arith, points_length c n)) all in
      let charge : (k : ℕ) → k < 7 → cell_at (drop (from + 23) l) k ≡ cell_at (charges c) k = λ k h. get_or-drop (from + 23) l k (pos 0) ∙ late k h in
      let a : nat_of (cell_at l from) ≡ nat_of (cell_of c.count) = ap nat_of (stands_first l from (cell_of c.count) (points ++ charges c) t) in
      let b : points_in (drop (from + 1) l) ≡ c.points =
      pairs_back (record { mw = pos 0; heat = pos 0 }) (λ s. s.mw) (λ s. s.heat) (λ m h. record { mw = m; heat = h }) (λ x. refl) l (from + 1) c.points 11 n (stands_left l (from + 1) points (charges c) all) in
      rw (
        a,
        b,
        charge 0 (omega arith),
        charge 1 (omega arith),
        charge 2 (omega arith),
        charge 3 (omega arith),
        charge 4 (omega arith),
        charge 5 (omega arith),
        charge 6 (omega arith),
      )

source_back : (s : Source) → source_of (source_number s) ≡ s
source_back source.Costs = refl
source_back source.Pack = refl

block_back : (b : List ℤ) (x : Resource) → Rooms x → Stands b 0 (block_numbers x) → resource_in b ≡ held_resource x
unfolding block_numbers resource_in held_resource
block_back b x f t =
    let bid = raw_numbers x.bid in
    let pack = raw_numbers x.pack in
    let costs = cost_numbers x.costs in
    let number = source_number x.source in
    let one = stands_rest b 0 x.portfolio (bid ++ (number ∷ costs ++ pack)) 1 refl t in
    let two = stands_right b 1 bid (number ∷ costs ++ pack) 25 (omega (arith, raw_length x.bid f.bid)) one in
    let three = stands_rest b 25 number (costs ++ pack) 26 refl two in
    let four = stands_right b 26 costs pack 56 (omega (arith, cost_length x.costs f.points)) three in
    let a : cell_at b 0 ≡ x.portfolio = stands_first b 0 x.portfolio (bid ++ (number ∷ costs ++ pack)) t in
    let s : source_of (cell_at b 25) ≡ x.source = ap source_of (stands_first b 25 number (costs ++ pack) two) ∙ source_back x.source in
    rw (a, raw_back b 1 x.bid f.bid (stands_left b 1 bid (number ∷ costs ++ pack) one), s, cost_back b 26 x.costs f.points (stands_left b 26 costs pack three), raw_back b 56 x.pack f.pack four)

-- ---- the whole opening
map_at : {A B : Type 0} (f : A → B) (d : A) (l : List A) (k : ℕ) → get_or (map f l) k (f d) ≡ f (get_or l k d)
map_at f d [] k = refl
map_at f d (x ∷ l) zero = refl
map_at f d (x ∷ l) (suc k) = map_at f d l k

-- the numbers of a block stand at its front
here : (blocks : List ℤ) (r k : ℕ) (a : List ℤ) → length a ≡ block_room → Stands blocks (0 + block_room * r) a → k < length a → cell_at (block_of blocks r) (0 + k) ≡ cell_at a k
unfolding block_of
here blocks r k a n t m =
    let y : 0 + k ≡ k = omega arith in
    let z : block_room * r + k ≡ 0 + block_room * r + k = omega arith in
    ap (λ (i : ℕ). cell_at (block_of blocks r) i) y ∙ listed_at (λ i. cell_at blocks (block_room * r + i)) (pos 0) block_room k (omega arith) ∙ ap (λ (i : ℕ). cell_at blocks i) z ∙ t k m

pub opening_back : (o : Opening) → length o.sellers ≡ most_portfolios → length o.list ≡ most_resources → Each Rooms o.list → (blocks : List ℤ)
    → blocks ≡ sets (replicate blocks_room (pos 0)) 0 (flat_map block_numbers o.list) → opening_in o.month o.portfolios o.sellers o.resources blocks ≡ held_opening o
unfolding opening_in held_opening
opening_back o sellers many rooms blocks e =
    let widths = each_also Rooms (λ x. length (block_numbers x) ≡ block_room) o.list block_length rooms in
    let long = flat_length block_numbers block_room o.list widths in
    let all : Stands blocks 0 (flat_map block_numbers o.list) =
    rw e (stands_stored (replicate blocks_room (pos 0)) 0 (flat_map block_numbers o.list) (omega (arith, long, length-replicate blocks_room (pos 0)))) in
    let marks : listed (cell_at o.sellers) most_portfolios ≡ o.sellers = sym (listed_is (pos 0) o.sellers (cell_at o.sellers) most_portfolios sellers (λ q h. refl)) in
    let list : listed (λ r. resource_in (block_of blocks r)) most_resources ≡ map held_resource o.list =
    sym (listed_is (held_resource no_resource) (map held_resource o.list) (λ r. resource_in (block_of blocks r)) most_resources (length-map o.list held_resource ∙ many) (λ r h.
    let q : r < length o.list = omega arith in
    let t = stands_each block_numbers block_room no_resource blocks o.list 0 widths all r q in
    map_at held_resource no_resource o.list r
    ∙ sym (block_back (block_of blocks r) (get_or o.list r no_resource) (each_at Rooms o.list r no_resource rooms q) (λ k m. here blocks r k (block_numbers (get_or o.list r no_resource)) (block_length (get_or o.list r no_resource) (each_at Rooms o.list r no_resource rooms q)) t m)))) in
    rw (marks, list)
