-- An hour that is put into cells is read back from them. Assumes nothing but that the cells can hold it.
use Rattle.std.specs.Prelude.{None, Option, Some}
use mathlib.Core.List.{List, [], ◌∷◌, ◌++◌, map, flat_map}
use mathlib.Core.Path.{◌≡◌, refl, sym, ap, ap₂, ◌∙◌}
use Prim.Native.Nat.{ℕ, ◌+◌, ◌<◌}
use native.Mathlib.Omega.{arith}
use lib.IntN.{ℤ}
use lib.ListN.{length, get_or, length-append, length-map}
use Rattle.rules_number.specs.Order.{nat_of}
use Rattle.rules_number.specs.Over.{listed}
use Rattle.rules_number.proofs.ListedLaws.{listed_is}
use Rattle.rules_curve.specs.Curves.{most_steps, step_to, blank_step}
use Rattle.rules_curve.specs.declared.Step.{Step}
use Rattle.rules_curve.specs.declared.Curve.{Curve}
use Rattle.rules_path.specs.declared.Market.{Market}
use Rattle.rules_opening.specs.Resources.{blank_row}
use Rattle.rules_opening.specs.declared.Row.{Row}
use Rattle.rules_hour.specs.Hours.{uncut}
use Rattle.rules_hour.specs.declared.Floor.{Floor}
use Rattle.rules_hour.specs.declared.Standing.{Standing}
use Rattle.rules_pass.specs.declared.Quarter.{Quarter}
use Rattle.rules_page.proofs.SameValues.{same_quantity}
use Rattle.rules_library.specs.Slices.{cell_at}
use Rattle.rules_state.specs.Layout.{most_resources, most_portfolios, counted_room, quarter_from, market_from, rows_from, curve_room, room_of_row}
use Rattle.rules_state.specs.States.{floor_of, floors_in, standing_in, quarter_in, wholes_in, market_in, curve_in_cells, row_from, row_in, rows_in, cell_of, mark_of, price_of, floors_cells, standing_cells, quarter_cells, market_cells, curve_cells, row_cells}
use Rattle.rules_state.specs.Fits.{Each, Small, CurveFits, RowFits, MarketFits, StandingFits, QuarterFits}
use Rattle.rules_state.proofs.StandLaws.{Stands, stands_first, stands_rest, stands_left, stands_right, each_at, each_also, stands_each, read_back}

-- ---- one number, one floor price
-- a whole number of 63 bits
pub whole_back : (n : ℕ) → Small n → nat_of (cell_of n) ≡ n
whole_back n h = same_quantity n h

floor_back : (x : Floor) → Unit {0} → floor_of (mark_of x.price) (price_of x.price) ≡ x
floor_back x u = go x.price
  where
    go : (p : Option ℤ) → floor_of (mark_of p) (price_of p) ≡ record { price = p }
    go None = refl
    go (Some l) = refl

each_any : {A : Type 0} (l : List A) → Each (λ x. Unit {0}) l
each_any [] = tt
each_any (x ∷ l) = (tt, each_any l)

-- ---- how many cells each takes
pub floors_room : (floors : List Floor) → length floors ≡ most_resources → length (floors_cells floors) ≡ most_resources + most_resources
unfolding floors_cells
floors_room floors e =
    length-append (map (λ x. mark_of x.price) floors) (map (λ x. price_of x.price) floors) ∙ simp length-map (omega arith)

pub standing_room : (s : Standing) → StandingFits s → length (standing_cells s) ≡ counted_room
standing_room s f = omega (arith, floors_room s.floors f.room)

pub quarter_room : (k : Quarter) → QuarterFits k → length (quarter_cells k) ≡ counted_room
quarter_room k f = omega (arith, floors_room k.floors f.room)

pub market_room : (m : Market) → MarketFits m → length (market_cells m) ≡ 1 + most_resources + most_portfolios
unfolding market_cells
market_room m f =
    let e = f.room in
    let g = f.seller_room in
    omega (arith, length-append (map cell_of m.portfolio) (map cell_of m.seller), length-map m.portfolio cell_of, length-map m.seller cell_of)

pub curve_room_lem : (c : Curve) → CurveFits c → length (curve_cells c) ≡ curve_room
unfolding curve_cells
curve_room_lem c f =
    let e = f.room in
    omega (arith, length-append (map (λ s. cell_of s.end) c.steps) (map (λ s. s.price) c.steps), length-map c.steps (λ s. cell_of s.end), length-map c.steps (λ s. s.price))

pub row_room : (x : Row) → RowFits x → length (row_cells x) ≡ room_of_row
unfolding row_cells
row_room x f = length-append (curve_cells x.bid) (curve_cells x.default) ∙ ap₂ (λ (p q : ℕ). p + q) (curve_room_lem x.bid f.bid) (curve_room_lem x.default f.default)

pub rows_each : (rows : List Row) → Each RowFits rows → Each (λ x. length (row_cells x) ≡ room_of_row) rows
rows_each rows e = each_also RowFits (λ x. length (row_cells x) ≡ room_of_row) rows row_room e

-- ---- read back, from where they stand
module _ (l : List ℤ) where
  pub floors_back : (from : ℕ) (floors : List Floor) → length floors ≡ most_resources → Stands l from (floors_cells floors) → floors_in l from ≡ floors
  unfolding floors_in floors_cells
  floors_back from floors e s =
      let marks = map (λ (x : Floor). mark_of x.price) floors in
      let prices = map (λ (x : Floor). price_of x.price) floors in
      read_back uncut (λ x. mark_of x.price) (λ x. price_of x.price) floor_of (λ x. Unit {0}) floor_back l from (from + most_resources) most_resources floors e (each_any floors)
      (stands_left l from marks prices s) (stands_right l from marks prices (from + most_resources) (omega (arith, length-map floors (λ (x : Floor). mark_of x.price))) s)

  pub wholes_back : (from n : ℕ) (xs : List ℕ) → length xs ≡ n → Each Small xs → Stands l from (map cell_of xs) → wholes_in l from n ≡ xs
  unfolding wholes_in
  wholes_back from n xs e p s = read_back 0 cell_of cell_of (λ a b. nat_of a) Small whole_back l from from n xs e p s s

  pub standing_back : (s : Standing) → StandingFits s → Stands l 0 (standing_cells s) → standing_in l ≡ s
  unfolding standing_in
  standing_back s f t =
      let a : nat_of (cell_at l 0) ≡ s.accepted = ap nat_of (stands_first l 0 _ (floors_cells s.floors) t) ∙ whole_back s.accepted f.accepted in
      let b : floors_in l 1 ≡ s.floors = floors_back 1 s.floors f.room (stands_rest l 0 _ (floors_cells s.floors) 1 refl t) in
      rw (a, b)

  pub quarter_back : (k : Quarter) → QuarterFits k → Stands l quarter_from (quarter_cells k) → quarter_in l ≡ k
  unfolding quarter_in
  quarter_back k f t =
      let a : nat_of (cell_at l quarter_from) ≡ k.passes = ap nat_of (stands_first l quarter_from _ (floors_cells k.floors) t) ∙ whole_back k.passes f.passes in
      let b : floors_in l (quarter_from + 1) ≡ k.floors = floors_back (quarter_from + 1) k.floors f.room (stands_rest l quarter_from _ (floors_cells k.floors) (quarter_from + 1) refl t) in
      rw (a, b)

  pub market_back : (m : Market) → MarketFits m → Stands l market_from (market_cells m) → market_in l ≡ m
  unfolding market_in market_cells
  market_back m f t =
      let lists = map cell_of m.portfolio ++ map cell_of m.seller in
      let rest = stands_rest l market_from (cell_of m.resources) lists (market_from + 1) refl t in
      let z = f.room in
      let a : nat_of (cell_at l market_from) ≡ m.resources = ap nat_of (stands_first l market_from (cell_of m.resources) lists t) ∙ whole_back m.resources f.resources in
      let b : wholes_in l (market_from + 1) most_resources ≡ m.portfolio =
      wholes_back (market_from + 1) most_resources m.portfolio f.room f.portfolios (stands_left l (market_from + 1) (map cell_of m.portfolio) (map cell_of m.seller) rest) in
      let c : wholes_in l (market_from + 1 + most_resources) most_portfolios ≡ m.seller =
      wholes_back (market_from + 1 + most_resources) most_portfolios m.seller f.seller_room f.sellers
      (stands_right l (market_from + 1) (map cell_of m.portfolio) (map cell_of m.seller) (market_from + 1 + most_resources) (omega (arith, length-map m.portfolio cell_of)) rest) in
      rw (a, b, c)

  pub curve_back : (from : ℕ) (c : Curve) → CurveFits c → Stands l from (curve_cells c) → curve_in_cells l from ≡ c
  unfolding curve_in_cells curve_cells
  curve_back from c f t =
      let ends = map (λ (s : Step). cell_of s.end) c.steps in
      let prices = map (λ (s : Step). s.price) c.steps in
      let z = f.room in
      let one = stands_rest l from (cell_of c.count) (cell_of c.start ∷ ends ++ prices) (from + 1) refl t in
      let two = stands_rest l (from + 1) (cell_of c.start) (ends ++ prices) (from + 2) (omega arith) one in
      let a : nat_of (cell_at l from) ≡ c.count = ap nat_of (stands_first l from (cell_of c.count) (cell_of c.start ∷ ends ++ prices) t) ∙ whole_back c.count f.count in
      let b : nat_of (cell_at l (from + 1)) ≡ c.start = ap nat_of (stands_first l (from + 1) (cell_of c.start) (ends ++ prices) one) ∙ whole_back c.start f.start in
      let d : listed (λ k. step_to (nat_of (cell_at l (from + 2 + k))) (cell_at l (from + 2 + most_steps + k))) most_steps ≡ c.steps =
      read_back blank_step (λ s. cell_of s.end) (λ s. s.price) (λ e p. step_to (nat_of e) p) (λ s. Small s.end) (λ s h. ap (λ (n : ℕ). step_to n s.price) (whole_back s.end h))
      l (from + 2) (from + 2 + most_steps) most_steps c.steps f.room f.ends (stands_left l (from + 2) ends prices two)
      (stands_right l (from + 2) ends prices (from + 2 + most_steps) (omega (arith, length-map c.steps (λ (s : Step). cell_of s.end))) two) in
      rw (a, b, d)

  pub row_back : (r : ℕ) (x : Row) → RowFits x → Stands l (row_from r) (row_cells x) → row_in l r ≡ x
  unfolding row_in row_cells
  row_back r x f t =
      let a = curve_back (row_from r) x.bid f.bid (stands_left l (row_from r) (curve_cells x.bid) (curve_cells x.default) t) in
      let b = curve_back (row_from r + curve_room) x.default f.default
      (stands_right l (row_from r) (curve_cells x.bid) (curve_cells x.default) (row_from r + curve_room) (omega (arith, curve_room_lem x.bid f.bid)) t) in
      rw (a, b)

  pub rows_back : (rows : List Row) → length rows ≡ most_resources → Each RowFits rows → Stands l rows_from (flat_map row_cells rows) → rows_in l ≡ rows
  unfolding rows_in
  rows_back rows e f t =
      sym (listed_is blank_row rows (row_in l) most_resources e (λ r h.
      let q : r < length rows = omega arith in
      sym (row_back r (get_or rows r blank_row) (each_at RowFits rows r blank_row f q) (stands_each row_cells room_of_row blank_row l rows rows_from (rows_each rows f) t r q))))
