-- Laws of an opening in numbers: its checks and its market read from the numbers themselves, and the rows put so far. Assumes nothing.
use mathlib.Core.List.{List, [], ◌∷◌, ◌++◌, map, flat_map, append_assoc, append-nil}
use mathlib.Core.Path.{◌≡◌, refl, sym, ap, ap₂, ◌∙◌}
use Prim.Native.Nat.{ℕ, zero, suc, ◌+◌, ◌*◌, ◌-◌, ◌≤◌, ◌<◌, min as least}
use native.Mathlib.Nat.{add-zero}
use native.Mathlib.Numerals.{add-one}
use native.Mathlib.Omega.{arith}
use lib.IntN.{ℤ, pos}
use lib.ListN.{length, set, take, drop, replicate, length-append, length-map}
use lib.Seq.{sets, sets-eq}
use Rattle.std.proofs.lemmas.List.{length-take-le}
use Rattle.rules_number.specs.Order.{nat_of}
use Rattle.rules_number.specs.Over.{all_to, listed, padded}
use Rattle.rules_number.proofs.OverLaws.{all_same, listed_at, listed_length, listed_same, padded_length}
use Rattle.rules_interval.specs.Intervals.{cell}
use Rattle.rules_path.specs.declared.Market.{Market}
use Rattle.rules_opening.specs.Openings.{no_resource, resource_at, seller_at, is_mark, is_known, sellers_good, owners_good, market_of}
use Rattle.rules_opening.specs.declared.Opening.{Opening}
use Rattle.rules_opening.specs.declared.Row.{Row}
use Rattle.rules_hour.specs.Hours.{fresh_standing}
use Rattle.rules_pass.specs.Passes.{fresh_quarter}
use Rattle.rules_text.proofs.ListLaws.{sets_append}
use Rattle.rules_library.specs.Slices.{cell_at}
use Rattle.rules_state.specs.Layout.{most_resources, most_portfolios, market_from, rows_from, room_of_row, block_room}
use Rattle.rules_state.specs.Openings.{block_of, resource_in, opening_in}
use Rattle.rules_state.specs.States.{cell_of, floors_cells, standing_cells, quarter_cells, market_cells, row_cells}
use Rattle.rules_state.specs.Takes.{if_accepted}
use Rattle.cells.proofs.PutLaws.{flat_last}
use Rattle.opening_cells.proofs.CurveLaws.{market_put}
use Rattle.opening_cells.proofs.RunLaws.{listed_least, over_front}

-- ---- a list and its padding, as cells
pub map-append : {A B : Type 0} (f : A → B) (k l : List A) → map f (k ++ l) ≡ map f k ++ map f l
map-append f [] l = refl
map-append f (x ∷ k) l = ap (λ (r : List _). f x ∷ r) (map-append f k l)

pub map_listed : {A B : Type 0} (f : A → B) (g : ℕ → A) (n : ℕ) → map f (listed g n) ≡ listed (λ k. f (g k)) n
unfolding listed
map_listed f g zero = refl
map_listed f g (suc n) = map-append f (listed g n) (g n ∷ []) ∙ ap (λ (l : List _). l ++ (f (g n) ∷ [])) (map_listed f g n)

cons_listed : {A : Type 0} (b : A) (n : ℕ) → b ∷ listed (λ k. b) n ≡ listed (λ k. b) (suc n)
unfolding listed
cons_listed b zero = refl
cons_listed b (suc n) = ap (λ (l : List _). l ++ (b ∷ [])) (cons_listed b n)

pub map_blank : {A B : Type 0} (f : A → B) (b : A) (n : ℕ) → map f (replicate n b) ≡ listed (λ k. f b) n
unfolding listed
map_blank f b zero = refl
map_blank f b (suc n) = ap (λ (l : List _). f b ∷ l) (map_blank f b n) ∙ cons_listed (f b) n

pub padded_cells : (g : ℕ → ℕ) (n room : ℕ) → map cell_of (padded room 0 (listed g n)) ≡ listed (λ k. cell_of (g k)) n ++ listed (λ k. pos 0) (room - n)
unfolding padded
padded_cells g n room =
    map-append cell_of (listed g n) (replicate (room - length (listed g n)) 0)
    ∙ ap₂ (λ (a b : List ℤ). a ++ b) (map_listed cell_of g n) (map_blank cell_of 0 (room - length (listed g n)) ∙ ap (λ (i : ℕ). listed (λ (k : ℕ). pos 0) (room - i)) (listed_length g n))

-- ---- zeros, and numbers put over a front of them
abbrev zeros : ℕ → List ℤ
zeros n = listed (λ k. pos 0) n

zeros_more : (n m : ℕ) → zeros (n + m) ≡ zeros n ++ zeros m
unfolding listed
zeros_more n zero = let e : n + 0 ≡ n = omega arith in ap zeros e ∙ sym (append-nil (zeros n))
zeros_more n (suc m) =
    let e : n + suc m ≡ suc (n + m) = omega arith in
    ap zeros e ∙ ap (λ (l : List ℤ). l ++ (pos 0 ∷ [])) (zeros_more n m) ∙ append_assoc (zeros n) (zeros m) (pos 0 ∷ [])

zeros_listed : (n : ℕ) → replicate n (pos 0) ≡ zeros n
unfolding listed
zeros_listed zero = refl
zeros_listed (suc n) = ap (λ (l : List ℤ). pos 0 ∷ l) (zeros_listed n) ∙ cons_listed (pos 0) n

-- a front filled with zeros
pub zeros_put : (s new : List ℤ) (n room : ℕ) → room ≡ least n (length s) → new ≡ replicate (length (take room s)) (pos 0) → new ++ drop room s ≡ sets s 0 (zeros n)
zeros_put s new n room h e =
    let long : length (take room s) ≡ room = length-take-le room s (omega (arith, h)) in
    let put = zeros room in
    let z : new ≡ put = e ∙ ap (λ (k : ℕ). replicate k (pos 0)) long ∙ zeros_listed room in
    let count : length put ≡ room = listed_length (λ (k : ℕ). pos 0) room in
    let past : 0 + length put ≡ room = omega (arith, count) in
    ap (λ (l : List ℤ). l ++ drop room s) z ∙ ap (λ (k : ℕ). put ++ drop k s) (sym past) ∙ sym (sets-eq put s 0 (omega (arith, count, h)))
    ∙ listed_least s 0 (λ k. pos 0) n room (omega (arith, h)) (omega arith)

-- a run of so many stores, and zeros after it
then_zeros : (s : List ℤ) (at : ℕ) (a : List ℤ) (n m : ℕ) → length a ≡ n → sets s at (a ++ zeros m) ≡ sets (sets s at a) (at + n) (zeros m)
then_zeros s at a n m e = sets_append s at a (zeros m) ∙ ap (λ (i : ℕ). sets (sets s at a) (at + i) (zeros m)) e

-- numbers put over a front of zeros are padded as far as there is room, and zeros are left past it
padded_front : (s mid out : List ℤ) (at : ℕ) (g : ℕ → ℕ) (n room m : ℕ) → n ≤ room → mid ≡ sets s at (zeros (room + m)) → out ≡ sets mid at (listed (λ k. cell_of (g k)) n)
    → out ≡ sets (sets s at (map cell_of (padded room 0 (listed g n)))) (at + room) (zeros m)
padded_front s mid out at g n room m h e f =
    let put = listed (λ k. cell_of (g k)) n in
    let all : room + m ≡ n + (room - n + m) = omega arith in
    let whole = map cell_of (padded room 0 (listed g n)) in
    let long : length whole ≡ room = simp length-map (padded_length room 0 (listed g n) (omega (arith, listed_length g n))) in
    f ∙ ap (λ (l : List ℤ). sets l at put) (e ∙ ap (λ (l : List ℤ). sets s at l) (ap zeros all ∙ zeros_more n (room - n + m)))
    ∙ over_front s at (zeros n) (zeros (room - n + m)) put (listed_length (λ (k : ℕ). pos 0) n ∙ sym (listed_length (λ k. cell_of (g k)) n))
    ∙ ap (λ (l : List ℤ). sets s at l) (ap (λ (l : List ℤ). put ++ l) (zeros_more (room - n) m) ∙ sym (append_assoc put (zeros (room - n)) (zeros m)) ∙ ap (λ (l : List ℤ). l ++ zeros m) (sym (padded_cells g n room)))
    ∙ then_zeros s at whole room m long

-- ---- a fresh standing and a fresh quarter hour are zeros
pub fresh_zeros : standing_cells fresh_standing ++ quarter_cells fresh_quarter ≡ listed (λ k. pos 0) market_from
unfolding listed floors_cells fresh_standing fresh_quarter
fresh_zeros = refl

-- ---- the opening that these numbers stand for
module _ (month : ℤ) (portfolios : ℕ) (sellers : List ℤ) (resources : ℕ) (blocks : List ℤ) where
  abbrev pub O : Opening
  O = opening_in month portfolios sellers resources blocks

  pub resource_is_lem : (r : ℕ) → r < most_resources → resource_at O r ≡ resource_in (block_of blocks r)
  unfolding opening_in
  resource_is_lem r h = listed_at (λ r. resource_in (block_of blocks r)) no_resource most_resources r h

  pub owner_is : (r : ℕ) → r < most_resources → (resource_at O r).portfolio ≡ cell_at blocks (block_room * r)
  unfolding resource_in block_of
  owner_is r h =
      ap (λ x. x.portfolio) (resource_is_lem r h) ∙ listed_at (λ k. cell_at blocks (block_room * r + k)) (pos 0) block_room 0 (omega arith) ∙ ap (λ (i : ℕ). cell_at blocks i) (add-zero (block_room * r))

  pub seller_is : (p : ℕ) → p < most_portfolios → seller_at O p ≡ cell_at sellers p
  unfolding opening_in
  seller_is p h = listed_at (cell_at sellers) (pos 0) most_portfolios p h

  pub sellers_are : portfolios ≤ most_portfolios → all_to (λ p. is_mark (cell sellers p)) portfolios ≡ sellers_good O
  unfolding sellers_good opening_in
  sellers_are few = all_same (λ p. is_mark (cell sellers p)) (λ p. is_mark (seller_at O p)) portfolios (λ p h. ap is_mark (sym (seller_is p (omega arith))))

  pub owners_are : resources ≤ most_resources → all_to (λ r. is_known portfolios (cell_at blocks (block_room * r))) resources ≡ owners_good O
  unfolding owners_good opening_in
  owners_are few =
      all_same (λ r. is_known portfolios (cell_at blocks (block_room * r))) (λ r. is_known portfolios (resource_at O r).portfolio) resources
      (λ r h. ap (is_known portfolios) (sym (owner_is r (omega arith))))

  -- ---- the market
  pub resources_room : resources ≤ most_resources → length (market_of O).portfolio ≡ most_resources
  unfolding market_of opening_in
  resources_room few = padded_length most_resources 0 (listed (λ r. nat_of (resource_at O r).portfolio) resources) (omega (arith, listed_length (λ r. nat_of (resource_at O r).portfolio) resources))

  pub portfolios_room : portfolios ≤ most_portfolios → length (market_of O).seller ≡ most_portfolios
  unfolding market_of opening_in
  portfolios_room few = padded_length most_portfolios 0 (listed (λ p. nat_of (seller_at O p)) portfolios) (omega (arith, listed_length (λ p. nat_of (seller_at O p)) portfolios))

  portfolios_are : resources ≤ most_resources → padded most_resources 0 (listed (λ k. nat_of (cell_at blocks (block_room * k))) resources) ≡ (market_of O).portfolio
  unfolding market_of opening_in
  portfolios_are few =
      ap (padded most_resources 0) (listed_same (λ k. nat_of (cell_at blocks (block_room * k))) (λ r. nat_of (resource_at O r).portfolio) resources (λ r h. ap nat_of (sym (owner_is r (omega arith)))))

  marks_are : portfolios ≤ most_portfolios → padded most_portfolios 0 (listed (λ k. nat_of (cell_at sellers (1 * k))) portfolios) ≡ (market_of O).seller
  unfolding market_of opening_in
  marks_are few =
      ap (padded most_portfolios 0) (listed_same (λ k. nat_of (cell_at sellers (1 * k))) (λ p. nat_of (seller_at O p)) portfolios
      (λ p h. let e : 1 * p ≡ p = omega arith in ap (λ (i : ℕ). nat_of (cell_at sellers i)) e ∙ ap nat_of (sym (seller_is p (omega arith)))))

  count_is : (market_of O).resources ≡ resources
  unfolding market_of opening_in
  count_is = refl

  -- no market depends on the month
  pub any_month : market_of (opening_in (pos 0) portfolios sellers resources blocks) ≡ market_of O
  unfolding market_of opening_in
  any_month = refl

-- zeros, and the market after them
fresh_put : (m : Market) (s out : List ℤ) → out ≡ sets (sets s 0 (zeros market_from)) market_from (market_cells m) → out ≡ sets s 0 (standing_cells fresh_standing ++ quarter_cells fresh_quarter ++ market_cells m)
unfolding listed
fresh_put m s out e =
    e ∙ ap (λ (i : ℕ). sets (sets s 0 (zeros market_from)) i (market_cells m)) (sym (listed_length (λ (k : ℕ). pos 0) market_from))
    ∙ sym (sets_append s 0 (zeros market_from) (market_cells m)) ∙ ap (λ (l : List ℤ). sets s 0 (l ++ market_cells m)) (sym fresh_zeros)

-- zeros, and over them the number of resources, the portfolios and then the sellers
module _ (month : ℤ) (portfolios : ℕ) (sellers : List ℤ) (resources : ℕ) (blocks : List ℤ) (many : resources ≤ most_resources) (few : portfolios ≤ most_portfolios) where
  pub fresh_made : (s cleared counted owned out : List ℤ) → cleared ≡ sets s 0 (zeros rows_from) → counted ≡ set cleared market_from (cell_of resources)
      → owned ≡ sets counted (market_from + 1) (listed (λ k. cell_of (nat_of (cell_at blocks (block_room * k)))) resources)
      → out ≡ sets owned (market_from + 1 + most_resources) (listed (λ k. cell_of (nat_of (cell_at sellers (1 * k)))) portfolios)
      → out ≡ sets s 0 (standing_cells fresh_standing ++ quarter_cells fresh_quarter ++ market_cells (market_of (opening_in month portfolios sellers resources blocks)))
  unfolding listed padded
  fresh_made s cleared counted owned out a b c d =
      let m = market_of (opening_in month portfolios sellers resources blocks) in
      let fresh = sets s 0 (zeros market_from) in
      let a' : cleared ≡ sets fresh market_from (zeros (1 + (most_resources + most_portfolios))) =
      a ∙ ap (λ (l : List ℤ). sets s 0 l) (zeros_more market_from (1 + (most_resources + most_portfolios))) ∙ then_zeros s 0 (zeros market_from) market_from (1 + (most_resources + most_portfolios)) (listed_length (λ (k : ℕ). pos 0) market_from) in
      let b' = padded_front fresh cleared counted market_from (λ k. resources) 1 1 (most_resources + most_portfolios) (omega arith) a' b in
      let c' = padded_front _ counted owned (market_from + 1) (λ k. nat_of (cell_at blocks (block_room * k))) resources most_resources most_portfolios many b' c in
      let d' = padded_front _ owned out (market_from + 1 + most_resources) (λ k. nat_of (cell_at sellers (1 * k))) portfolios most_portfolios 0 few c' d in
      fresh_put m s out (market_put m fresh _ _ out (resources_room month portfolios sellers resources blocks many) refl refl (d'
      ∙ ap₂ (λ (o k : List ℕ). sets (sets (set fresh market_from (cell_of resources)) (market_from + 1) (map cell_of o)) (market_from + 1 + most_resources) (map cell_of k))
      (portfolios_are month portfolios sellers resources blocks many) (marks_are month portfolios sellers resources blocks few)
      ∙ ap (λ (n : ℕ). sets (sets (set fresh market_from (cell_of n)) (market_from + 1) (map cell_of m.portfolio)) (market_from + 1 + most_resources) (map cell_of m.seller)) (sym (count_is month portfolios sellers resources blocks))))

-- ---- what is put where a number is 0
pub skipped : {A : Type 0} (n : ℕ) (x y : A) → 0 < n → if_accepted n x y ≡ y
skipped zero x y h = absurd (omega arith)
skipped (suc n) x y h = refl

pub taken : {A : Type 0} (n : ℕ) (x y : A) → n ≡ 0 → if_accepted n x y ≡ x
taken n x y e = rw e

-- ---- rows put one after the other
module _ (row : ℕ → Row) (s : List ℤ) (from : ℕ) where
  abbrev pub rows_to : ℕ → List ℤ
  rows_to n = flat_map row_cells (listed row n)

  rows_next : (r : ℕ) → rows_to (r + 1) ≡ rows_to r ++ row_cells (row r)
  unfolding listed
  rows_next r = rw (add-one r) (flat_last row_cells (listed row r) (row r))

  pub rows_length : (r : ℕ) → length (rows_to r) ≡ room_of_row * r → length (row_cells (row r)) ≡ room_of_row → length (rows_to (r + 1)) ≡ room_of_row * (r + 1)
  rows_length r e g = ap length (rows_next r) ∙ length-append (rows_to r) (row_cells (row r)) ∙ omega arith

  pub rows_put : (out next : List ℤ) (r : ℕ) → out ≡ sets s from (rows_to r) → length (rows_to r) ≡ room_of_row * r → next ≡ sets out (from + room_of_row * r) (row_cells (row r)) → next ≡ sets s from (rows_to (r + 1))
  rows_put out next r e g n =
      n ∙ ap (λ (l : List ℤ). sets l (from + room_of_row * r) (row_cells (row r))) e ∙ ap (λ (i : ℕ). sets (sets s from (rows_to r)) (from + i) (row_cells (row r))) (sym g)
      ∙ sym (sets_append s from (rows_to r) (row_cells (row r))) ∙ ap (λ (l : List ℤ). sets s from l) (sym (rows_next r))

  -- before the first
  pub rows_none : (out : List ℤ) (r : ℕ) → r ≡ 0 → out ≡ sets s from (rows_to r) → out ≡ s
  unfolding listed flat_map
  rows_none out r e h = h ∙ ap (λ (k : ℕ). sets s from (rows_to k)) e
