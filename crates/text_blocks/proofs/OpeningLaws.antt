-- Laws of the opening of a text: blocks with its tables decode to it. Assumes nothing.
use Prim.Native.Nat.{ℕ, zero, suc, ◌+◌, ◌*◌, ◌≤◌, ◌<◌, min}
use mathlib.Core.Path.{◌≡◌, refl, sym, ap, ◌∙◌}
use mathlib.Core.List.{List, [], ◌∷◌, ◌++◌, map, flat_map}
use mathlib.Core.Logic.{⊎_elim}
use native.Mathlib.Omega.{arith}
use native.Mathlib.Nat.{add-zero}
use native.Mathlib.Numerals.{add-one}
use lib.IntN.{ℤ, pos}
use lib.ListN.{length, get_or, set, replicate, length-replicate, get_or-eq_default}
use lib.Seq.{sets}
use Rattle.rules_number.specs.Over.{listed}
use Rattle.rules_number.proofs.OverLaws.{le_or_lt, listed_length, listed_at, listed_same}
use Rattle.rules_number.proofs.ListedLaws.{listed_is}
use Rattle.rules_opening.specs.declared.Resource.{Resource}
use Rattle.rules_opening.specs.declared.Opening.{Opening}
use Rattle.rules_text.specs.Numbers.{Row}
use Rattle.rules_text.specs.Tables.{cell}
use Rattle.rules_text.specs.Offsets.{kept}
use Rattle.rules_text.proofs.ListLaws.{sets_read}
use Rattle.rules_text.proofs.TableLaws.{kept_length}
use Rattle.rules_parts.specs.Parts.{resource_of, resources_of, opening_of}
use Rattle.rules_library.specs.Slices.{cell_at}
use Rattle.rules_state.specs.Layout.{most_resources, most_portfolios, block_room}
use Rattle.rules_state.specs.Openings.{block_of, resource_in, opening_in}
use Rattle.text_blocks.specs.Blocks.{group_cells, owner_cells, owner_rows, charge_cells, blocks_put, blocks_of, steps_from, points_from, charges_from, opening_with}
use Rattle.text_blocks.proofs.LastLaws.{blocks_length}
use Rattle.text_blocks.proofs.WindowLaws.{block_at, block_past, block_blank}
use Rattle.text_blocks.proofs.DecodeLaws.{group_length, charge_length, decoded, decoded_blank}

-- ---- one resource more put into its block
pub blocks_more : {A : Type 0} (f : A → List ℤ) (from r : ℕ) (l : List ℤ) (xs : List A) (x : A)
    → blocks_put f from r l (xs ++ (x ∷ [])) ≡ sets (blocks_put f from r l xs) (block_room * (r + length xs) + from) (f x)
unfolding blocks_put
blocks_more f from r l [] x = ap (λ (i : ℕ). sets l (block_room * i + from) (f x)) (sym (add-zero r))
blocks_more f from r l (y ∷ xs) x =
    let z : suc r + length xs ≡ r + suc (length xs) = omega arith in
    let put = sets l (block_room * r + from) (f y) in
    blocks_more f from (suc r) put xs x ∙ ap (λ (i : ℕ). sets (blocks_put f from (suc r) put xs) (block_room * i + from) (f x)) z

pub owners_length : (owners : List ℤ) (n : ℕ) → length (owner_rows owners n) ≡ n
unfolding owner_rows
owners_length owners n = listed_length (λ r. pos 0 ∷ cell_at owners (2 * r) ∷ cell_at owners (2 * r + 1) ∷ []) n

-- in any room for the first n resources, the cells of these are the same
pub owners_room : (xs : List ℤ) (room n : ℕ) → n ≤ 64 → 2 * n ≤ room → owner_rows (kept room (pos 0) xs) n ≡ owner_rows (kept 128 (pos 0) xs) n
unfolding owner_rows kept
owners_room xs room n h k =
    listed_same _ _ n
    (λ r l. ap (λ (z : ℤ). pos 0 ∷ z ∷ cell_at (sets (replicate room (pos 0)) 0 xs) (2 * r + 1) ∷ []) (sets_read room (pos 0) xs (2 * r) (omega arith) ∙ sym (sets_read 128 (pos 0) xs (2 * r) (omega arith)))
    ∙ ap (λ (z : ℤ). pos 0 ∷ cell_at (sets (replicate 128 (pos 0)) 0 xs) (2 * r) ∷ z ∷ []) (sets_read room (pos 0) xs (2 * r + 1) (omega arith) ∙ sym (sets_read 128 (pos 0) xs (2 * r + 1) (omega arith))))

pub owners_none : (owners l : List ℤ) → l ≡ blocks_put owner_cells 0 0 l (owner_rows owners 0)
unfolding owner_rows listed blocks_put
owners_none owners l = refl

pub owners_more : (owners l : List ℤ) (r : ℕ)
    → set (set (blocks_put owner_cells 0 0 l (owner_rows owners r)) (block_room * r) (cell_at owners (2 * r))) (block_room * r + 1) (cell_at owners (2 * r + 1))
    ≡ blocks_put owner_cells 0 0 l (owner_rows owners (r + 1))
unfolding owner_rows listed
owners_more owners l r =
    let xs = owner_rows owners r in
    let put = blocks_put owner_cells 0 0 l xs in
    let x = cell_at owners (2 * r) in
    let y = cell_at owners (2 * r + 1) in
    let z : block_room * (0 + length xs) + 0 ≡ block_room * r = omega (arith, owners_length owners r) in
    ap (λ (i : ℕ). set (set put (block_room * r) x) i y) (add-one (block_room * r))
    ∙ ap (λ (i : ℕ). sets put i (x ∷ y ∷ [])) (sym z)
    ∙ sym (blocks_more owner_cells 0 0 l xs (pos 0 ∷ x ∷ y ∷ []))
    ∙ ap (λ (i : ℕ). blocks_put owner_cells 0 0 l (owner_rows owners i)) (sym (add-one r))

-- ---- blocks with all tables
opening_by : {month : ℤ} {p m : ℕ} {s s' : List ℤ} {l l' : List Resource} → s ≡ s' → l ≡ l'
    → ◌≡◌ {A = Opening} (record { month = month; portfolios = p; sellers = s; resources = m; list = l }) (record { month = month; portfolios = p; sellers = s'; resources = m; list = l' })
opening_by s l = cc

module _ (n : ℕ) (xs : List Row) (ss ps : List (List Row)) (cs : List Row) where
  abbrev zeros : List ℤ
  zeros = replicate n (pos 0)

  abbrev owned : List ℤ
  owned = blocks_put owner_cells 0 0 zeros xs

  abbrev bidden : List ℤ
  bidden = blocks_put group_cells steps_from 0 owned ss

  abbrev heated : List ℤ
  heated = blocks_put group_cells points_from 0 bidden ps

  abbrev whole : List ℤ
  whole = blocks_put charge_cells charges_from 0 heated cs

  long_owned : length owned ≡ n
  long_owned = blocks_length owner_cells 0 0 zeros xs ∙ length-replicate n (pos 0)

  long_bidden : length bidden ≡ n
  long_bidden = blocks_length group_cells steps_from 0 owned ss ∙ long_owned

  long_heated : length heated ≡ n
  long_heated = blocks_length group_cells points_from 0 bidden ps ∙ long_bidden

  steps_small : (g : List Row) → steps_from + length (group_cells g) ≤ 80
  steps_small g = omega (arith, group_length g)

  points_small : (g : List Row) → points_from + length (group_cells g) ≤ 80
  points_small g = omega (arith, group_length g)

  charges_small : (x : Row) → charges_from + length (charge_cells x) ≤ 80
  charges_small x = omega (arith, charge_length x)

  owners_small : (x : Row) → 0 + length (owner_cells x) ≤ 80
  owners_small x = omega arith

  -- the block of a resource that all tables have
  block_in : (r : ℕ) → r < length xs → r < length ss → r < length ps → r < length cs → block_room * r + 80 ≤ n
      → resource_in (block_of whole r) ≡ resource_of (get_or xs r []) (get_or ss r []) (get_or ps r []) (get_or cs r [])
  block_in r a b c d h =
      let x = get_or xs r [] in
      let s = get_or ss r [] in
      let p = get_or ps r [] in
      let y = get_or cs r [] in
      ap resource_in
      (block_at charge_cells charges_from charges_small [] r heated cs d (omega (arith, long_heated))
      ∙ ap (λ (k : List ℤ). sets k charges_from (charge_cells y))
      (block_at group_cells points_from points_small [] r bidden ps c (omega (arith, long_bidden))
      ∙ ap (λ (k : List ℤ). sets k points_from (group_cells p))
      (block_at group_cells steps_from steps_small [] r owned ss b (omega (arith, long_owned))
      ∙ ap (λ (k : List ℤ). sets k steps_from (group_cells s))
      (block_at owner_cells 0 owners_small [] r zeros xs a (omega (arith, length-replicate n (pos 0))) ∙ ap (λ (k : List ℤ). sets k 0 (owner_cells x)) (block_blank n r)))))
      ∙ decoded (cell 1 x) (cell 2 x) s p y

  -- the block of one that none has
  block_out : (r : ℕ) → length xs ≤ r → length ss ≤ r → length ps ≤ r → length cs ≤ r
      → resource_in (block_of whole r) ≡ resource_of (get_or xs r []) (get_or ss r []) (get_or ps r []) (get_or cs r [])
  block_out r a b c d =
      let x = get_or-eq_default xs [] a in
      let s = get_or-eq_default ss [] b in
      let p = get_or-eq_default ps [] c in
      let y = get_or-eq_default cs [] d in
      ap resource_in
      (block_past charge_cells charges_from charges_small 0 r heated cs (omega arith) ∙ block_past group_cells points_from points_small 0 r bidden ps (omega arith)
      ∙ block_past group_cells steps_from steps_small 0 r owned ss (omega arith) ∙ block_past owner_cells 0 owners_small 0 r zeros xs (omega arith) ∙ block_blank n r)
      ∙ decoded_blank ∙ rw (x, s, p, y)

-- zeros with room for the resources, and the tables put into them
pub blocks_decode : (month : ℤ) (portfolios : ℕ) (sellers : List ℤ) (m : ℕ) (owners : List ℤ) (n : ℕ) → block_room * min m 64 ≤ n
    → (ss ps : List (List Row)) (cs : List Row) → length ss ≡ m → length ps ≡ m → length cs ≡ m
    → opening_in month portfolios sellers m (blocks_of (blocks_put owner_cells 0 0 (replicate n (pos 0)) (owner_rows owners (min m 64))) ss ps cs)
    ≡ opening_with month portfolios sellers m owners ss ps cs
unfolding opening_in opening_with blocks_of
blocks_decode month portfolios sellers m owners n room ss ps cs a b c =
    let xs = owner_rows owners (min m 64) in
    let o = owners_length owners (min m 64) in
    opening_by refl
    (listed_same (λ r. resource_in (block_of (blocks_of (blocks_put owner_cells 0 0 (replicate n (pos 0)) xs) ss ps cs) r)) (λ r. resource_of (get_or xs r []) (get_or ss r []) (get_or ps r []) (get_or cs r [])) most_resources
    (λ r h. ⊎_elim (λ l. block_out n xs ss ps cs r (omega arith) (omega arith) (omega arith) (omega arith))
    (λ l. block_in n xs ss ps cs r (omega arith) (omega arith) (omega arith) (omega arith) (omega arith)) (le_or_lt m r)))

-- ---- the opening of the tables' rows
resources_at : (xs : List Row) (ss ps : List (List Row)) (cs : List Row) → length ss ≡ length xs → length ps ≡ length xs → length cs ≡ length xs
    → (i : ℕ) → get_or (resources_of xs ss ps cs) i (resource_of [] [] [] []) ≡ resource_of (get_or xs i []) (get_or ss i []) (get_or ps i []) (get_or cs i [])
unfolding resources_of
resources_at [] [] [] [] a b c zero = refl
resources_at [] [] [] [] a b c (suc i) = refl
resources_at [] (s ∷ ss) ps cs a b c i = absurd (omega arith)
resources_at [] [] (p ∷ ps) cs a b c i = absurd (omega arith)
resources_at [] [] [] (y ∷ cs) a b c i = absurd (omega arith)
resources_at (x ∷ xs) [] ps cs a b c i = absurd (omega arith)
resources_at (x ∷ xs) (s ∷ ss) [] cs a b c i = absurd (omega arith)
resources_at (x ∷ xs) (s ∷ ss) (p ∷ ps) [] a b c i = absurd (omega arith)
resources_at (x ∷ xs) (s ∷ ss) (p ∷ ps) (y ∷ cs) a b c zero = refl
resources_at (x ∷ xs) (s ∷ ss) (p ∷ ps) (y ∷ cs) a b c (suc i) = resources_at xs ss ps cs (omega arith) (omega arith) (omega arith) i

kept_get : (l : List Resource) (q : ℕ) → q < 64 → get_or (kept 64 (resource_of [] [] [] []) l) q (resource_of [] [] [] []) ≡ get_or l q (resource_of [] [] [] [])
unfolding kept
kept_get l q h = sets_read 64 (resource_of [] [] [] []) l q h

-- a resource has two cells of its own line
resource_by : (x y : Row) (s p : List Row) (c : Row) → cell 1 x ≡ cell 1 y → cell 2 x ≡ cell 2 y → resource_of x s p c ≡ resource_of y s p c
resource_by x y s p c a b = cc

-- portfolio and start of each line in turn, by index
portfolio_in : (rr : List Row) (k : ℕ) → get_or (flat_map owner_cells rr) (2 * k) (pos 0) ≡ cell 1 (get_or rr k [])
unfolding flat_map
portfolio_in [] k = get_or-eq_default [] (pos 0) {n = 2 * k} (omega arith) ∙ ap (cell 1) (sym (get_or-eq_default [] [] {n = k} (omega arith)))
portfolio_in (x ∷ rr) zero = refl
portfolio_in (x ∷ rr) (suc k) =
    let z : 2 * suc k ≡ suc (suc (2 * k)) = omega arith in
    ap (λ (i : ℕ). get_or (flat_map owner_cells (x ∷ rr)) i (pos 0)) z ∙ portfolio_in rr k

start_in : (rr : List Row) (k : ℕ) → get_or (flat_map owner_cells rr) (2 * k + 1) (pos 0) ≡ cell 2 (get_or rr k [])
unfolding flat_map
start_in [] k = get_or-eq_default [] (pos 0) {n = 2 * k + 1} (omega arith) ∙ ap (cell 2) (sym (get_or-eq_default [] [] {n = k} (omega arith)))
start_in (x ∷ rr) zero = refl
start_in (x ∷ rr) (suc k) =
    let z : 2 * suc k + 1 ≡ suc (suc (2 * k + 1)) = omega arith in
    ap (λ (i : ℕ). get_or (flat_map owner_cells (x ∷ rr)) i (pos 0)) z ∙ start_in rr k

module _ (rr : List Row) where
  owned_cells : List ℤ
  owned_cells = kept 128 (pos 0) (flat_map owner_cells rr)

  portfolio_at : (k : ℕ) → k < 64 → cell_at owned_cells (2 * k) ≡ cell 1 (get_or rr k [])
  unfolding owned_cells kept
  portfolio_at k h = sets_read 128 (pos 0) (flat_map owner_cells rr) (2 * k) (omega arith) ∙ portfolio_in rr k

  start_at : (k : ℕ) → k < 64 → cell_at owned_cells (2 * k + 1) ≡ cell 2 (get_or rr k [])
  unfolding owned_cells kept
  start_at k h = sets_read 128 (pos 0) (flat_map owner_cells rr) (2 * k + 1) (omega arith) ∙ start_in rr k

  -- the line of resource k by these cells has the cells of its own
  owner_in : (k : ℕ) → k < 64 → k < length rr → get_or (owner_rows owned_cells (min (length rr) 64)) k [] ≡ pos 0 ∷ cell 1 (get_or rr k []) ∷ cell 2 (get_or rr k []) ∷ []
  unfolding owner_rows
  owner_in k h l =
      listed_at (λ r. pos 0 ∷ cell_at owned_cells (2 * r) ∷ cell_at owned_cells (2 * r + 1) ∷ []) [] (min (length rr) 64) k (omega arith)
      ∙ ap (λ (z : ℤ). pos 0 ∷ z ∷ cell_at owned_cells (2 * k + 1) ∷ []) (portfolio_at k h) ∙ ap (λ (z : ℤ). pos 0 ∷ cell 1 (get_or rr k []) ∷ z ∷ []) (start_at k h)

  owner_cell : (j k : ℕ) → k < 64 → ((x : Row) → cell j (pos 0 ∷ cell 1 x ∷ cell 2 x ∷ []) ≡ cell j x) → cell j (get_or (owner_rows owned_cells (min (length rr) 64)) k []) ≡ cell j (get_or rr k [])
  owner_cell j k h e = ⊎_elim
      (λ l. ap (cell j) (get_or-eq_default (owner_rows owned_cells (min (length rr) 64)) [] {n = k} (omega (arith, owners_length owned_cells (min (length rr) 64)))) ∙ ap (cell j) (sym (get_or-eq_default rr [] {n = k} l)))
      (λ l. ap (cell j) (owner_in k h l) ∙ e (get_or rr k [])) (le_or_lt (length rr) k)

  pub with_is : (month : ℤ) (pr : List Row) (ss ps : List (List Row)) (cs : List Row) → length ss ≡ length rr → length ps ≡ length rr → length cs ≡ length rr
      → opening_with month (length pr) (kept 16 (pos 0) (map (cell 1) pr)) (length rr) (kept 128 (pos 0) (flat_map owner_cells rr)) ss ps cs ≡ opening_of month pr rr ss ps cs
  unfolding opening_with opening_of owned_cells
  with_is month pr ss ps cs a b c =
      let sellers = kept 16 (pos 0) (map (cell 1) pr) in
      let blanks = resource_of [] [] [] [] in
      let rows = owner_rows owned_cells (min (length rr) 64) in
      opening_by (sym (listed_is (pos 0) sellers (cell_at sellers) most_portfolios (kept_length 16 (pos 0) (map (cell 1) pr)) (λ q h. refl)))
      (sym (listed_is blanks (kept 64 blanks (resources_of rr ss ps cs)) (λ r. resource_of (get_or rows r []) (get_or ss r []) (get_or ps r []) (get_or cs r [])) most_resources (kept_length 64 blanks (resources_of rr ss ps cs))
      (λ q h. kept_get (resources_of rr ss ps cs) q h ∙ resources_at rr ss ps cs a b c q
      ∙ sym (resource_by (get_or rows q []) (get_or rr q []) (get_or ss q []) (get_or ps q []) (get_or cs q []) (owner_cell 1 q h (λ x. refl)) (owner_cell 2 q h (λ x. refl))))))
