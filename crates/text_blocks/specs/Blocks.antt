-- The numbers that the tables of a text put into blocks of 80, a block for each resource.
use Rattle.std.specs.Prelude.{ℕ, zero, suc, ◌+◌, ◌*◌, min, List, [], ◌∷◌, ℤ, pos, length, get_or}
use Rattle.std.proofs.lemmas.List.Edits.{sets}
use Rattle.rules_number.specs.Over.{listed}
use Rattle.rules_text.specs.Numbers.{Row}
use Rattle.rules_text.specs.Tables.{Reader, found, ◌▷◌, headed, cell, grouped, pairs, each}
use Rattle.rules_opening.specs.declared.Opening.{Opening}
use Rattle.rules_parts.specs.Parts.{resource_of}
use Rattle.rules_library.specs.Slices.{cell_at}
use Rattle.rules_state.specs.Layout.{most_resources, most_portfolios, block_room}
use Rattle.rules_state.specs.Openings.{numbers_in}

-- the two values of each of the first n lines, in turn
unfoldable pub pairs_to : ℕ → List Row → List ℤ
pairs_to zero xs = []
pairs_to (suc n) [] = []
pairs_to (suc n) (x ∷ xs) = cell 1 x ∷ cell 2 x ∷ pairs_to n xs

-- a resource's lines of steps, or of points: how many they are, then those for which there is room
unfoldable pub group_cells : List Row → List ℤ
group_cells xs = pos (length xs) ∷ pairs_to 11 xs

-- the portfolio and the start of a resource's own line
abbrev pub owner_cells : Row → List ℤ
owner_cells x = cell 1 x ∷ cell 2 x ∷ []

-- such lines of n resources, by the portfolio and the start of each in turn
unfoldable pub owner_rows : List ℤ → ℕ → List Row
owner_rows owners n = listed (λ r. pos 0 ∷ cell_at owners (2 * r) ∷ cell_at owners (2 * r + 1) ∷ []) n

-- the charges of a cost line
unfoldable pub charge_cells : Row → List ℤ
charge_cells x = listed (λ k. cell (suc k) x) 7

-- numbers of each of some resources, from r on, put at cell `from` of its block
unfoldable pub blocks_put : {A : Type 0} → (A → List ℤ) → ℕ → ℕ → List ℤ → List A → List ℤ
blocks_put f from r l [] = l
blocks_put f from r l (x ∷ xs) = blocks_put f from (suc r) (sets l (block_room * r + from) (f x)) xs

-- ---- the part's last three tables, of m resources
abbrev pub last_single : {X : Type 0} → ℕ → (List Row → X) → Reader X
last_single m made = headed "resource gas rate allowance om msc soc fee\n" (each 8 m 0) ▷ λ costs. found (made costs)

abbrev pub last_two : {X : Type 0} → ℕ → (List (List Row) → List Row → X) → Reader X
last_two m made = headed "resource mw heat\n" (grouped pairs m 0) ▷ λ points. last_single m (made points)

abbrev pub last_three : {X : Type 0} → ℕ → (List (List Row) → List (List Row) → List Row → X) → Reader X
last_three m made = headed "resource end price\n" (grouped pairs m 0) ▷ λ steps. last_two m (made steps)

-- what they put into blocks
abbrev pub steps_from : ℕ
steps_from = 2

abbrev pub points_from : ℕ
points_from = 26

abbrev pub charges_from : ℕ
charges_from = 49

unfoldable pub blocks_of : List ℤ → List (List Row) → List (List Row) → List Row → List ℤ
blocks_of l steps points costs =
    blocks_put charge_cells charges_from 0 (blocks_put group_cells points_from 0 (blocks_put group_cells steps_from 0 l steps) points) costs

-- the opening with these marks, portfolios and starts, and tables of m resources
unfoldable pub opening_with : ℤ → ℕ → List ℤ → ℕ → List ℤ → List (List Row) → List (List Row) → List Row → Opening
opening_with month portfolios sellers m owners steps points costs = record {
  month = month;
  portfolios = portfolios;
  sellers = numbers_in sellers most_portfolios;
  resources = m;
  list = listed (λ r. resource_of (get_or (owner_rows owners (min m 64)) r []) (get_or steps r []) (get_or points r []) (get_or costs r [])) most_resources;
}
