-- Laws of the last three tables of the part that opens an hour: table after table. Assumes nothing.
use Rattle.std.specs.Prelude.{None, Some}
use Prim.Native.Nat.{ℕ, suc, ◌+◌, ◌*◌, ◌-◌, ◌≤◌}
use Prim.Native.String.{String}
use mathlib.Core.Path.{◌≡◌, refl, sym, ap, ◌∙◌}
use mathlib.Core.List.{List, [], ◌∷◌}
use mathlib.Core.Bool.{true}
use native.Mathlib.Omega.{arith}
use lib.IntN.{ℤ}
use lib.ListN.{length, drop}
use lib.Seq.{sets, length-sets}
use Rattle.rules_text.specs.Numbers.{Line, Row, bytes, lines}
use Rattle.rules_text.specs.Tables.{Reading, faulty, found, next, headed, grouped, pairs, each}
use Rattle.rules_text.specs.Offsets.{names_at, bytes_of}
use Rattle.rules_text.proofs.NameLaws.{is_line, not_headed, past_names}
use Rattle.rules_text.proofs.StageLaws.{Stage, names_few}
use Rattle.rules_text.proofs.UsedLaws.{Used, used_names, used_then, Rises, rises_grouped}
use Rattle.rules_state.specs.Layout.{block_room}
use Rattle.text_blocks.specs.Blocks.{group_cells, charge_cells, blocks_put, blocks_of, steps_from, points_from, charges_from, last_single, last_two, last_three}

pub blocks_length : {A : Type 0} (f : A → List ℤ) (from r : ℕ) (l : List ℤ) (xs : List A) → length (blocks_put f from r l xs) ≡ length l
unfolding blocks_put
blocks_length f from r l [] = refl
blocks_length f from r l (x ∷ xs) = blocks_length f from (suc r) (sets l (block_room * r + from) (f x)) xs ∙ length-sets l (block_room * r + from) (f x)

-- ---- what is put of what was read
record Got {A X : Type 0} (f : A → X) (r : Reading A) (a : X) (n : ℕ) (ls : List Line) : Type 0 where
  x : A
  is : r ≡ found x n ls
  keeps : a ≡ f x

got : {A X : Type 0} (f : A → X) (r : Reading A) (a : X) (n : ℕ) (ls : List Line) → found a n ls ≡ next r (λ x. found (f x)) → Got f r a n ls
got f (faulty k) a n ls e = let z : ◌≡◌ {A = ℕ} 0 1 = cc in absurd (omega arith)
got f (found x k rest) a n ls e = record { x = x; is = (let p : k ≡ n = cc in let q : rest ≡ ls = cc in ap (λ (i : ℕ). found x i rest) p ∙ ap (found x n) q); keeps = cc }

-- ---- a table of groups with its names line
pub record Grouped (names : String) (m from : ℕ) (s : List ℕ) (n at : ℕ) (l l' : List ℤ) (n' at' : ℕ) : Type 0 where
  pub gs : List (List Row)
  pub stage : Stage (headed names (grouped pairs m 0)) s n at gs n' at'
  pub keeps : l' ≡ blocks_put group_cells from 0 l gs

pub group_stage : (names : String) → is_line (bytes names) ≡ true → (m from : ℕ) (s : List ℕ) (n at q : ℕ) → Some q ≡ names_at s at (bytes names) → (l l' : List ℤ) (n' at' : ℕ)
    → found l' n' (lines (drop at' s)) ≡ next (grouped pairs m 0 (n + 1) (lines (drop q s))) (λ gs. found (blocks_put group_cells from 0 l gs))
    → n' + length (lines (drop at' s)) ≤ n + 1 + length (lines (drop q s)) → at' ≡ q + bytes_of (n' - (n + 1)) (lines (drop q s)) → Grouped names m from s n at l l' n' at'
group_stage names w m from s n at q e l l' n' at' f h o =
    let r = grouped pairs m 0 (n + 1) (lines (drop q s)) in
    let g = got (blocks_put group_cells from 0 l) r l' n' (lines (drop at' s)) f in
    let d = names_few names s at w q e in
    record {
      gs = g.x;
      stage = record {
        is = past_names names (grouped pairs m 0) n s at w q e ∙ g.is;
        few = omega arith;
        used = used_then (used_names names s n at w q e) (record { up = rises_grouped pairs m 0 (n + 1) (lines (drop q s)) g.x n' (lines (drop at' s)) g.is; offset = o });
      };
      keeps = g.keeps;
    }

-- ---- the last three tables, one by one
abbrev pub step_names : String
step_names = "resource end price\n"

abbrev pub point_names : String
point_names = "resource mw heat\n"

abbrev pub cost_names : String
cost_names = "resource gas rate allowance om msc soc fee\n"

module _ {X : Type 0} (m : ℕ) (s : List ℕ) (n at : ℕ) where
  pub unnamed_three : (made : List (List Row) → List (List Row) → List Row → X) → None ≡ names_at s at (bytes step_names) → last_three m made n (lines (drop at s)) ≡ faulty (n + 1)
  unnamed_three made e = ap (λ (r : Reading (List (List Row))). next r (λ steps. last_two m (made steps))) (not_headed step_names (grouped pairs m 0) n s at refl e)

  pub unnamed_two : (made : List (List Row) → List Row → X) → None ≡ names_at s at (bytes point_names) → last_two m made n (lines (drop at s)) ≡ faulty (n + 1)
  unnamed_two made e = ap (λ (r : Reading (List (List Row))). next r (λ points. last_single m (made points))) (not_headed point_names (grouped pairs m 0) n s at refl e)

  pub unnamed_one : (made : List Row → X) → None ≡ names_at s at (bytes cost_names) → last_single m made n (lines (drop at s)) ≡ faulty (n + 1)
  unnamed_one made e = ap (λ (r : Reading (List Row)). next r (λ costs. found (made costs))) (not_headed cost_names (each 8 m 0) n s at refl e)

  pub past_three : (made : List (List Row) → List (List Row) → List Row → X) (gs : List (List Row)) (n' at' : ℕ) → Stage (headed step_names (grouped pairs m 0)) s n at gs n' at'
      → last_three m made n (lines (drop at s)) ≡ last_two m (made gs) n' (lines (drop at' s))
  past_three made gs n' at' g = ap (λ (r : Reading (List (List Row))). next r (λ steps. last_two m (made steps))) g.is

  pub past_two : (made : List (List Row) → List Row → X) (gs : List (List Row)) (n' at' : ℕ) → Stage (headed point_names (grouped pairs m 0)) s n at gs n' at'
      → last_two m made n (lines (drop at s)) ≡ last_single m (made gs) n' (lines (drop at' s))
  past_two made gs n' at' g = ap (λ (r : Reading (List (List Row))). next r (λ points. last_single m (made points))) g.is

  pub past_one : (made : List Row → X) (q : ℕ) → Some q ≡ names_at s at (bytes cost_names)
      → last_single m made n (lines (drop at s)) ≡ next (each 8 m 0 (n + 1) (lines (drop q s))) (λ costs. found (made costs))
  past_one made q e = ap (λ (r : Reading (List Row)). next r (λ costs. found (made costs))) (past_names cost_names (each 8 m 0) n s at refl q e)

-- the charges, put after the steps and the points
pub blocks_last : (r : Reading (List Row)) (l one two : List ℤ) (steps points : List (List Row)) → one ≡ blocks_put group_cells steps_from 0 l steps → two ≡ blocks_put group_cells points_from 0 one points
    → next r (λ costs. found (blocks_put charge_cells charges_from 0 two costs)) ≡ next r (λ costs. found (blocks_of l steps points costs))
unfolding blocks_of
blocks_last r l one two steps points e f =
    ap (λ (k : List ℤ). next r (λ costs. found (blocks_put charge_cells charges_from 0 k costs))) (f ∙ ap (λ (k : List ℤ). blocks_put group_cells points_from 0 k points) e)

-- the offset after what is read, after lines that are used
pub read_after : {s : List ℕ} {n at n' at' : ℕ} → Used s n at n' at' → (l : List ℤ) (line q : ℕ) (r : Reading (List ℤ)) → found l line (lines (drop q s)) ≡ r → Rises n' r
    → q ≡ at' + bytes_of (line - n') (lines (drop at' s)) → q ≡ at + bytes_of (line - n) (lines (drop at s))
read_after {s = s} u l line q r e h o = (used_then u (record { up = h l line (lines (drop q s)) (sym e); offset = o })).offset
