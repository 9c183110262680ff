-- Laws of tables put block by block by a loop: what is still to be read, put after what is put, is the whole. Assumes nothing.
use Rattle.std.specs.Prelude.{None, Option, Some}
use Prim.Native.Nat.{ℕ, suc, ◌+◌, ◌*◌, ◌-◌, ◌≤◌, ◌<◌, min}
use mathlib.Core.Path.{◌≡◌, refl, sym, ap, ◌∙◌}
use mathlib.Core.List.{List, [], ◌∷◌}
use mathlib.Core.Logic.{⊎_elim}
use native.Mathlib.Omega.{arith}
use native.Mathlib.Numerals.{add-one}
use lib.IntN.{ℤ, pos}
use native.Mathlib.Nat.{add-zero}
use lib.ListN.{length, drop, get_or, set, length-drop, drop_of_length-le}
use lib.Seq.{sets, length-sets, set_comm, get_or-drop}
use Rattle.rules_number.proofs.OverLaws.{le_or_lt}
use Rattle.rules_number.proofs.ListedLaws.{listed_is}
use Rattle.rules_text.proofs.ListLaws.{at_cons}
use Rattle.rules_text.specs.Numbers.{Line, Row, lines, row}
use Rattle.rules_text.specs.Tables.{Reading, Reader, faulty, found, next, cell, has_id, if_suits, rows, grouped, pairs, each}
use Rattle.rules_text.proofs.LineLaws.{line, after, lines_some}
use Rattle.rules_text.proofs.TableLaws.{row_there, due_none, due_some}
use Rattle.rules_text.proofs.StageLaws.{run_few}
use Rattle.rules_state.specs.Layout.{block_room}
use Rattle.cells.proofs.PutLaws.{sets_out}
use Rattle.text_blocks.specs.Blocks.{pairs_to, group_cells, charge_cells, blocks_put}

join : {A B C : Type 0} (r : Reading A) (g : A → B) (h : B → Reader C) → next (next r (λ a. found (g a))) h ≡ next r (λ a. h (g a))
join (faulty line) g h = refl
join (found a n ls) g h = refl

pub pairs_few : (r : ℕ) (ls : List Line) → length (pairs r ls) ≤ length ls
unfolding pairs
pairs_few r ls = run_few 3 (λ i. has_id r) (λ i x. i) 0 ls

-- past the 64th block no cell is left
pub place_same : (l : List ℤ) (r from : ℕ) (vs : List ℤ) → length l ≤ 5120 → sets l (block_room * min r 64 + from) vs ≡ sets l (block_room * r + from) vs
place_same l r from vs h = ⊎_elim past here (le_or_lt 64 r)
  where
    past : 64 ≤ r → sets l (block_room * min r 64 + from) vs ≡ sets l (block_room * r + from) vs
    past k =
        let e : min r 64 ≡ 64 = omega arith in
        sets_out l (block_room * min r 64 + from) vs (omega arith) ∙ sym (sets_out l (block_room * r + from) vs (omega arith))

    here : r < 64 → sets l (block_room * min r 64 + from) vs ≡ sets l (block_room * r + from) vs
    here k = let e : min r 64 ≡ r = omega arith in ap (λ (i : ℕ). sets l (block_room * i + from) vs) e

-- a store before a run of stores may come after it
set_last : {A : Type 0} (l : List A) (i j : ℕ) (x : A) (vs : List A) → i < j → set (sets l j vs) i x ≡ sets (set l i x) j vs
set_last l i j x [] h = refl
set_last l i j x (v ∷ vs) h = set_last (set l j v) i (suc j) x vs (omega arith) ∙ ap (λ (m : List _). sets m (suc j) vs) (set_comm l j i v x (λ e. omega arith))

-- the values of a group, and then their number before them
pub group_put : (l values out : List ℤ) (i : ℕ) (g : List Row) (n : ℤ) → values ≡ sets l (i + 1) (pairs_to 11 g) → out ≡ set values i n → n ≡ pos (length g) → out ≡ sets l i (group_cells g)
unfolding group_cells
group_put l values out i g n ev eo en =
    eo ∙ ap (λ (m : List ℤ). set m i n) ev ∙ ap (λ (z : ℤ). set (sets l (i + 1) (pairs_to 11 g)) i z) en
    ∙ set_last l i (i + 1) (pos (length g)) (pairs_to 11 g) (omega arith) ∙ ap (λ (j : ℕ). sets (set l i (pos (length g))) j (pairs_to 11 g)) (add-one i)

-- ---- the charges of a cost line
-- the first of them are put, and the rest, put after them, gives the whole
module _ (v a : List ℤ) (at : ℕ) where
  abbrev pub ChargesLeft : List ℤ → ℕ → Type 0
  ChargesLeft out k = sets out (at + k) (drop (k + 1) v) ≡ sets a at (drop 1 v)

  pub charges_begin : ChargesLeft a 0
  charges_begin = ap (λ (i : ℕ). sets a i (drop 1 v)) (add-zero at)

  pub charges_go_on : (out : List ℤ) (k : ℕ) (after : List ℤ) → ChargesLeft out k → k + 1 < length v → after ≡ set out (at + k) (get_or v (k + 1) (pos 0)) → ChargesLeft after (k + 1)
  charges_go_on out k after e h n =
      let z : at + (k + 1) ≡ suc (at + k) = omega arith in
      ap (λ (m : List ℤ). sets m (at + (k + 1)) (drop (k + 1 + 1) v)) n
      ∙ ap (λ (i : ℕ). sets (set out (at + k) (get_or v (k + 1) (pos 0))) i (drop (k + 1 + 1) v)) z
      ∙ ap (sets out (at + k)) (sym (at_cons (pos 0) v (k + 1) h)) ∙ e

  pub charges_end : (out : List ℤ) (k : ℕ) → ChargesLeft out k → length v ≤ k + 1 → out ≡ sets a at (drop 1 v)
  charges_end out k e h = ap (sets out (at + k)) (sym (drop_of_length-le v h)) ∙ e

pub charges_are : (v : List ℤ) (x : Row) → length v ≡ 8 → ((j : ℕ) → j < 8 → get_or v j (pos 0) ≡ cell j x) → drop 1 v ≡ charge_cells x
unfolding charge_cells
charges_are v x h e = listed_is (pos 0) (drop 1 v) (λ k. cell (suc k) x) 7 (omega (arith, length-drop 1 v)) (λ q l. let z : 1 + q ≡ suc q = omega arith in get_or-drop 1 v q (pos 0) ∙ e (1 + q) (omega arith) ∙ ap (λ (j : ℕ). cell j x) z)

module _ (from : ℕ) where
  -- ---- groups
  -- the groups of m resources from r on, put after those before
  abbrev Groups : ℕ → ℕ → ℕ → List ℤ → List Line → Reading (List ℤ)
  Groups m r n a ls = next (grouped pairs m r n ls) (λ gs. found (blocks_put group_cells from r a gs))

  groups_end : (r n : ℕ) (a : List ℤ) (ls : List Line) → Groups 0 r n a ls ≡ found a n ls
  unfolding grouped blocks_put
  groups_end r n a ls = refl

  groups_turn : (m r n : ℕ) (a : List ℤ) (ls : List Line)
      → Groups (suc m) r n a ls ≡ Groups m (suc r) (n + length (pairs r ls)) (sets a (block_room * r + from) (group_cells (pairs r ls))) (drop (length (pairs r ls)) ls)
  unfolding grouped rows blocks_put
  groups_turn m r n a ls = join (grouped pairs m (suc r) (n + length (pairs r ls)) (drop (length (pairs r ls)) ls)) (λ gs. pairs r ls ∷ gs) (λ gs. found (blocks_put group_cells from r a gs))

  -- r of m groups are put in a, n lines are read, and the lines ls are left
  pub record Grouping (m r n : ℕ) (a : List ℤ) (ls : List Line) (W : Reading (List ℤ)) (limit room : ℕ) : Type 0 where
    pub within : r ≤ m
    pub whole : Groups (m - r) r n a ls ≡ W
    pub few : n + length ls ≤ limit
    pub long : length a ≡ room

  pub grouping_start : (m n : ℕ) (a : List ℤ) (ls : List Line) → Grouping m 0 n a ls (Groups m 0 n a ls) (n + length ls) (length a)
  grouping_start m n a ls =
      let z : m - 0 ≡ m = omega arith in
      record { within = omega arith; whole = ap (λ (k : ℕ). Groups k 0 n a ls) z; few = omega arith; long = refl }

  module _ (m r n : ℕ) (a : List ℤ) (ls : List Line) (W : Reading (List ℤ)) (limit room : ℕ) (h : Grouping m r n a ls W limit room) where
    pub grouping_end : m ≤ r → found a n ls ≡ W
    grouping_end past =
        let z : m - r ≡ 0 = omega arith in
        sym (groups_end r n a ls) ∙ ap (λ (k : ℕ). Groups k r n a ls) (sym z) ∙ h.whole

    module _ (here : r < m) (count : ℕ) (ec : count ≡ length (pairs r ls)) (rest : List Line) (er : rest ≡ drop count ls) where
      group_few : n + count + length rest ≤ n + length ls
      group_few =
          let g = pairs_few r ls in
          let d = length-drop count ls in
          let l = ap length er in
          omega arith

      pub line_fits : n + count ≤ limit
      line_fits = let k = group_few in let l = h.few in omega arith

      pub grouping_turn : (b : List ℤ) → b ≡ sets a (block_room * r + from) (group_cells (pairs r ls)) → Grouping m (r + 1) (n + count) b rest W limit room
      grouping_turn b eb =
          let z : m - r ≡ suc (m - (r + 1)) = omega arith in
          let k = group_few in
          let l = h.few in
          let put = sets a (block_room * r + from) (group_cells (pairs r ls)) in
          record {
            within = omega arith;
            whole = ap (λ (i : ℕ). Groups (m - (r + 1)) i (n + count) b rest) (add-one r)
                ∙ ap (λ (c : List ℤ). Groups (m - (r + 1)) (suc r) (n + count) c rest) eb
                ∙ ap (λ (c : List Line). Groups (m - (r + 1)) (suc r) (n + count) put c) er
                ∙ ap (λ (i : ℕ). Groups (m - (r + 1)) (suc r) (n + i) put (drop i ls)) ec
                ∙ sym (groups_turn (m - (r + 1)) r n a ls)
                ∙ ap (λ (i : ℕ). Groups i r n a ls) (sym z) ∙ h.whole;
            few = omega arith;
            long = ap length eb ∙ length-sets a (block_room * r + from) (group_cells (pairs r ls)) ∙ h.long;
          }

  -- ---- one line for each resource
  abbrev Each : ℕ → ℕ → ℕ → List ℤ → List Line → Reading (List ℤ)
  Each m r n a ls = next (each 8 m r n ls) (λ xs. found (blocks_put charge_cells from r a xs))

  abbrev is_one : ℕ → Line → Option Row
  is_one r l = if_suits (has_id r) (row 8 l)

  each_end : (r n : ℕ) (a : List ℤ) (ls : List Line) → Each 0 r n a ls ≡ found a n ls
  unfolding each blocks_put
  each_end r n a ls = refl

  each_none : (m r n : ℕ) (a : List ℤ) (t : List ℕ) → is_one r (line t) ≡ None → Each (suc m) r n a (lines t) ≡ faulty (n + 1)
  unfolding each
  each_none m r n a t e = rw (due_none (is_one r) n t e) refl

  each_turn : (m r n : ℕ) (a : List ℤ) (t : List ℕ) (x : Row) → is_one r (line t) ≡ Some x
      → Each (suc m) r n a (lines t) ≡ Each m (suc r) (n + 1) (sets a (block_room * r + from) (charge_cells x)) (lines (after t))
  unfolding each blocks_put
  each_turn m r n a t x e =
      rw (due_some (is_one r) n t x (row_there (has_id r) 7 x t e) e)
      (join (each 8 m (suc r) (n + 1) (lines (after t))) (λ xs. x ∷ xs) (λ xs. found (blocks_put charge_cells from r a xs)))

  -- r of m lines are put in a, n lines are read, and the text t is left
  pub record Pricing (m r n : ℕ) (a : List ℤ) (t : List ℕ) (W : Reading (List ℤ)) (limit room : ℕ) : Type 0 where
    pub within : r ≤ m
    pub whole : Each (m - r) r n a (lines t) ≡ W
    pub few : n + length (lines t) ≤ limit
    pub long : length a ≡ room

  pub pricing_start : (m n : ℕ) (a : List ℤ) (t : List ℕ) → Pricing m 0 n a t (Each m 0 n a (lines t)) (n + length (lines t)) (length a)
  pricing_start m n a t =
      let z : m - 0 ≡ m = omega arith in
      record { within = omega arith; whole = ap (λ (k : ℕ). Each k 0 n a (lines t)) z; few = omega arith; long = refl }

  module _ (m r n : ℕ) (a : List ℤ) (t : List ℕ) (W : Reading (List ℤ)) (limit room : ℕ) (h : Pricing m r n a t W limit room) where
    pub pricing_end : m ≤ r → found a n (lines t) ≡ W
    pricing_end past =
        let z : m - r ≡ 0 = omega arith in
        sym (each_end r n a (lines t)) ∙ ap (λ (k : ℕ). Each k r n a (lines t)) (sym z) ∙ h.whole

    module _ (here : r < m) where
      pub pricing_none : is_one r (line t) ≡ None → faulty (n + 1) ≡ W
      pricing_none e =
          let z : m - r ≡ suc (m - (r + 1)) = omega arith in
          sym (each_none (m - (r + 1)) r n a t e) ∙ ap (λ (i : ℕ). Each i r n a (lines t)) (sym z) ∙ h.whole

      pub pricing_turn : (x : Row) → is_one r (line t) ≡ Some x → (b : List ℤ) → b ≡ sets a (block_room * r + from) (charge_cells x) → (u : List ℕ) → u ≡ after t
          → Pricing m (r + 1) (n + 1) b u W limit room
      pricing_turn x e b eb u eu =
          let z : m - r ≡ suc (m - (r + 1)) = omega arith in
          let l : lines t ≡ line t ∷ lines u = lines_some t (row_there (has_id r) 7 x t e) ∙ ap (λ (k : List ℕ). line t ∷ lines k) (sym eu) in
          let d = ap length l in
          let k = h.few in
          let put = sets a (block_room * r + from) (charge_cells x) in
          record {
            within = omega arith;
            whole = ap (λ (i : ℕ). Each (m - (r + 1)) i (n + 1) b (lines u)) (add-one r)
                ∙ ap (λ (c : List ℤ). Each (m - (r + 1)) (suc r) (n + 1) c (lines u)) eb
                ∙ ap (λ (c : List ℕ). Each (m - (r + 1)) (suc r) (n + 1) put (lines c)) eu
                ∙ sym (each_turn (m - (r + 1)) r n a t x e)
                ∙ ap (λ (i : ℕ). Each i r n a (lines t)) (sym z) ∙ h.whole;
            few = omega arith;
            long = ap length eb ∙ length-sets a (block_room * r + from) (charge_cells x) ∙ h.long;
          }
