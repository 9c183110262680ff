-- Laws of the part that opens an hour: its first three tables, before the last three. Assumes nothing.
use Rattle.std.specs.Prelude.{None, Some}
use Prim.Native.Nat.{ℕ, ◌+◌, ◌*◌, ◌-◌, ◌≤◌, min}
use mathlib.Core.Path.{◌≡◌, refl, sym, ap, ◌∙◌}
use mathlib.Core.List.{List, map, flat_map}
use mathlib.Core.Bool.{true}
use native.Mathlib.Omega.{arith}
use lib.IntN.{ℤ, pos}
use lib.ListN.{length, drop, replicate}
use lib.Seq.{sets}
use Rattle.rules_opening.specs.Openings.{opening_refusal}
use Rattle.rules_opening.specs.declared.Opening.{Opening}
use Rattle.rules_text.specs.Numbers.{Line, Row, bytes, lines, row}
use Rattle.rules_text.specs.Tables.{Reading, Reader, faulty, found, next, ◌▷◌, headed, due, single, one, if_suits, cell, has_id, rows, counting, counted}
use Rattle.rules_text.specs.Offsets.{names_at, kept, bytes_of}
use Rattle.rules_text.proofs.LineLaws.{line, lines_after, lines_some, next_lines}
use Rattle.rules_text.proofs.NameLaws.{not_headed, past_names}
use Rattle.rules_text.proofs.StageLaws.{Stage, names_few, run_few, table_rows, table}
use Rattle.rules_text.proofs.TableLaws.{row_there, due_none, due_some}
use Rattle.rules_text.proofs.UsedLaws.{used_names, used_line, used_then, Rises, rises_found, rises_then, rises_headed}
use Rattle.rules_parts.specs.Parts.{opening_of, read_opening}
use Rattle.rules_state.specs.Layout.{block_room}
use Rattle.rules_state.specs.Openings.{opening_in}
use Rattle.text_blocks.specs.Blocks.{owner_cells, owner_rows, blocks_put, blocks_of, last_three, opening_with}
use Rattle.rules_state.specs.Layout.{hour_room}
use Rattle.rules_state.specs.Calls.{holds}
use Rattle.opening_part.specs.Parts.{last_four, headed_four, part_in, part_answer, part_state, lines_then, Opened}
use Rattle.opening_part.specs.declared.PartOpened.{PartOpened}
use Rattle.text_blocks.proofs.LongLaws.{last_same, rises_last}
use Rattle.text_blocks.proofs.OpeningLaws.{owners_room, blocks_decode, with_is}
use Rattle.opening_part.proofs.OpenedLaws.{opened_as, opened_on}

-- ---- the last three tables, put into zeros after portfolios and starts
blocks_open : (month : ℤ) (portfolios : ℕ) (sellers : List ℤ) (m : ℕ) (owners : List ℤ) (room : ℕ) → block_room * min m 64 ≤ room
    → (l : List ℤ) → l ≡ blocks_put owner_cells 0 0 (replicate room (pos 0)) (owner_rows owners (min m 64)) → (n : ℕ) (ls : List Line)
    → last_three m (λ steps points costs. opening_in month portfolios sellers m (blocks_of l steps points costs)) n ls ≡ last_three m (opening_with month portfolios sellers m owners) n ls
blocks_open month portfolios sellers m owners room fits l el n ls =
    last_same m (λ steps points costs. opening_in month portfolios sellers m (blocks_of l steps points costs)) (opening_with month portfolios sellers m owners)
    (λ steps points costs a b c. ap (λ (k : List ℤ). opening_in month portfolios sellers m (blocks_of k steps points costs)) el
    ∙ blocks_decode month portfolios sellers m owners room fits steps points costs a b c) n ls

-- what is opened of them
pub opened_blocks : (s : List ℕ) (n at : ℕ) (month : ℤ) (portfolios : ℕ) (sellers : List ℤ) (m : ℕ) (owners : List ℤ) (room : ℕ) → block_room * min m 64 ≤ room
    → (l : List ℤ) → l ≡ blocks_put owner_cells 0 0 (replicate room (pos 0)) (owner_rows owners (min m 64)) → (b a : List ℤ) (r : PartOpened)
    → Opened s n at (last_three m (λ steps points costs. opening_in month portfolios sellers m (blocks_of l steps points costs)) n (lines (drop at s))) b a r
    → Opened s n at (last_three m (opening_with month portfolios sellers m owners) n (lines (drop at s))) b a r
opened_blocks s n at month portfolios sellers m owners room fits l el b a r =
    opened_as s n at _ (last_three m (opening_with month portfolios sellers m owners) n (lines (drop at s))) b a r (blocks_open month portfolios sellers m owners room fits l el n (lines (drop at s)))

-- ---- the resources
-- the opening is the same by cells that say the same of its resources
with_same : (month : ℤ) (portfolios : ℕ) (sellers : List ℤ) (m : ℕ) (owners owners' : List ℤ) → owner_rows owners (min m 64) ≡ owner_rows owners' (min m 64) → (n : ℕ) (ls : List Line)
    → last_three m (opening_with month portfolios sellers m owners) n ls ≡ last_three m (opening_with month portfolios sellers m owners') n ls
unfolding opening_with
with_same month portfolios sellers m owners owners' e n ls =
    last_same m (opening_with month portfolios sellers m owners) (opening_with month portfolios sellers m owners') (λ steps points costs a b c. rw e) n ls

module _ (month : ℤ) (portfolios : ℕ) (sellers : List ℤ) (s : List ℕ) (n at : ℕ) where
  abbrev from : List Row → Reader Opening
  from rr = last_three (length rr) (opening_with month portfolios sellers (length rr) (kept 128 (pos 0) (flat_map owner_cells rr)))

  pub unnamed_four : None ≡ names_at s at (bytes "resource portfolio start\n") → headed_four month portfolios sellers n (lines (drop at s)) ≡ faulty (n + 1)
  unnamed_four e = ap (λ (r : Reading (List Row)). next r from) (not_headed "resource portfolio start\n" (counted 3) n s at refl e)

  pub named_four : (q : ℕ) → Some q ≡ names_at s at (bytes "resource portfolio start\n") → last_four month portfolios sellers (n + 1) (lines (drop q s)) ≡ headed_four month portfolios sellers n (lines (drop at s))
  named_four q e = sym (ap (λ (r : Reading (List Row)). next r from) (past_names "resource portfolio start\n" (counted 3) n s at refl q e))

  pub past_four : (rr : List Row) (n' at' : ℕ) → Stage (counted 3) s n at rr n' at' → (m : ℕ) → m ≡ length rr → (room : ℕ) → 2 * min m 64 ≤ room
      → (owners : List ℤ) → owners ≡ sets (replicate room (pos 0)) 0 (flat_map owner_cells rr)
      → last_three m (opening_with month portfolios sellers m owners) n' (lines (drop at' s)) ≡ last_four month portfolios sellers n (lines (drop at s))
  unfolding kept
  past_four rr n' at' g m em room fits owners eo =
      with_same month portfolios sellers m owners (kept 128 (pos 0) (flat_map owner_cells rr))
      (ap (λ (l : List ℤ). owner_rows l (min m 64)) eo ∙ owners_room (flat_map owner_cells rr) room (min m 64) (omega arith) fits) n' (lines (drop at' s))
      ∙ ap (λ (k : ℕ). last_three k (opening_with month portfolios sellers k (kept 128 (pos 0) (flat_map owner_cells rr))) n' (lines (drop at' s))) em
      ∙ sym (ap (λ (r : Reading (List Row)). next r from) g.is)

pub rises_counted : (k n : ℕ) (ls : List Line) → Rises n (counted k n ls)
unfolding counted rows
rises_counted k n ls a j rest e = omega (arith, rises_found (counting k ls) (n + length (counting k ls)) (drop (length (counting k ls)) ls) a j rest e)

module _ (month : ℤ) (portfolios : ℕ) (sellers : List ℤ) (n : ℕ) (ls : List Line) where
  rises_with : (rr : List Row) (k : ℕ) (rest : List Line) → Rises k (last_three (length rr) (opening_with month portfolios sellers (length rr) (kept 128 (pos 0) (flat_map owner_cells rr))) k rest)
  rises_with rr k rest = rises_last (length rr) (opening_with month portfolios sellers (length rr) (kept 128 (pos 0) (flat_map owner_cells rr))) k rest

  pub rises_four : Rises n (last_four month portfolios sellers n ls)
  rises_four = rises_then n (counted 3 n ls) _ (rises_counted 3 n ls) rises_with

  pub rises_headed_four : Rises n (headed_four month portfolios sellers n ls)
  rises_headed_four =
      rises_then n (headed "resource portfolio start\n" (counted 3) n ls) _ (rises_headed "resource portfolio start\n" (counted 3) (rises_counted 3) n ls) rises_with

-- past the names of the resources' table
module _ (month : ℤ) (portfolios : ℕ) (sellers : List ℤ) (s : List ℕ) (n at q : ℕ) (e : Some q ≡ names_at s at (bytes "resource portfolio start\n")) where
  pub named_opened : (b a : List ℤ) (r : PartOpened) → Opened s (n + 1) q (last_four month portfolios sellers (n + 1) (lines (drop q s))) b a r
      → Opened s n at (headed_four month portfolios sellers n (lines (drop at s))) b a r
  named_opened b a r o =
      let R = last_four month portfolios sellers (n + 1) (lines (drop q s)) in
      opened_as s n at R (headed_four month portfolios sellers n (lines (drop at s))) b a r
      (named_four month portfolios sellers s n at q e)
      (opened_on s n at (n + 1) q (used_names "resource portfolio start\n" s n at refl q e) R (rises_four month portfolios sellers (n + 1) (lines (drop q s))) b a r o)

-- a table of lines that count up by one
module _ (s : List ℕ) (n at q count at' : ℕ) where
  pub portfolio_stage : Some q ≡ names_at s at (bytes "portfolio seller\n") → count ≡ length (counting 2 (lines (drop q s))) → at' ≡ q + bytes_of count (lines (drop q s))
      → Stage (headed "portfolio seller\n" (counted 2)) s n at (counting 2 (lines (drop q s))) (n + 1 + count) at'
  unfolding counted
  portfolio_stage e = table "portfolio seller\n" (counting 2) refl (run_few 2 has_id _ 0) s n at q e count at'

pub owner_stage : (s : List ℕ) (n at count at' : ℕ) → count ≡ length (counting 3 (lines (drop at s))) → at' ≡ at + bytes_of count (lines (drop at s))
    → Stage (counted 3) s n at (counting 3 (lines (drop at s))) (n + count) at'
unfolding counted
owner_stage = table_rows (counting 3) (run_few 3 has_id _ 0)

-- what is opened after the lines of the resources, whose portfolios and starts are kept where there is room for them
module _ (month : ℤ) (portfolios : ℕ) (sellers : List ℤ) (s : List ℕ) (n at count at' : ℕ) (ec : count ≡ length (counting 3 (lines (drop at s)))) (en : at' ≡ at + bytes_of count (lines (drop at s))) where
  pub owners_opened : (room : ℕ) → 2 * min count 64 ≤ room → (owners : List ℤ) → owners ≡ sets (replicate room (pos 0)) 0 (flat_map owner_cells (counting 3 (lines (drop at s))))
      → (b a : List ℤ) (r : PartOpened) → Opened s (n + count) at' (last_three count (opening_with month portfolios sellers count owners) (n + count) (lines (drop at' s))) b a r
      → Opened s n at (last_four month portfolios sellers n (lines (drop at s))) b a r
  owners_opened room fits owners eo b a r o =
      let g = owner_stage s n at count at' ec en in
      let made = opening_with month portfolios sellers count owners in
      opened_as s n at (last_three count made (n + count) (lines (drop at' s))) (last_four month portfolios sellers n (lines (drop at s))) b a r
      (past_four month portfolios sellers s n at (counting 3 (lines (drop at s))) (n + count) at' g count ec room fits owners eo)
      (opened_on s n at (n + count) at' g.used (last_three count made (n + count) (lines (drop at' s))) (rises_last count made (n + count) (lines (drop at' s))) b a r o)

-- ---- month and portfolios
abbrev owners_then : ℤ → List Row → Reader Opening
owners_then month pr = headed "resource portfolio start\n" (counted 3) ▷ λ rr. last_three (length rr) (opening_of month pr rr)

abbrev marks_then : ℤ → Reader Opening
marks_then month = headed "portfolio seller\n" (counted 2) ▷ λ pr. owners_then month pr

opening_is_lem : (n : ℕ) (ls : List Line) → read_opening n ls ≡ next (headed "month\n" (due single) n ls) marks_then
unfolding read_opening
opening_is_lem n ls = refl

next_each : {A B : Type 0} (r : Reading A) (f g : A → Reader B) → ((a : A) (n : ℕ) (ls : List Line) → f a n ls ≡ g a n ls) → next r f ≡ next r g
next_each (faulty k) f g e = refl
next_each (found a n ls) f g e = e a n ls

four_is : (month : ℤ) (pr : List Row) (n : ℕ) (ls : List Line) → headed_four month (length pr) (kept 16 (pos 0) (map (cell 1) pr)) n ls ≡ owners_then month pr n ls
four_is month pr n ls =
    next_each (headed "resource portfolio start\n" (counted 3) n ls) _ _
    (λ rr k rest. last_same (length rr) (opening_with month (length pr) (kept 16 (pos 0) (map (cell 1) pr)) (length rr) (kept 128 (pos 0) (flat_map owner_cells rr))) (opening_of month pr rr)
    (with_is rr month pr) k rest)

module _ (s : List ℕ) (n at : ℕ) where
  pub unnamed_month : None ≡ names_at s at (bytes "month\n") → read_opening n (lines (drop at s)) ≡ faulty (n + 1)
  unnamed_month e = opening_is_lem n (lines (drop at s)) ∙ ap (λ (r : Reading ℤ). next r marks_then) (not_headed "month\n" (due single) n s at refl e)

  module _ (q : ℕ) (e : Some q ≡ names_at s at (bytes "month\n")) where
    pub no_month : row 1 (line (drop q s)) ≡ None → read_opening n (lines (drop at s)) ≡ faulty (n + 1 + 1)
    unfolding single
    no_month m =
        opening_is_lem n (lines (drop at s))
        ∙ ap (λ (x : Reading ℤ). next x marks_then) (past_names "month\n" (due single) n s at refl q e ∙ due_none single (n + 1) (drop q s) (ap one m))

    pub month_stage : (x : Row) → row 1 (line (drop q s)) ≡ Some x → (at1 : ℕ) → at1 ≡ q + length (line (drop q s)) → Stage (headed "month\n" (due single)) s n at (cell 0 x) (n + 1 + 1) at1
    unfolding single
    month_stage x m at1 a =
        let there = row_there (λ y. true) 0 x (drop q s) (ap (if_suits (λ y. true)) m) in
        let after = lines_after (drop q s) ∙ sym (next_lines s q at1 a) in
        let z = ap length (lines_some (drop q s) there) in
        let y = ap length after in
        let g = names_few "month\n" s at refl q e in
        record {
          is = past_names "month\n" (due single) n s at refl q e ∙ due_some single (n + 1) (drop q s) (cell 0 x) there (ap one m) ∙ ap (found (cell 0 x) (n + 1 + 1)) after;
          few = omega arith;
          used = used_then (used_names "month\n" s n at refl q e) (used_line s (n + 1) q at1 a);
        }

  module _ (month : ℤ) (n1 at1 : ℕ) (first : Stage (headed "month\n" (due single)) s n at month n1 at1) where
    read_first : read_opening n (lines (drop at s)) ≡ marks_then month n1 (lines (drop at1 s))
    read_first = opening_is_lem n (lines (drop at s)) ∙ ap (λ (r : Reading ℤ). next r marks_then) first.is

    pub unnamed_portfolios : None ≡ names_at s at1 (bytes "portfolio seller\n") → read_opening n (lines (drop at s)) ≡ faulty (n1 + 1)
    unnamed_portfolios e = read_first ∙ ap (λ (r : Reading (List Row)). next r (owners_then month)) (not_headed "portfolio seller\n" (counted 2) n1 s at1 refl e)

    pub past_portfolios : (pr : List Row) (n2 at2 : ℕ) → Stage (headed "portfolio seller\n" (counted 2)) s n1 at1 pr n2 at2 → (count : ℕ) → count ≡ length pr
        → (sellers : List ℤ) → sellers ≡ sets (replicate 16 (pos 0)) 0 (map (cell 1) pr) → (month' : ℤ) → month' ≡ month
        → headed_four month' count sellers n2 (lines (drop at2 s)) ≡ read_opening n (lines (drop at s))
    unfolding kept
    past_portfolios pr n2 at2 g count ec sellers es month' em =
        ap (λ (z : ℤ). headed_four z count sellers n2 (lines (drop at2 s))) em
        ∙ ap (λ (k : ℕ). headed_four month k sellers n2 (lines (drop at2 s))) ec
        ∙ ap (λ (l : List ℤ). headed_four month (length pr) l n2 (lines (drop at2 s))) es
        ∙ four_is month pr n2 (lines (drop at2 s))
        ∙ sym (read_first ∙ ap (λ (r : Reading (List Row)). next r (owners_then month)) g.is)

-- ---- the answer where no line is counted before the part
answer_first : (s : List ℕ) (at : ℕ) (b : List ℤ) (R : Reading Opening)
    → part_answer (λ k. at + bytes_of (k - 0) (lines (drop at s))) b R ≡ part_answer (λ k. at + bytes_of k (lines (drop at s))) b R
unfolding part_answer
answer_first s at b (faulty line) = refl
answer_first s at b (found o k rest) =
    let z : k - 0 ≡ k = omega arith in
    ap (λ (i : ℕ). part_in (holds (hour_room o.resources) b) (opening_refusal o) k (at + bytes_of i (lines (drop at s))) o.resources) z

pub opened_first : (s : List ℕ) (at : ℕ) (R : Reading Opening) (b a : List ℤ) (r : PartOpened) → Opened s 0 at R b a r
    → (r ≡ part_answer (λ k. at + bytes_of k (lines (drop at s))) b R) × ((a ≡ part_state R b) × (r.number ≡ 0 → lines (drop r.next s) ≡ lines_then R))
opened_first s at R b a r o = (o.answer ∙ answer_first s at b R, (o.state, o.rest))
