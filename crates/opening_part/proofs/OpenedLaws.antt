-- Laws of the answer to the part that opens an hour. Assumes nothing.
use Rattle.std.specs.Prelude.{Result, Ok, Err}
use Prim.Native.Nat.{ℕ, zero, suc, ◌+◌, ◌-◌}
use mathlib.Core.Bool.{Bool, true, false}
use mathlib.Core.Path.{◌≡◌, refl, sym, ap, subst, ◌∙◌}
use mathlib.Core.List.{List}
use native.Mathlib.Omega.{arith}
use lib.IntN.{ℤ}
use lib.ListN.{drop}
use Rattle.rules_opening.specs.Openings.{opening_refusal}
use Rattle.rules_opening.specs.declared.Opening.{Opening}
use Rattle.rules_text.specs.Numbers.{Line, Row, lines}
use Rattle.rules_text.specs.Tables.{Reading, faulty, found, next}
use Rattle.rules_text.specs.Offsets.{bytes_of}
use Rattle.rules_text.proofs.UsedLaws.{Used, used_lines, used_then, Rises}
use Rattle.rules_state.specs.Layout.{hour_room}
use Rattle.rules_state.specs.Calls.{holds}
use Rattle.rules_state.specs.OpenedInto.{opened_into}
use Rattle.text_blocks.specs.Blocks.{last_three}
use Rattle.opening_part.specs.Parts.{read_cells, faulty_at, part_by, too_short_page, part_in, part_answer, part_state, Opened}
use Rattle.opening_part.specs.declared.PartOpened.{PartOpened}
use Rattle.opening_part.specs.declared.tables.TableEnd.{TableEnd}
use Rattle.text_blocks.proofs.LongLaws.{last_then}

pub opened_as : (s : List ℕ) (n at : ℕ) (R R' : Reading Opening) (b a : List ℤ) (r : PartOpened) → R ≡ R' → Opened s n at R b a r → Opened s n at R' b a r
opened_as s n at R R' b a r e o = subst (λ (x : Reading Opening). Opened s n at x b a r) e o

-- ---- a faulty line
pub opened_fault : (s : List ℕ) (n at : ℕ) (R : Reading Opening) (line : ℕ) → R ≡ faulty line → (b : List ℤ) (r : PartOpened) → r ≡ faulty_at line → Opened s n at R b b r
unfolding part_answer part_state
opened_fault s n at R line e b r er =
    let q : r.number ≡ 17 = ap (λ (x : PartOpened). x.number) er in
    opened_as s n at (faulty line) R b b r (sym e) (record { answer = er; state = refl; rest = λ z. absurd (omega arith) })

-- ---- an opening that is read
part_refused : (k line q m : ℕ) → (k ≡ 0 → ⊥) → ◌≡◌ {A = PartOpened} (record { number = k; line = line; next = 0; resources = 0 }) (part_by k line q m)
part_refused zero line q m h = absurd (h refl)
part_refused (suc k) line q m h = refl

module _ (s : List ℕ) (n at : ℕ) (R : Reading Opening) (o : Opening) (line q : ℕ) (e : R ≡ found o line (lines (drop q s))) (b a : List ℤ) (written : a ≡ opened_into o b) where
  abbrev room : Bool
  room = holds (hour_room o.resources) b

  abbrev past : ℕ
  past = at + bytes_of (line - n) (lines (drop at s))

  -- the answer, by the room and the refusal
  answer_by_lem : (t : Bool) (k i : ℕ) → room ≡ t → opening_refusal o ≡ k → past ≡ i → part_in t k line i o.resources ≡ part_in room (opening_refusal o) line past o.resources
  answer_by_lem t k i er ek ei = sym (ap (λ (x : Bool). part_in x (opening_refusal o) line past o.resources) er ∙ ap (λ (x : ℕ). part_in t x line past o.resources) ek ∙ ap (λ (x : ℕ). part_in t k line x o.resources) ei)

  pub opened_short : room ≡ false → Opened s n at R b a (record { number = too_short_page; line = line; next = 0; resources = o.resources })
  unfolding part_answer part_state
  opened_short short =
      opened_as s n at (found o line (lines (drop q s))) R b a _ (sym e)
      (record { answer = answer_by_lem false (opening_refusal o) past short refl refl; state = written; rest = λ z. absurd (omega (arith, z)) })

  module _ (long : room ≡ true) where
    pub opened_refused : (number : ℕ) → number ≡ opening_refusal o → (number ≡ 0 → ⊥) → Opened s n at R b a (record { number = number; line = line; next = 0; resources = 0 })
    unfolding part_answer part_state
    opened_refused number is h =
        opened_as s n at (found o line (lines (drop q s))) R b a _ (sym e)
        (record { answer = part_refused number line past o.resources h ∙ answer_by_lem true number past long (sym is) refl; state = written; rest = λ z. absurd (h z) })

    pub opened_accepted : opening_refusal o ≡ 0 → q ≡ past → Opened s n at R b a (record { number = 0; line = line; next = q; resources = o.resources })
    unfolding part_answer part_state
    opened_accepted is eq =
        opened_as s n at (found o line (lines (drop q s))) R b a _ (sym e)
        (record { answer = answer_by_lem true 0 q long is (sym eq); state = written; rest = λ z. refl })

-- ---- after lines that are used
answer_on : (s : List ℕ) (n at n' at' : ℕ) → Used s n at n' at' → (b : List ℤ) (R : Reading Opening) → Rises n' R
    → part_answer (λ k. at' + bytes_of (k - n') (lines (drop at' s))) b R ≡ part_answer (λ k. at + bytes_of (k - n) (lines (drop at s))) b R
unfolding part_answer
answer_on s n at n' at' u b (faulty line) h = refl
answer_on s n at n' at' u b (found o k rest) h =
    let up = h o k rest refl in
    let j = at' + bytes_of (k - n') (lines (drop at' s)) in
    ap (λ (i : ℕ). part_in (holds (hour_room o.resources) b) (opening_refusal o) k i o.resources) (used_then u (used_lines s n' at' (k - n') j refl k (omega arith))).offset

pub opened_on : (s : List ℕ) (n at n' at' : ℕ) → Used s n at n' at' → (R : Reading Opening) → Rises n' R → (b a : List ℤ) (r : PartOpened) → Opened s n' at' R b a r → Opened s n at R b a r
opened_on s n at n' at' u R h b a r o = record { answer = o.answer ∙ answer_on s n at n' at' u b R h; state = o.state; rest = o.rest }

-- ---- what the last three tables make, by what they put into cells
module _ (s : List ℕ) (m : ℕ) (made : List (List Row) → List (List Row) → List Row → List ℤ) (g : List ℤ → Opening) (n : ℕ) (ls : List Line) where
  then_is : (r : Result TableEnd ℕ) (l : List ℤ) → read_cells s r l ≡ last_three m made n ls
      → last_three m (λ steps points costs. g (made steps points costs)) n ls ≡ next (read_cells s r l) (λ x. found (g x))
  then_is r l e = sym (last_then m made g n ls) ∙ ap (λ (x : Reading (List ℤ)). next x (λ y. found (g y))) (sym e)

  pub tables_fault : (line : ℕ) (l : List ℤ) → read_cells s (Err line) l ≡ last_three m made n ls
      → last_three m (λ steps points costs. g (made steps points costs)) n ls ≡ faulty line
  tables_fault line l e = then_is (Err line) l e

  pub tables_found : (r : TableEnd) (l : List ℤ) → read_cells s (Ok r) l ≡ last_three m made n ls
      → last_three m (λ steps points costs. g (made steps points costs)) n ls ≡ found (g l) r.line (lines (drop r.next s))
  tables_found r l e = then_is (Ok r) l e
