-- What a part of a text did, by the answer of the function that read it. Assumes nothing.
use Prim.Native.Nat.{ℕ, zero, suc, ◌+◌, ◌-◌, ◌≤◌}
use mathlib.Core.Bool.{Bool, true, false}
use mathlib.Core.Path.{◌≡◌, refl, sym, ap, ◌∙◌}
use mathlib.Core.List.{List, []}
use native.Mathlib.Omega.{arith}
use lib.IntN.{ℤ}
use borrow.Author.Tests.{leb-true, leb-false, le-leb}
use lib.ListN.{length, drop}
use lib.Seq.{sets}
use Rattle.rules_interval.specs.declared.Interval.{Interval}
use Rattle.rules_text.specs.Numbers.{Line, lines}
use Rattle.rules_text.specs.Tables.{Reading, faulty, found}
use Rattle.rules_text.specs.Offsets.{bytes_of}
use Rattle.rules_parts.specs.Parts.{read_interval}
use Rattle.rules_state.specs.States.{market_in}
use Rattle.rules_state.specs.Takes.{if_accepted, standing_written}
use Rattle.rules_state.specs.Verdicts.{judged_cells}
use Rattle.interval_part.specs.Taken.{refusal_in, answered, taken_whole, state_whole, verdicts_whole, left_whole, taken_by, state_by, verdicts_by, left_by}
use Rattle.interval_part.specs.declared.PartTaken.{PartTaken}
use Rattle.rules_opening.specs.declared.Opening.{Opening}
use Rattle.rules_opening.specs.Openings.{opening_refusal}
use Rattle.rules_parts.specs.Parts.{read_opening}
use Rattle.rules_state.specs.Layout.{hour_room, rows_from}
use Rattle.rules_state.specs.Calls.{holds}
use Rattle.rules_state.specs.OpenedInto.{opened_into}
use Rattle.rules_state.proofs.OpenedLaws.{opened_into_lem}
use Rattle.opening_part.specs.Parts.{part_by, part_in, part_answer, part_state, lines_then}
use Rattle.opening_part.specs.declared.PartOpened.{PartOpened}
use Rattle.run.specs.Took.{Took, faulted, declined, taken, OpenedBy, misread, unopened, opened}

module _ (s : List ℕ) (at line : ℕ) (state after verdicts left : List ℤ) (r : PartTaken) where
  abbrev Did : Type 0
  Did = Took s at line state after verdicts left r.number r.line r.next r.constraints

  did_found : (v : Interval) (last : ℕ) (rest : List Line) → read_interval line (lines (drop at s)) ≡ found v last rest → (n : ℕ) → refusal_in state v ≡ n
      → r ≡ answered n last (at + bytes_of (last - line) (lines (drop at s))) v.constraints → after ≡ if_accepted n (standing_written state v) state
      → left ≡ if_accepted n (sets verdicts 0 (judged_cells (market_in state) v)) verdicts → if_accepted r.number (lines (drop r.next s)) [] ≡ if_accepted n rest [] → Did
  did_found v last rest e zero g a b c d =
      let here : r.number ≡ 0 = ap (λ (x : PartTaken). x.number) a in
      let l : last ≡ r.line = sym (ap (λ (x : PartTaken). x.line) a) in
      let left_is : rest ≡ lines (drop r.next s) = sym (sym (ap (λ (n : ℕ). if_accepted n (lines (drop r.next s)) []) here) ∙ d) in
      taken v (e ∙ ap (λ (n : ℕ). found v n rest) l ∙ ap (found v r.line) left_is) here g (ap (λ (x : PartTaken). x.constraints) a) b c
  did_found v last rest e (suc n) g a b c d =
      let here : r.number ≡ suc n = ap (λ (x : PartTaken). x.number) a in
      let l : last ≡ r.line = sym (ap (λ (x : PartTaken). x.line) a) in
      declined v rest (e ∙ ap (λ (n : ℕ). found v n rest) l) (g ∙ sym here) (omega (arith, here))

  did_whole : (o : Reading Interval) → read_interval line (lines (drop at s)) ≡ o → r ≡ taken_whole state at line (lines (drop at s)) o → after ≡ state_whole state o → left ≡ verdicts_whole state verdicts o
      → if_accepted r.number (lines (drop r.next s)) [] ≡ left_whole state o → Did
  did_whole (faulty k) e a b c d = faulted (e ∙ ap faulty (sym (ap (λ (x : PartTaken). x.line) a))) (ap (λ (x : PartTaken). x.number) a)
  did_whole (found v last rest) e a b c d = did_found v last rest e (refusal_in state v) refl a b c d

  -- of cells that are an hour's
  pub did : rows_from ≤ length state → (o : Reading Interval) → read_interval line (lines (drop at s)) ≡ o → r ≡ taken_by state at line (lines (drop at s)) o → after ≡ state_by state o
      → left ≡ verdicts_by state verdicts o → if_accepted r.number (lines (drop r.next s)) [] ≡ left_by state o → Did
  did room o e a b c d = let h = le-leb rows_from (length state) room in did_whole o e (rw h at a) (rw h at b) (rw h at c) (rw h at d)

module _ (s : List ℕ) (state after : List ℤ) (r : PartOpened) where
  abbrev Opens : Type 0
  Opens = OpenedBy s state after r.number r.line r.next r.resources

  opens_found : (o : Opening) (last : ℕ) (rest : List Line) → read_opening 0 (lines s) ≡ found o last rest → hour_room o.resources ≤ length state → (n : ℕ) → opening_refusal o ≡ n
      → r ≡ part_by n last (bytes_of last (lines s)) o.resources → after ≡ opened_into o state → (r.number ≡ 0 → lines (drop r.next s) ≡ rest) → Opens
  opens_found o last rest e h zero g a b d =
      let here : r.number ≡ 0 = ap (λ (x : PartOpened). x.number) a in
      let l : last ≡ r.line = sym (ap (λ (x : PartOpened). x.line) a) in
      opened o (e ∙ ap (λ (n : ℕ). found o n rest) l ∙ ap (found o r.line) (sym (d here))) here g (ap (λ (x : PartOpened). x.resources) a) (b ∙ opened_into_lem o state h g)
  opens_found o last rest e h (suc n) g a b d =
      let here : r.number ≡ suc n = ap (λ (x : PartOpened). x.number) a in
      let l : last ≡ r.line = sym (ap (λ (x : PartOpened). x.line) a) in
      unopened o rest (e ∙ ap (λ (n : ℕ). found o n rest) l) (g ∙ sym here) (omega (arith, here)) (ap (λ (x : PartOpened). x.resources) a)

  -- cells with room for the resources that are answered are not too few
  opens_in : (o : Opening) (last : ℕ) (rest : List Line) → read_opening 0 (lines s) ≡ found o last rest → (t : Bool) → holds (hour_room o.resources) state ≡ t
      → r ≡ part_in t (opening_refusal o) last (bytes_of last (lines s)) o.resources → after ≡ opened_into o state → (r.number ≡ 0 → lines (drop r.next s) ≡ rest)
      → hour_room r.resources ≤ length state → Opens
  opens_in o last rest e true h a b d room = opens_found o last rest e (leb-true (hour_room o.resources) (length state) h) (opening_refusal o) refl a b d
  opens_in o last rest e false h a b d room =
      let n : r.resources ≡ o.resources = ap (λ (x : PartOpened). x.resources) a in
      absurd (omega (arith, leb-false (hour_room o.resources) (length state) h, rw n at room))

  pub opens : (o : Reading Opening) → read_opening 0 (lines s) ≡ o → r ≡ part_answer (λ k. bytes_of k (lines s)) state o → after ≡ part_state o state → (r.number ≡ 0 → lines (drop r.next s) ≡ lines_then o)
      → hour_room r.resources ≤ length state → Opens
  unfolding part_answer part_state
  opens (faulty k) e a b d room = misread (e ∙ ap faulty (sym (ap (λ (x : PartOpened). x.line) a))) (ap (λ (x : PartOpened). x.number) a) (ap (λ (x : PartOpened). x.resources) a)
  opens (found o last rest) e a b d room = opens_in o last rest e (holds (hour_room o.resources) state) refl a b d room
