-- The course of a run: the parts that it takes, what it prints of them, and how it ends. Assumes nothing.
use Prim.Native.Nat.{ℕ, zero, suc, ◌+◌, ◌≤◌, ◌<◌}
use mathlib.Core.Path.{◌≡◌, refl, sym, ap, ◌∙◌}
use mathlib.Core.List.{List, [], ◌∷◌, ◌++◌, append_assoc}
use mathlib.Core.Logic.{⊎_elim, ◌↔◌}
use native.Mathlib.Omega.{arith}
use lib.ListN.{length}
use Rattle.rules_number.proofs.OverLaws.{le_or_lt}
use Rattle.rules_interval.specs.declared.Interval.{Interval}
use Rattle.rules_opening.specs.Openings.{opening_refusal}
use Rattle.rules_opening.specs.declared.Opening.{Opening}
use Rattle.rules_hour.specs.Hours.{Hour, hour_refusal, hour_after, hour_after_all}
use Rattle.rules_hour.specs.Opened.{opened_hour}
use Rattle.rules_text.specs.Numbers.{Line, lines}
use Rattle.rules_text.specs.Tables.{Reading, faulty, found}
use Rattle.rules_text.specs.Spelled.{together}
use Rattle.rules_text.specs.Printing.{digits, decimal, line_text, refusal_text}
use Rattle.rules_parts.specs.Parts.{read_opening, read_interval}
use Rattle.rules_run.specs.Run.{page_of, intervals, hour_text, output, Ended, ended_by, intervals_end, hour_end, end_of, last_lines}
use Rattle.rules_run.proofs.RunLaws.{faulty_text, refused_text, accepted_text, none_text, accepts_few, accepts_counts, parts_faulty, parts_refused, parts_accepted, opened_fresh}
use Rattle.rules_run.proofs.EndLaws.{faulty_end, refused_end, accepted_end, none_end, parts_faulty_end, parts_refused_end, parts_accepted_end, too_long_end, read_text_end}
use Rattle.rules_run.proofs.ValueNumbers.{opening_number, interval_number}
use Rattle.rules_run.proofs.Meaning.{longer_refused, others_read}

-- ---- the parts that are taken
-- lines ls, before which n stand, begin with the parts of these calls on an hour, each accepted, and m lines stand before the rest
abbrev pub Takes : Hour → ℕ → List Line → List Interval → ℕ → List Line → Type 0
Takes h n ls [] m rest = (n ≡ m) × (ls ≡ rest)
Takes h n ls (v ∷ calls) m rest = (k : ℕ) × (more : List Line) × (read_interval n ls ≡ found v k more) × (hour_refusal h v ≡ 0) × Takes (hour_after h v) k more calls m rest

-- their pages, counted from i
abbrev pub pages_from : ℕ → Hour → List Interval → List (List ℕ)
pages_from i h [] = []
pages_from i h (v ∷ calls) = page_of i h v ∷ pages_from (suc i) (hour_after h v) calls

-- ---- what stops it: the hour h is left, and m lines stand before the rest
pub data Stop (h : Hour) (m : ℕ) (rest : List Line) (e : Ended) : Type 0 where
  -- no line is left
  over : rest ≡ [] → e ≡ ended_by 0 0 → Stop h m rest e
  -- the next part is not of the form
  unread : (line : ℕ) → 0 < length rest → read_interval m rest ≡ faulty line → e ≡ ended_by 17 line → Stop h m rest e
  -- it is, and its values are refused
  refused : (v : Interval) (k : ℕ) (more : List Line) → read_interval m rest ≡ found v k more → (number : ℕ) → hour_refusal h v ≡ suc number → e ≡ ended_by (suc number) k → Stop h m rest e

-- the course from lines ls on, before which n stand, with the hour h and interval i
pub record Course (i : ℕ) (h : Hour) (n : ℕ) (ls : List Line) (e : Ended) (printed : List ℕ) : Type 0 where
  pub calls : List Interval
  pub at : ℕ
  pub rest : List Line
  pub takes : Takes h n ls calls at rest
  pub stop : Stop (hour_after_all h calls) at rest e
  -- "Each accepted interval prints .. before the next is read. On refusal the program prints the line `refusal line` .. and stops."
  pub prints : printed ≡ together (pages_from i h calls) ++ last_lines e.number e.line

-- at the end of the lines, and at a part that is not taken
module _ (i : ℕ) (h : Hour) (n : ℕ) (ls : List Line) (e : Ended) (printed : List ℕ) where
  stopped : Stop h n ls e → printed ≡ last_lines e.number e.line → Course i h n ls e printed
  unfolding hour_after_all together
  stopped s p = record { calls = []; at = n; rest = ls; takes = (refl, refl); stop = s; prints = p }

-- after a part that is
further : (i : ℕ) (h : Hour) (n : ℕ) (ls : List Line) (v : Interval) (k : ℕ) (more : List Line) (e later : Ended) (printed pages : List ℕ)
    → read_interval n ls ≡ found v k more → hour_refusal h v ≡ 0 → e ≡ later → printed ≡ page_of i h v ++ pages
    → Course (suc i) (hour_after h v) k more later pages → Course i h n ls e printed
unfolding hour_after_all together
further i h n ls v k more e later printed pages r g s p c = record {
  calls = v ∷ c.calls;
  at = c.at;
  rest = c.rest;
  takes = (k, more, r, g, c.takes);
  stop = rw s c.stop;
  prints = p ∙ ap (λ (t : List ℕ). page_of i h v ++ t) c.prints
      ∙ sym (append_assoc (page_of i h v) (together (pages_from (suc i) (hour_after h v) c.calls)) (last_lines later.number later.line))
      ∙ ap (λ (x : Ended). together (pages_from i h (v ∷ c.calls)) ++ last_lines x.number x.line) (sym s);
}

-- one part more
one_part : (f i : ℕ) (h : Hour) (n : ℕ) (ls : List Line) → 0 < length ls
    → ((v : Interval) (m : ℕ) (rest : List Line) → hour_refusal h v ≡ 0 → Course (suc i) (hour_after h v) m rest (intervals_end f (hour_after h v) m rest) (intervals f (suc i) (hour_after h v) m rest))
    → Course i h n ls (intervals_end (suc f) h n ls) (intervals (suc f) i h n ls)
one_part f i h n ls some later = go (read_interval n ls) refl
  where
    -- the lines of a refusal
    ends : (k line : ℕ) → intervals_end (suc f) h n ls ≡ ended_by k line → intervals (suc f) i h n ls ≡ last_lines k line
        → intervals (suc f) i h n ls ≡ last_lines (intervals_end (suc f) h n ls).number (intervals_end (suc f) h n ls).line
    ends k line s p = p ∙ ap (λ (x : Ended). last_lines x.number x.line) (sym s)

    answer : (v : Interval) (m : ℕ) (rest : List Line) → read_interval n ls ≡ found v m rest → (k : ℕ) → hour_refusal h v ≡ k → Course i h n ls (intervals_end (suc f) h n ls) (intervals (suc f) i h n ls)
    answer v m rest q zero g =
        further i h n ls v m rest _ (intervals_end f (hour_after h v) m rest) _ (intervals f (suc i) (hour_after h v) m rest) q g
        (accepted_end f h n ls some v m rest q g) (accepted_text f i h n ls some v m rest q g) (later v m rest g)
    answer v m rest q (suc k) g =
        let s = refused_end f h n ls some v m rest q (suc k) g (omega arith) in
        stopped i h n ls _ _ (refused v m rest q k g s) (ends (suc k) m s (refused_text f i h n ls some v m rest q (suc k) g (omega arith)))

    go : (r : Reading Interval) → read_interval n ls ≡ r → Course i h n ls (intervals_end (suc f) h n ls) (intervals (suc f) i h n ls)
    go (faulty k) q = let s = faulty_end f h n ls some k q in stopped i h n ls _ _ (unread k some q s) (ends 17 k s (faulty_text f i h n ls some k q))
    go (found v m rest) q = answer v m rest q (hour_refusal h v) refl

-- or none
any_part : (f i : ℕ) (h : Hour) (n : ℕ) (ls : List Line)
    → ((v : Interval) (m : ℕ) (rest : List Line) → hour_refusal h v ≡ 0 → Course (suc i) (hour_after h v) m rest (intervals_end f (hour_after h v) m rest) (intervals f (suc i) (hour_after h v) m rest))
    → Course i h n ls (intervals_end (suc f) h n ls) (intervals (suc f) i h n ls)
any_part f i h n [] later =
    stopped i h n [] _ _ (over refl (none_end (suc f) h n)) (none_text (suc f) i h n ∙ ap (λ (x : Ended). last_lines x.number x.line) (sym (none_end (suc f) h n)))
any_part f i h n (l ∷ ls) later = one_part f i h n (l ∷ ls) (omega arith) later

-- an hour that may accept f more: the part after those is the last that is read
course : (f i : ℕ) (h : Hour) (n : ℕ) (ls : List Line) → h.standing.accepted + f ≡ 4 → Course i h n ls (intervals_end (suc f) h n ls) (intervals (suc f) i h n ls)
course zero i h n ls room = any_part zero i h n ls (λ v m rest g. absurd (omega (arith, room, accepts_few h v g)))
course (suc f) i h n ls room = any_part (suc f) i h n ls (λ v m rest g. course f (suc i) (hour_after h v) m rest (omega (arith, room, accepts_counts h v g)))

-- ---- of a text
pub data Runs (text : List ℕ) : Type 0 where
  too_long : 65536 < length text → end_of text ≡ ended_by 18 1 → output text ≡ refusal_text 18 1 → Runs text
  -- the opening is not of the form
  opening_unread : length text ≤ 65536 → (line : ℕ) → read_opening 0 (lines text) ≡ faulty line → end_of text ≡ ended_by 17 line → output text ≡ refusal_text 17 line → Runs text
  -- it is, and its values are refused
  opening_refused : length text ≤ 65536 → (o : Opening) (n : ℕ) (rest : List Line) → read_opening 0 (lines text) ≡ found o n rest → (number : ℕ) → opening_refusal o ≡ suc number
      → end_of text ≡ ended_by (suc number) n → output text ≡ refusal_text (suc number) n → Runs text
  -- the hour is opened
  opened : length text ≤ 65536 → (o : Opening) (n : ℕ) (rest : List Line) → read_opening 0 (lines text) ≡ found o n rest → opening_refusal o ≡ 0
      → Course 1 (opened_hour o) n rest (end_of text) (output text) → Runs text

-- what is printed of a text that is too long, in numbers
too_long_text : (text : List ℕ) → 65536 < length text → output text ≡ refusal_text 18 1
unfolding refusal_text line_text decimal digits
too_long_text text h = longer_refused text h

module _ (text : List ℕ) (short : length text ≤ 65536) where
  module _ (o : Opening) (n : ℕ) (rest : List Line) (q : read_opening 0 (lines text) ≡ found o n rest) where
    by_values : (k : ℕ) → opening_refusal o ≡ k → Runs text
    by_values zero g =
        let c = course 4 1 (opened_hour o) n rest (omega (arith, opened_fresh o)) in
        let e : end_of text ≡ hour_end (opened_hour o) n rest = read_text_end text short ∙ parts_accepted_end (lines text) o n rest q g in
        let p : output text ≡ hour_text (opened_hour o) n rest = others_read text short ∙ parts_accepted (lines text) o n rest q g in
        opened short o n rest q g (rw (e, p) c)
    by_values (suc k) g =
        opening_refused short o n rest q k g (read_text_end text short ∙ parts_refused_end (lines text) o n rest q (suc k) g (omega arith))
        (others_read text short ∙ parts_refused (lines text) o n rest q (suc k) g (omega arith))

  by_opening : (r : Reading Opening) → read_opening 0 (lines text) ≡ r → Runs text
  by_opening (faulty k) q = opening_unread short k q (read_text_end text short ∙ parts_faulty_end (lines text) k q) (others_read text short ∙ parts_faulty (lines text) k q)
  by_opening (found o n rest) q = by_values o n rest q (opening_refusal o) refl

-- every text goes one of these ways
pub runs : (text : List ℕ) → Runs text
runs text =
    ⊎_elim (λ h. by_opening text h (read_opening 0 (lines text)) refl) (λ h. too_long h (too_long_end text h) (too_long_text text h)) (le_or_lt (length text) 65536)

-- ---- 18
-- "18 is tested first": the run of a text ends with 18 exactly when the text has more than 65,536 bytes
pub eighteen_exactly : (text : List ℕ) → ((end_of text).number ≡ 18) ↔ (65536 < length text)
eighteen_exactly text = (λ e. there e (runs text), λ h. ap (λ (x : Ended). x.number) (too_long_end text h))
  where
    stops : (h : Hour) (m : ℕ) (rest : List Line) → Stop h m rest (end_of text) → (end_of text).number ≡ 18 → ⊥
    stops h m rest (over q s) e = omega (arith, ap (λ (x : Ended). x.number) s)
    stops h m rest (unread line some q s) e = omega (arith, ap (λ (x : Ended). x.number) s)
    stops h m rest (refused v k more q number g s) e = omega (arith, ap (λ (x : Ended). x.number) s, interval_number h v)

    there : (end_of text).number ≡ 18 → Runs text → 65536 < length text
    there e (too_long h s p) = h
    there e (opening_unread h line q s p) = absurd (omega (arith, ap (λ (x : Ended). x.number) s))
    there e (opening_refused h o n rest q number g s p) = absurd (omega (arith, ap (λ (x : Ended). x.number) s, opening_number o))
    there e (opened h o n rest q g c) = absurd (stops (hour_after_all (opened_hour o) c.calls) c.at c.rest c.stop e)

-- "1 for 18"
pub eighteen_line : (text : List ℕ) → (end_of text).number ≡ 18 → (end_of text).line ≡ 1
eighteen_line text e = ap (λ (x : Ended). x.line) (too_long_end text ((eighteen_exactly text).0 e))
