-- Which line a refusal names (paper 01, Text): "line from 1: the faulty one for 17, the one after the last if the text ends early, 1 for 18, else the part's last".
-- Assumes nothing.
use Prim.Native.Nat.{ℕ, zero, suc, ◌+◌, ◌≤◌, ◌<◌}
use mathlib.Core.Path.{◌≡◌, refl, sym, ap, ap₂, subst, ◌∙◌}
use mathlib.Core.List.{List, [], ◌∷◌, ◌++◌, append_assoc, append-nil}
use mathlib.Core.Logic.{◌↔◌}
use native.Mathlib.Omega.{arith}
use lib.ListN.{length, length-append}
use Rattle.rules_interval.specs.declared.Interval.{Interval}
use Rattle.rules_opening.specs.Openings.{opening_refusal}
use Rattle.rules_opening.specs.declared.Opening.{Opening}
use Rattle.rules_hour.specs.Demand3.{hour_of}
use Rattle.rules_hour.specs.Hours.{Hour, hour_refusal, hour_after, hour_after_all}
use Rattle.rules_hour.specs.Opened.{opened_hour}
use Rattle.rules_text.specs.Numbers.{Line, lines}
use Rattle.rules_text.specs.Tables.{Reading, faulty, found, headed}
use Rattle.rules_text.proofs.LineLaws.{lines_few}
use Rattle.rules_parts.specs.Parts.{read_opening, read_interval_by, read_interval}
use Rattle.rules_parts.proofs.FirstFault.{opening_first, interval_first}
use Rattle.rules_run.specs.Run.{Ended, ended_by, intervals_end, end_of}
use Rattle.rules_run.proofs.CountLaws.{Uses, interval_using}
use Rattle.rules_run.proofs.Course.{Takes, Stop, over, unread, refused, Runs, too_long, opening_unread, opening_refused, opened, runs}
use Rattle.rules_run.proofs.OwnLines.{Accepted, Leads, leads, opening_own, interval_own}
use Rattle.rules_run.proofs.EndLaws.{faulty_end, refused_end, accepted_end, parts_faulty_end, parts_refused_end, parts_accepted_end, none_end, read_text_end}
use Rattle.rules_run.proofs.RunLaws.{accepts_few, accepts_counts, opened_fresh, parts_faulty_few, parts_left}
use Rattle.rules_run.proofs.ValueNumbers.{opening_number, interval_number}

-- ---- lines that are parts to their end
-- intervals, from none on, before which n lines stand
pub data Intervals : ℕ → List Line → Type 0 where
  none : {n : ℕ} {ls : List Line} → ls ≡ [] → Intervals n ls
  one : {n : ℕ} {ls : List Line} (v : Interval) (m : ℕ) (rest : List Line) → read_interval n ls ≡ found v m rest → Intervals m rest → Intervals n ls

-- "the first six are one part, the last four another that repeats for each interval, from none on"
pub record Parts (ls : List Line) : Type 0 where
  pub opening : Opening
  pub at : ℕ
  pub below : List Line
  pub opens : read_opening 0 ls ≡ found opening at below
  pub intervals : Intervals at below

-- ---- "the faulty one for 17"
-- of these lines, `line` is the number of the first that no parts have in its place
pub record FirstFault (ls : List Line) (line : ℕ) : Type 0 where
  -- the lines before it, and those from it on: none where the text ends early
  pub before : List Line
  pub left : List Line
  pub is : ls ≡ before ++ left
  pub number : line ≡ suc (length before)
  -- the lines before it can be completed to parts
  pub more : List Line
  pub whole : Parts (before ++ more)
  -- and with it they can't
  pub never : (l : Line) (tail : List Line) → left ≡ l ∷ tail → (others : List Line) → Parts (before ++ (l ∷ others)) → ⊥
  -- "the one after the last if the text ends early": the lines are no parts then
  pub early : left ≡ [] → (line ≡ suc (length ls)) × (Parts ls → ⊥)

-- two readings of the same lines
clash : {A X : Type 0} {r : Reading A} {line : ℕ} {a : A} {n : ℕ} {ls : List Line} → r ≡ faulty line → r ≡ found a n ls → X
clash p q = absurd (let z : ◌≡◌ {A = ℕ} 0 1 = cc in omega arith)

-- no interval is read of no line
nothing : (n : ℕ) → read_interval n [] ≡ faulty (suc n)
unfolding read_interval_by headed
nothing n = refl

-- lines of which no interval is read are none, or no intervals
no_interval : (n : ℕ) (ls : List Line) (line : ℕ) → read_interval n ls ≡ faulty line → 0 < length ls → Intervals n ls → ⊥
no_interval n ls line e some (none z) = omega (arith, ap length z)
no_interval n ls line e some (one v m rest q more) = clash e q

some_line : (n : ℕ) (ls : List Line) (v : Interval) (k : ℕ) (more : List Line) → read_interval n ls ≡ found v k more → 0 < length ls
some_line n [] v k more e = clash (nothing n) e
some_line n (l ∷ ls) v k more e = omega arith

-- intervals after calls, and calls before intervals
takes_then : (calls : List Interval) (h : Hour) (n : ℕ) (ls : List Line) (m : ℕ) (rest : List Line) → Takes h n ls calls m rest → Intervals m rest → Intervals n ls
takes_then [] h n ls m rest t i = rw (t.0, t.1) i
takes_then (v ∷ calls) h n ls m rest (k, more, r, g, t) i = one v k more r (takes_then calls (hour_after h v) k more m rest t i)

then_takes : (calls : List Interval) (h : Hour) (n : ℕ) (ls : List Line) (m : ℕ) (rest : List Line) → Takes h n ls calls m rest → Intervals n ls → Intervals m rest
then_takes [] h n ls m rest t i = rw (t.0, t.1) at i
then_takes (v ∷ calls) h n ls m rest (k, more, r, g, t) (none z) = clash (nothing n) (ap (read_interval n) (sym z) ∙ r)
then_takes (v ∷ calls) h n ls m rest (k, more, r, g, t) (one w j left q i) = then_takes calls (hour_after h v) k more m rest t (same (sym q ∙ r))
  where
    same : found w j left ≡ found v k more → Intervals k more
    same e =
        let a : j ≡ k = cc in
        let b : left ≡ more = cc in
        rw (a, b) at i

-- after the lines of an opening and calls stand parts exactly where intervals stand
module _ (o : Opening) (calls : List Interval) (own : List Line) (a : Accepted o calls own) (other : List Line) where
  parts_of : Intervals (length own) other → Parts (own ++ other)
  parts_of i = record { opening = o; at = a.at; below = a.below ++ other; opens = a.opens other; intervals = takes_then calls (opened_hour o) a.at (a.below ++ other) (length own) other (a.takes other) i }

  of_parts : Parts (own ++ other) → Intervals (length own) other
  of_parts p = then_takes calls (opened_hour o) a.at (a.below ++ other) (length own) other (a.takes other) (same (sym p.opens ∙ a.opens other))
    where
      same : found p.opening p.at p.below ≡ found o a.at (a.below ++ other) → Intervals a.at (a.below ++ other)
      same e =
          let x : p.at ≡ a.at = cc in
          let y : p.below ≡ a.below ++ other = cc in
          rw (x, y) at p.intervals

-- a fault in the opening
opening_fault : (ls : List Line) (line : ℕ) → read_opening 0 ls ≡ faulty line → FirstFault ls line
opening_fault ls line e =
    let f = opening_first 0 ls line e in
    record {
      before = f.start;
      left = f.left;
      is = f.is;
      number = omega (arith, f.number);
      more = f.more;
      whole = record { opening = f.part; at = 0 + length (f.start ++ f.more); below = []; opens = f.whole; intervals = none refl };
      never = λ l tail w others p. clash (f.never l tail w others) p.opens;
      early = λ z. (omega (arith, f.number, ap length f.is, length-append f.start f.left, ap length z), λ p. clash e p.opens);
    }

-- a fault in an interval, after the lines of an opening and calls
interval_fault : (ls : List Line) (o : Opening) (calls : List Interval) (own rest : List Line) → ls ≡ own ++ rest → Accepted o calls own → 0 < length rest
    → (line : ℕ) → read_interval (length own) rest ≡ faulty line → FirstFault ls line
interval_fault ls o calls own rest is a some line e =
    let f = interval_first (length own) rest line e in
    let size = length-append own f.start in
    let join : (t : List Line) → (own ++ f.start) ++ t ≡ own ++ (f.start ++ t) = append_assoc own f.start in
    record {
      before = own ++ f.start;
      left = f.left;
      is = is ∙ ap (λ (t : List Line). own ++ t) f.is ∙ sym (join f.left);
      number = omega (arith, f.number, size);
      more = f.more;
      whole = subst Parts (sym (join f.more)) (parts_of o calls own a (f.start ++ f.more) (one f.part (length own + length (f.start ++ f.more)) [] f.whole (none refl)));
      never = λ l tail w others p.
          no_interval (length own) (f.start ++ (l ∷ others)) line (f.never l tail w others) (omega (arith, length-append f.start (l ∷ others)))
          (of_parts o calls own a (f.start ++ (l ∷ others)) (subst Parts (join (l ∷ others)) p));
      early = λ z. (
        omega (arith, f.number, ap length is, length-append own rest, ap length f.is, length-append f.start f.left, ap length z),
        λ p. no_interval (length own) rest line e some (of_parts o calls own a rest (subst Parts is p)),
      );
    }

-- a part that is not of the form: the opening, or the part after an opening and calls that are all accepted
pub data Unread (ls : List Line) (line : ℕ) : Type 0 where
  in_opening : read_opening 0 ls ≡ faulty line → Unread ls line
  in_interval : (o : Opening) (calls : List Interval) (own rest : List Line) → ls ≡ own ++ rest → Accepted o calls own → 0 < length rest → read_interval (length own) rest ≡ faulty line → Unread ls line

unread_first : (ls : List Line) (line : ℕ) → Unread ls line → FirstFault ls line
unread_first ls line (in_opening e) = opening_fault ls line e
unread_first ls line (in_interval o calls own rest is a some e) = interval_fault ls o calls own rest is a some line e

-- ---- "else the part's last"
-- the values of a part with these lines, after those before it, are refused with this number, whatever follows it
pub data Refuses (number : ℕ) (before own : List Line) : Type 0 where
  opening : before ≡ [] → (o : Opening) → ((after : List Line) → read_opening 0 (own ++ after) ≡ found o (length own) after) → opening_refusal o ≡ number → Refuses number before own
  interval : (o : Opening) (calls : List Interval) → Accepted o calls before → (v : Interval)
      → ((after : List Line) → read_interval (length before) (own ++ after) ≡ found v (length (before ++ own)) after) → hour_refusal (hour_of o calls) v ≡ number → Refuses number before own

-- of these lines, `line` is the number of the last of the part whose values are refused
pub record RefusedPart (ls : List Line) (number line : ℕ) : Type 0 where
  pub before : List Line
  pub own : List Line
  pub after : List Line
  pub is : ls ≡ before ++ (own ++ after)
  pub part : Refuses number before own
  pub last : line ≡ length (before ++ own)

-- the opening of a text, and an interval after an opening and calls
opening_part : (ls : List Line) → length ls ≤ 65536 → (o : Opening) (n : ℕ) (rest : List Line) → read_opening 0 ls ≡ found o n rest → (number : ℕ) → opening_refusal o ≡ number → RefusedPart ls number n
opening_part ls few o n rest e number g =
    let x = opening_own 0 ls few n rest o e in
    let c : n ≡ length x.own = omega (arith, x.count) in
    record { before = []; own = x.own; after = rest; is = x.is; part = opening refl o (λ after. x.reads after ∙ ap (λ (k : ℕ). found o k after) c) g; last = c }

interval_part : (ls : List Line) → length ls ≤ 65536 → (o : Opening) (calls : List Interval) (m : ℕ) (rest : List Line) → Leads ls o calls m rest
    → (v : Interval) (k : ℕ) (more : List Line) → read_interval m rest ≡ found v k more → (number : ℕ) → hour_refusal (hour_of o calls) v ≡ number → RefusedPart ls number k
interval_part ls few o calls m rest d v k more e number g =
    let x = interval_own m rest (omega (arith, few, ap length d.is, length-append d.own rest)) k more v e in
    let c : k ≡ length (d.own ++ x.own) = omega (arith, x.count, d.count, length-append d.own x.own) in
    record {
      before = d.own;
      own = x.own;
      after = more;
      is = d.is ∙ ap (λ (t : List Line). d.own ++ t) x.is;
      part = interval o calls d.parts v (λ after. ap (λ (j : ℕ). read_interval j (x.own ++ after)) (sym d.count) ∙ x.reads after ∙ ap (λ (j : ℕ). found v j after) c) g;
      last = c;
    }

-- ---- how a text ends by its parts
-- after calls that are taken, the run goes on with the rest
ends_after : (calls : List Interval) (f : ℕ) (h : Hour) (n : ℕ) (ls : List Line) (m : ℕ) (rest : List Line) → h.standing.accepted + f ≡ 4 → Takes h n ls calls m rest
    → (g : ℕ) × (intervals_end (suc f) h n ls ≡ intervals_end (suc g) (hour_after_all h calls) m rest)
unfolding hour_after_all
ends_after [] f h n ls m rest room t = (f, ap₂ (intervals_end (suc f) h) t.0 t.1)
ends_after (v ∷ calls) zero h n ls m rest room (k, more, r, g, t) = absurd (omega (arith, room, accepts_few h v g))
ends_after (v ∷ calls) (suc f) h n ls m rest room (k, more, r, g, t) =
    let later = ends_after calls f (hour_after h v) k more m rest (omega (arith, room, accepts_counts h v g)) t in
    (later.0, accepted_end (suc f) h n ls (some_line n ls v k more r) v k more r g ∙ later.1)

module _ (text : List ℕ) (short : length text ≤ 65536) where
  short_lines : length (lines text) ≤ 65536
  short_lines = omega (arith, lines_few text, short)

  module _ (o : Opening) (calls : List Interval) (own : List Line) (a : Accepted o calls own) (rest : List Line) (is : lines text ≡ own ++ rest) where
    ends_with : (g : ℕ) × (end_of text ≡ intervals_end (suc g) (hour_of o calls) (length own) rest)
    ends_with =
        let later = ends_after calls 4 (opened_hour o) a.at (a.below ++ rest) (length own) rest (omega (arith, opened_fresh o)) (a.takes rest) in
        (later.0, read_text_end text short ∙ parts_accepted_end (lines text) o a.at (a.below ++ rest) (ap (read_opening 0) is ∙ a.opens rest) a.accepted ∙ later.1)

-- the number is at most 18, and the line at most one more than there are lines
pub end_few : (text : List ℕ) → ((end_of text).number ≤ 18) × ((end_of text).line ≤ 65537)
end_few text = go (runs text)
  where
    by : (k j : ℕ) → end_of text ≡ ended_by k j → k ≤ 18 → j ≤ 65537 → ((end_of text).number ≤ 18) × ((end_of text).line ≤ 65537)
    by k j s a b = (omega (arith, ap (λ (x : Ended). x.number) s, a), omega (arith, ap (λ (x : Ended). x.line) s, b))

    go : Runs text → ((end_of text).number ≤ 18) × ((end_of text).line ≤ 65537)
    go (too_long h s p) = by 18 1 s (omega arith) (omega arith)
    go (opening_unread h k q s p) = by 17 k s (omega arith) (omega (arith, short_lines text h, parts_faulty_few (lines text) k q))
    go (opening_refused h o n rest q k g s p) = by (suc k) n s (omega (arith, opening_number o)) (omega (arith, short_lines text h, parts_left (lines text) o n rest q))
    go (opened h o n rest q g c) = stops c.stop
      where
        d : Leads (lines text) o c.calls c.at c.rest
        d = leads (lines text) o n rest (short_lines text h) q g c.calls c.at c.rest c.takes

        size : c.at + length c.rest ≤ 65536
        size = omega (arith, short_lines text h, d.count, ap length d.is, length-append d.own c.rest)

        stops : Stop (hour_of o c.calls) c.at c.rest (end_of text) → ((end_of text).number ≤ 18) × ((end_of text).line ≤ 65537)
        stops (over z s) = by 0 0 s (omega arith) (omega arith)
        stops (unread k some r s) = by 17 k s (omega arith) (omega (arith, size, subst (Uses c.at c.rest) r (interval_using c.at c.rest)))
        stops (refused v k more r x g s) =
            by (suc x) k s (omega (arith, interval_number (hour_of o c.calls) v)) (omega (arith, size, subst (Uses c.at c.rest) r (interval_using c.at c.rest)))

module _ (text : List ℕ) (number line : ℕ) where
  -- another end
  other_number : {X : Type 0} (k j : ℕ) → end_of text ≡ ended_by number line → end_of text ≡ ended_by k j → (number ≡ k → ⊥) → X
  other_number k j e s h = absurd (h (ap (λ (x : Ended). x.number) (sym e ∙ s)))

  same_number : (P : ℕ → ℕ → Type 0) (k j : ℕ) → end_of text ≡ ended_by number line → end_of text ≡ ended_by k j → P k j → P number line
  same_number P k j e s p =
      let a : k ≡ number = ap (λ (x : Ended). x.number) (sym s ∙ e) in
      let b : j ≡ line = ap (λ (x : Ended). x.line) (sym s ∙ e) in
      subst (P number) b (subst (λ (i : ℕ). P i j) a p)

module _ (text : List ℕ) (line : ℕ) where
  -- the run of a text ends with 17 exactly when it has at most 65,536 bytes and comes to a part that is not of the form
  pub seventeen_exactly : (end_of text ≡ ended_by 17 line) ↔ ((length text ≤ 65536) × Unread (lines text) line)
  seventeen_exactly = (λ e. there e (runs text), λ h. back h.0 h.1)
    where
      there : end_of text ≡ ended_by 17 line → Runs text → (length text ≤ 65536) × Unread (lines text) line
      there e (too_long h s p) = other_number text 17 line 18 1 e s (λ z. omega arith)
      there e (opening_unread h k q s p) = (h, same_number text 17 line (λ i j. Unread (lines text) j) 17 k e s (in_opening q))
      there e (opening_refused h o n rest q k g s p) = other_number text 17 line (suc k) n e s (λ z. omega (arith, opening_number o))
      there e (opened h o n rest q g c) = (h, stops c.stop)
        where
          d : Leads (lines text) o c.calls c.at c.rest
          d = leads (lines text) o n rest (short_lines text h) q g c.calls c.at c.rest c.takes

          stops : Stop (hour_of o c.calls) c.at c.rest (end_of text) → Unread (lines text) line
          stops (over z s) = other_number text 17 line 0 0 e s (λ z. omega arith)
          stops (unread k some r s) =
              same_number text 17 line (λ i j. Unread (lines text) j) 17 k e s
              (in_interval o c.calls d.own c.rest d.is d.parts some (ap (λ (i : ℕ). read_interval i c.rest) (sym d.count) ∙ r))
          stops (refused v k more r x g s) = other_number text 17 line (suc x) k e s (λ z. omega (arith, interval_number (hour_of o c.calls) v))

      back : length text ≤ 65536 → Unread (lines text) line → end_of text ≡ ended_by 17 line
      back h (in_opening q) = read_text_end text h ∙ parts_faulty_end (lines text) line q
      back h (in_interval o calls own rest is a some q) =
          let x = ends_with text h o calls own a rest is in
          x.1 ∙ faulty_end x.0 (hour_of o calls) (length own) rest some line q

  -- 17 names the first line at fault
  pub seventeen_first : end_of text ≡ ended_by 17 line → FirstFault (lines text) line
  seventeen_first e = unread_first (lines text) line (seventeen_exactly.0 e).1

-- The run of a text ends with one of 1 to 16, and a line, exactly when it has at most 65,536 bytes and comes to a part whose values are refused with that number
-- and whose last line is that one.
pub value_line : (text : List ℕ) (number line : ℕ) → 0 < number → number ≤ 16 → (end_of text ≡ ended_by number line) ↔ ((length text ≤ 65536) × RefusedPart (lines text) number line)
value_line text zero line some most = absurd (omega arith)
value_line text (suc number) line some most = (λ e. there e (runs text), λ h. back h.0 h.1)
  where
    there : end_of text ≡ ended_by (suc number) line → Runs text → (length text ≤ 65536) × RefusedPart (lines text) (suc number) line
    there e (too_long h s p) = other_number text (suc number) line 18 1 e s (λ z. omega arith)
    there e (opening_unread h k q s p) = other_number text (suc number) line 17 k e s (λ z. omega arith)
    there e (opening_refused h o n rest q k g s p) =
        (h, same_number text (suc number) line (RefusedPart (lines text)) (suc k) n e s (opening_part (lines text) (short_lines text h) o n rest q (suc k) g))
    there e (opened h o n rest q g c) = (h, stops c.stop)
      where
        d : Leads (lines text) o c.calls c.at c.rest
        d = leads (lines text) o n rest (short_lines text h) q g c.calls c.at c.rest c.takes

        stops : Stop (hour_of o c.calls) c.at c.rest (end_of text) → RefusedPart (lines text) (suc number) line
        stops (over z s) = other_number text (suc number) line 0 0 e s (λ z. omega arith)
        stops (unread k some r s) = other_number text (suc number) line 17 k e s (λ z. omega arith)
        stops (refused v k more r x g s) =
            same_number text (suc number) line (RefusedPart (lines text)) (suc x) k e s
            (interval_part (lines text) (short_lines text h) o c.calls c.at c.rest d v k more r (suc x) g)

    back : length text ≤ 65536 → RefusedPart (lines text) (suc number) line → end_of text ≡ ended_by (suc number) line
    back h r = go r.part
      where
        go : Refuses (suc number) r.before r.own → end_of text ≡ ended_by (suc number) line
        go (opening z o q g) =
            let whole : lines text ≡ r.own ++ r.after = r.is ∙ ap (λ (t : List Line). t ++ (r.own ++ r.after)) z in
            let last : length r.own ≡ line = sym (r.last ∙ ap (λ (t : List Line). length (t ++ r.own)) z) in
            read_text_end text h ∙ parts_refused_end (lines text) o (length r.own) r.after (ap (read_opening 0) whole ∙ q r.after) (suc number) g (omega arith)
            ∙ ap (ended_by (suc number)) last
        go (interval o calls a v q g) =
            let x = ends_with text h o calls r.before a (r.own ++ r.after) r.is in
            x.1
            ∙ refused_end x.0 (hour_of o calls) (length r.before) (r.own ++ r.after) (some_line (length r.before) (r.own ++ r.after) v (length (r.before ++ r.own)) r.after (q r.after))
            v (length (r.before ++ r.own)) r.after (q r.after) (suc number) g (omega arith)
            ∙ ap (ended_by (suc number)) (sym r.last)

-- And nothing is refused exactly when it has at most 65,536 bytes and its lines are an opening and calls that are all accepted.
pub none_exactly : (text : List ℕ) → (end_of text ≡ ended_by 0 0) ↔ ((length text ≤ 65536) × (o : Opening) × (calls : List Interval) × Accepted o calls (lines text))
none_exactly text = (λ e. there e (runs text), λ h. back h.0 h.1 h.2 h.3)
  where
    there : end_of text ≡ ended_by 0 0 → Runs text → (length text ≤ 65536) × (o : Opening) × (calls : List Interval) × Accepted o calls (lines text)
    there e (too_long h s p) = other_number text 0 0 18 1 e s (λ z. omega arith)
    there e (opening_unread h k q s p) = other_number text 0 0 17 k e s (λ z. omega arith)
    there e (opening_refused h o n rest q k g s p) = other_number text 0 0 (suc k) n e s (λ z. omega arith)
    there e (opened h o n rest q g c) = (h, o, c.calls, stops c.stop)
      where
        d : Leads (lines text) o c.calls c.at c.rest
        d = leads (lines text) o n rest (short_lines text h) q g c.calls c.at c.rest c.takes

        stops : Stop (hour_of o c.calls) c.at c.rest (end_of text) → Accepted o c.calls (lines text)
        stops (over z s) = subst (Accepted o c.calls) (sym (d.is ∙ ap (λ (t : List Line). d.own ++ t) z ∙ append-nil d.own)) d.parts
        stops (unread k some r s) = other_number text 0 0 17 k e s (λ z. omega arith)
        stops (refused v k more r x g s) = other_number text 0 0 (suc x) k e s (λ z. omega arith)

    back : length text ≤ 65536 → (o : Opening) (calls : List Interval) → Accepted o calls (lines text) → end_of text ≡ ended_by 0 0
    back h o calls a =
        let x = ends_with text h o calls (lines text) a [] (sym (append-nil (lines text))) in
        x.1 ∙ none_end (suc x.0) (hour_of o calls) (length (lines text))
