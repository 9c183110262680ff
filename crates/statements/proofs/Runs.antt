-- Paper 01, Text: how the run of a text ends, with which number and on which line, and what is printed last, in full. Assumes nothing.
use mathlib.Core.List.{List, [], ◌∷◌, ◌++◌}
use mathlib.Core.Logic.{◌⊎◌, inl, inr, ⊎_elim, ◌↔◌}
use mathlib.Core.Path.{◌≡◌}
use Prim.Native.Nat.{ℕ, suc, ◌≤◌, ◌<◌}
use lib.IntN.{pos}
use lib.ListN.{length}
use Rattle.rules_interval.specs.declared.Interval.{Interval}
use Rattle.rules_opening.specs.Openings.{opening_refusal}
use Rattle.rules_opening.specs.declared.Opening.{Opening}
use Rattle.rules_hour.specs.Hours.{Hour, hour_refusal, hour_after, hour_after_all}
use Rattle.rules_hour.specs.Opened.{opened_hour}
use Rattle.rules_text.specs.Numbers.{Line, lines}
use Rattle.rules_text.specs.Tables.{faulty, found}
use Rattle.rules_text.specs.Printing.{refusal_text}
use Rattle.rules_parts.specs.Parts.{read_opening, read_interval}
use Rattle.rules_run.specs.Run.{parts_text, output, end_of}
use Rattle.rules_run.proofs.Meaning.{others_read}
use Rattle.rules_run.proofs.Course.{Takes, eighteen_exactly, eighteen_line}
use Rattle.rules_run.proofs.OwnLines.{Accepted}
use Rattle.rules_run.proofs.RefusedLine.{Intervals, none, one, Parts, Unread, in_opening, in_interval, Refuses, opening, interval, seventeen_exactly, seventeen_first, value_line, none_exactly, end_few}
use Rattle.rules_run.proofs.LastLines.{last_lines_exactly, eighteen_printed}
use Rattle.statements.proofs.Told.{and_so}
use Rattle.statements.proofs.Plain.{Ascii, LineOf, line_is}

-- ---- the parts of a text
-- lines ls, before which n stand, begin with the parts of these calls on the hour h, each accepted, and m lines stand before the rest
abbrev pub Taking : Hour → ℕ → List Line → List Interval → ℕ → List Line → Type 0
Taking h n ls [] m rest = (n ≡ m) × (ls ≡ rest)
Taking h n ls (v ∷ calls) m rest = (k : ℕ) × (more : List Line) × (read_interval n ls ≡ found v k more) × (hour_refusal h v ≡ 0) × Taking (hour_after h v) k more calls m rest

-- the lines `own` are an opening and these calls, all accepted, whatever follows them
abbrev pub Opens : Opening → List Interval → List Line → Type 0
Opens o calls own =
    (opening_refusal o ≡ 0) × ((at : ℕ) × (below : List Line) × ((other : List Line) → read_opening 0 (own ++ other) ≡ found o at (below ++ other))
    × ((other : List Line) → Taking (opened_hour o) at (below ++ other) calls (length own) other))

-- the lines are an opening and intervals to their end, "from none on", accepted or not
abbrev pub Reads : ℕ → List Line → List Interval → Type 0
Reads n ls [] = ls ≡ []
Reads n ls (v ∷ vs) = (m : ℕ) × (rest : List Line) × (read_interval n ls ≡ found v m rest) × Reads m rest vs

abbrev pub AreParts : List Line → Type 0
AreParts ls = (o : Opening) × (at : ℕ) × (below : List Line) × (read_opening 0 ls ≡ found o at below) × ((vs : List Interval) × Reads at below vs)

-- the run ends with this number, on this line
abbrev pub EndsWith : List ℕ → ℕ → ℕ → Type 0
EndsWith text number line = end_of text ≡ record { number = number; line = line }

-- the part that comes up is not of the form: the opening, or the part after an opening and calls that are all accepted
abbrev NotOfForm : List Line → ℕ → Type 0
NotOfForm ls line =
    (read_opening 0 ls ≡ faulty line)
    ⊎ ((o : Opening) × (calls : List Interval) × (own : List Line) × (rest : List Line) × (ls ≡ own ++ rest) × Opens o calls own × (0 < length rest) × (read_interval (length own) rest ≡ faulty line))

-- its lines `own`, after those before it, are of the form, and its values are refused
abbrev ValuesRefused : ℕ → List Line → List Line → Type 0
ValuesRefused number before own =
    ((before ≡ []) × ((o : Opening) × ((after : List Line) → read_opening 0 (own ++ after) ≡ found o (length own) after) × (opening_refusal o ≡ number)))
    ⊎ ((o : Opening) × (calls : List Interval) × Opens o calls before
    × ((v : Interval) × ((after : List Line) → read_interval (length before) (own ++ after) ≡ found v (length (before ++ own)) after) × (hour_refusal (hour_after_all (opened_hour o) calls) v ≡ number)))

pub record TextSays (text : List ℕ) : Type 0 where
  -- 18 "over 65,536 bytes", "18 is tested first", "1 for 18"
  pub eighteen : ((end_of text).number ≡ 18) ↔ (65536 < length text)
  pub on_line_one : (end_of text).number ≡ 18 → (end_of text).line ≡ 1
  -- 17 "line not of the form"
  pub seventeen : (line : ℕ) → EndsWith text 17 line ↔ ((length text ≤ 65536) × NotOfForm (lines text) line)
  -- "the faulty one for 17, the one after the last if the text ends early": the lines before it can be completed to parts, and with it they can't
  pub first_fault : (line : ℕ) → EndsWith text 17 line
      → (before : List Line) × (left : List Line) × (lines text ≡ before ++ left) × (line ≡ suc (length before))
      × ((more : List Line) × AreParts (before ++ more))
      × ((l : Line) (tail : List Line) → left ≡ l ∷ tail → (others : List Line) → AreParts (before ++ (l ∷ others)) → ⊥)
      × (left ≡ [] → (line ≡ suc (length (lines text))) × (AreParts (lines text) → ⊥))
  -- "else the part's last"
  pub one_to_sixteen : (number line : ℕ) → 0 < number → number ≤ 16 → EndsWith text number line
      ↔ ((length text ≤ 65536) × ((before : List Line) × (own : List Line) × (after : List Line) × (lines text ≡ before ++ (own ++ after)) × ValuesRefused number before own × (line ≡ length (before ++ own))))
  pub not_refused : EndsWith text 0 0 ↔ ((length text ≤ 65536) × ((o : Opening) × (calls : List Interval) × Opens o calls (lines text)))
  pub no_other : ((end_of text).number ≤ 18) × ((end_of text).line ≤ 65537)
  -- "On refusal the program prints the line `refusal line`, then a line of the two values .. and stops."
  pub printed_last : (number line : ℕ) → 0 < number → number < 1000000000000 → line < 1000000000000
      → EndsWith text number line ↔ ((before : List ℕ) × (output text ≡ before ++ (Ascii "refusal line\n" ++ LineOf (pos number ∷ pos line ∷ []))))
  pub eighteen_is_printed : (output text ≡ Ascii "refusal line\n18 1\n") ↔ (65536 < length text)
  -- a text of at most 65,536 bytes is read
  pub read : length text ≤ 65536 → output text ≡ parts_text (lines text)

-- ---- from the theorems
taking : (calls : List Interval) (h : Hour) (n : ℕ) (ls : List Line) (m : ℕ) (rest : List Line) → Takes h n ls calls m rest ↔ Taking h n ls calls m rest
taking [] h n ls m rest = ((λ t. t), λ t. t)
taking (v ∷ calls) h n ls m rest = (
  (λ t. (t.0, t.1, t.2, t.3, (taking calls (hour_after h v) t.0 t.1 m rest).0 t.4)),
  λ t. (t.0, t.1, t.2, t.3, (taking calls (hour_after h v) t.0 t.1 m rest).1 t.4),
)

pub opens : (o : Opening) (calls : List Interval) (own : List Line) → Accepted o calls own ↔ Opens o calls own
opens o calls own = (
  (λ a. (a.accepted, (a.at, a.below, a.opens, λ other. (taking calls (opened_hour o) a.at (a.below ++ other) (length own) other).0 (a.takes other)))),
  λ a. record {
    accepted = a.0;
    at = a.1.0;
    below = a.1.1;
    opens = a.1.2;
    takes = λ other. (taking calls (opened_hour o) a.1.0 (a.1.1 ++ other) (length own) other).1 (a.1.3 other);
  },
)

reads_there : (n : ℕ) (ls : List Line) → Intervals n ls → (vs : List Interval) × Reads n ls vs
reads_there n ls (none e) = ([], e)
reads_there n ls (one v m rest e i) = let t = reads_there m rest i in (v ∷ t.0, (m, rest, e, t.1))

reads_back : (vs : List Interval) (n : ℕ) (ls : List Line) → Reads n ls vs → Intervals n ls
reads_back [] n ls e = none e
reads_back (v ∷ vs) n ls r = one v r.0 r.1 r.2 (reads_back vs r.0 r.1 r.3)

parts : (ls : List Line) → Parts ls ↔ AreParts ls
parts ls = (
  (λ p. (p.opening, p.at, p.below, p.opens, reads_there p.at p.below p.intervals)),
  λ p. record { opening = p.0; at = p.1; below = p.2; opens = p.3; intervals = reads_back p.4.0 p.1 p.2 p.4.1 },
)

not_of_form : (ls : List Line) (line : ℕ) → Unread ls line ↔ NotOfForm ls line
not_of_form ls line = (there, λ x. ⊎_elim (λ e. in_opening e) (λ y. in_interval y.0 y.1 y.2 y.3 y.4 ((opens y.0 y.1 y.2).1 y.5) y.6 y.7) x)
  where
    there : Unread ls line → NotOfForm ls line
    there (in_opening e) = inl e
    there (in_interval o calls own rest is a some e) = inr (o, calls, own, rest, is, (opens o calls own).0 a, some, e)

values_refused : (number : ℕ) (before own : List Line) → Refuses number before own ↔ ValuesRefused number before own
values_refused number before own = (
  there,
  λ x. ⊎_elim (λ y. opening y.0 y.1.0 y.1.1 y.1.2) (λ y. interval y.0 y.1 ((opens y.0 y.1 before).1 y.2) y.3.0 y.3.1 y.3.2) x,
)
  where
    there : Refuses number before own → ValuesRefused number before own
    there (opening z o r g) = inl (z, (o, r, g))
    there (interval o calls a v r g) = inr (o, calls, (opens o calls before).0 a, (v, r, g))

pub text_says : (text : List ℕ) → TextSays text
unfolding refusal_text
text_says text = record {
  eighteen = eighteen_exactly text;
  on_line_one = eighteen_line text;
  seventeen = λ line. let f = not_of_form (lines text) line in and_so (seventeen_exactly text line) ((λ h. (h.0, f.0 h.1)), λ h. (h.0, f.1 h.1));
  first_fault = λ line e.
      let f = seventeen_first text line e in (
        f.before,
        f.left,
        f.is,
        f.number,
        (f.more, (parts (f.before ++ f.more)).0 f.whole),
        (λ l tail q others p. f.never l tail q others ((parts (f.before ++ (l ∷ others))).1 p)),
        λ q. let y = f.early q in (y.0, λ p. y.1 ((parts (lines text)).1 p)),
      );
  one_to_sixteen = λ number line some few. and_so (value_line text number line some few) (
    (λ h. let r = h.1 in (h.0, (r.before, r.own, r.after, r.is, (values_refused number r.before r.own).0 r.part, r.last))),
    λ h. let r = h.1 in (h.0, record { before = r.0; own = r.1; after = r.2; is = r.3; part = (values_refused number r.0 r.1).1 r.4; last = r.5 }),
  );
  not_refused = and_so (none_exactly text) ((λ h. (h.0, (h.1, h.2, (opens h.1 h.2 (lines text)).0 h.3))), λ h. (h.0, h.1.0, h.1.1, (opens h.1.0 h.1.1 (lines text)).1 h.1.2));
  no_other = end_few text;
  printed_last = λ number line some n l. rw (← line_is (pos number ∷ pos line ∷ [])) (last_lines_exactly text number line some n l);
  eighteen_is_printed = eighteen_printed text;
  read = others_read text;
}
