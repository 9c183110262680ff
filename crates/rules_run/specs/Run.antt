-- Paper 01, Text: the whole run, from the bytes of a text to the bytes that are printed.
use Rattle.std.specs.Prelude.{ℕ, zero, suc, List, [], ◌∷◌, ◌++◌, cond, leb, ltb, length, ℤ}
use Rattle.std.proofs.lemmas.List.Edits.{sets}
use Rattle.rules_interval.specs.declared.Interval.{Interval}
use Rattle.rules_opening.specs.Openings.{opening_refusal}
use Rattle.rules_hour.specs.Opened.{opened_hour}
use Rattle.rules_hour.specs.Hours.{hour_refusal, hour_after, hour_verdicts}
use Rattle.rules_hour.specs.Hours.{Hour}
use Rattle.rules_path.specs.declared.Verdict.{Verdict}
use Rattle.rules_text.specs.Numbers.{Line, lines}
use Rattle.rules_text.specs.Tables.{Reading, faulty, found}
use Rattle.rules_text.specs.Printing.{refusal_text}
use Rattle.rules_parts.specs.Parts.{read_opening, missing_parameter, read_interval_by}
use Rattle.rules_page.specs.Pages.{page_text}
use Rattle.rules_run.specs.declared.Ran.{Ran}
use Rattle.rules_run.specs.declared.Ran.TheVariants.{Printed, TooSmall}

-- "each part's text before its values": a line that is not of the form is refusal 17
abbrev pub part : {A : Type 0} → Reading A → (A → ℕ → List Line → List ℕ) → List ℕ
part (faulty line) values = refusal_text 17 line
part (found a n ls) values = values a n ls

-- "else the part's last", which is line n; and where nothing is refused, what is printed then
abbrev pub answer : ℕ → ℕ → List ℕ → List ℕ
answer n zero printed = printed
answer n (suc number) printed = refusal_text (suc number) n

-- the page of interval i, with m constraints, that leaves this hour
abbrev pub page_leaving : ℕ → Hour → ℕ → List Verdict → List ℕ
page_leaving i h m verdicts = page_text i h.market.resources h.rows h.standing.floors m verdicts

-- the page of interval i on an hour
abbrev pub page_of : ℕ → Hour → Interval → List ℕ
page_of i h v = page_leaving i (hour_after h v) v.constraints (hour_verdicts h v)

-- ---- what is printed where a missing parameter means `missing`
-- interval i and those after it, "from none on", each printed before the next is read; at most f of them
unfoldable pub intervals_by : ℤ → ℕ → ℕ → Hour → ℕ → List Line → List ℕ
intervals_by missing zero i h n ls = []
intervals_by missing (suc f) i h n [] = []
intervals_by missing (suc f) i h n (l ∷ ls) =
    part (read_interval_by missing n (l ∷ ls)) (λ v m rest. answer m (hour_refusal h v) (page_of i h v ++ intervals_by missing f (suc i) (hour_after h v) m rest))

-- the intervals of an opened hour: it accepts four, so that a fifth part is refused and there is no sixth
abbrev pub hour_text_by : ℤ → Hour → ℕ → List Line → List ℕ
hour_text_by missing h n ls = intervals_by missing 5 1 h n ls

-- the parts of a text: the opening, and then its intervals
unfoldable pub parts_text_by : ℤ → List Line → List ℕ
parts_text_by missing ls = part (read_opening 0 ls) (λ o n rest. answer n (opening_refusal o) (hour_text_by missing (opened_hour o) n rest))

-- a whole text: "18 is tested first"
unfoldable pub output_by : ℤ → List ℕ → List ℕ
output_by missing text = cond (ltb 65536 (length text)) (refusal_text 18 1) (parts_text_by missing (lines text))

-- ---- what the program prints
abbrev pub intervals : ℕ → ℕ → Hour → ℕ → List Line → List ℕ
intervals = intervals_by missing_parameter

abbrev pub hour_text : Hour → ℕ → List Line → List ℕ
hour_text = hour_text_by missing_parameter

abbrev pub parts_text : List Line → List ℕ
parts_text = parts_text_by missing_parameter

abbrev pub output : List ℕ → List ℕ
output = output_by missing_parameter

-- ---- how a run ends, as values
-- the number of the refusal and its line; 0 and 0 where nothing is refused
pub record Ended : Type 0 where
  pub number : ℕ
  pub line : ℕ

abbrev pub ended_by : ℕ → ℕ → Ended
ended_by number line = record { number = number; line = line }

-- how it ends with a part that is read: 17, or as its values say
abbrev pub part_end : {A : Type 0} → Reading A → (A → ℕ → List Line → Ended) → Ended
part_end (faulty line) values = ended_by 17 line
part_end (found a n ls) values = values a n ls

-- with a part whose last line is line n: its refusal, or what comes later
abbrev pub answer_end : ℕ → ℕ → Ended → Ended
answer_end n zero later = later
answer_end n (suc number) later = ended_by (suc number) n

-- with the next interval and those after it; at most f of them
unfoldable pub intervals_end_by : ℤ → ℕ → Hour → ℕ → List Line → Ended
intervals_end_by missing zero h n ls = ended_by 0 0
intervals_end_by missing (suc f) h n [] = ended_by 0 0
intervals_end_by missing (suc f) h n (l ∷ ls) =
    part_end (read_interval_by missing n (l ∷ ls)) (λ v m rest. answer_end m (hour_refusal h v) (intervals_end_by missing f (hour_after h v) m rest))

abbrev pub hour_end_by : ℤ → Hour → ℕ → List Line → Ended
hour_end_by missing h n ls = intervals_end_by missing 5 h n ls

unfoldable pub parts_end_by : ℤ → List Line → Ended
parts_end_by missing ls = part_end (read_opening 0 ls) (λ o n rest. answer_end n (opening_refusal o) (hour_end_by missing (opened_hour o) n rest))

-- how the run of a text ends
unfoldable pub end_with : ℤ → List ℕ → Ended
end_with missing text = cond (ltb 65536 (length text)) (ended_by 18 1) (parts_end_by missing (lines text))

abbrev pub intervals_end : ℕ → Hour → ℕ → List Line → Ended
intervals_end = intervals_end_by missing_parameter

abbrev pub hour_end : Hour → ℕ → List Line → Ended
hour_end = hour_end_by missing_parameter

abbrev pub parts_end : List Line → Ended
parts_end = parts_end_by missing_parameter

abbrev pub end_of : List ℕ → Ended
end_of = end_with missing_parameter

-- what it prints last: "the line `refusal line`, then a line of the two values"
abbrev pub last_lines : ℕ → ℕ → List ℕ
last_lines zero line = []
last_lines (suc number) line = refusal_text (suc number) line

-- ---- a run into a lent page
-- room for four pages and the lines of a refusal
abbrev pub run_room : ℕ
run_room = 655424

-- the page afterwards: nothing is changed where it has less room
unfoldable pub ran_within : List ℕ → List ℕ → List ℕ
ran_within out printed = cond (leb run_room (length out)) (sets out 0 printed) out

-- how many bytes were printed and how the run ended, or that the page has less room
unfoldable pub ran_to : List ℕ → List ℕ → Ended → Ran
ran_to out printed e = cond (leb run_room (length out)) (Printed (length printed) e.number e.line) TooSmall
