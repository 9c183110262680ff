-- Paper 01, Text, and paper 02, 2.3: what an accepted interval prints, and when it is put into a lent buffer.
use Rattle.std.specs.Prelude.{ℕ, ◌+◌, ◌*◌, ◌≤◌, min, ◌≡◌, List, [], ◌∷◌, ◌++◌, map, Bool, cond, length, take, get_or, leb, pos, None, Option, Some}
use Rattle.std.proofs.lemmas.List.Edits.{sets}
use Rattle.rules_number.specs.Over.{listed}
use Rattle.rules_curve.specs.declared.Step.{Step}
use Rattle.rules_mitigation.specs.Mitigation.{most_mitigated_steps, used_steps}
use Rattle.rules_path.specs.Verdicts.{finding_number, not_binding, is_named}
use Rattle.rules_path.specs.declared.Finding.{Finding}
use Rattle.rules_path.specs.declared.Finding.TheVariants.{Competitive, NonCompetitive, NotBinding}
use Rattle.rules_path.specs.declared.Verdict.{Verdict}
use Rattle.rules_hour.specs.Hours.{uncut, no_row, row_curve}
use Rattle.rules_opening.specs.declared.Row as engine
use Rattle.rules_hour.specs.declared.Floor.{Floor}
use Rattle.rules_text.specs.Numbers.{Row, bytes}
use Rattle.rules_text.specs.Printing.{table_text}
use Rattle.rules_page.specs.Weights.{by_weight}

-- a quantity as it is printed: one past 63 bits, which the paper's limits rule out, as the largest number of 63 bits
abbrev pub printable : ℕ → ℕ
printable n = min n 9223372036854775807

-- ---- "interval constraint verdict demand left"
-- "2 not binding (then 0 0 and no sellers)"
abbrev pub unless_not_binding : Finding → Verdict → Verdict
unless_not_binding Competitive v = v
unless_not_binding NonCompetitive v = v
unless_not_binding NotBinding v = not_binding

-- a verdict as it is printed
unfoldable pub shown : Verdict → Verdict
shown v = unless_not_binding v.finding v

abbrev pub verdict_row : Verdict → Row
verdict_row v = pos (finding_number v.finding) ∷ pos (printable v.demand) ∷ pos (printable v.left) ∷ []

-- the verdict on a constraint
abbrev pub verdict_rows : Verdict → List Row
verdict_rows v = verdict_row (shown v) ∷ []

-- ---- "interval constraint portfolio withheld"
-- what portfolio p withholds, as it is printed
abbrev pub weight_of : Verdict → ℕ → ℕ
weight_of v p = printable (get_or v.withheld p 0)

abbrev pub seller_row : Verdict → ℕ → Row
seller_row v p = pos p ∷ pos (weight_of v p) ∷ []

-- the sellers that a verdict names: "the larger withheld amount now comes first, equal ones by lower portfolio number"
abbrev pub sellers_printed : Verdict → List ℕ
sellers_printed v = by_weight 16 (weight_of v) (is_named v)

unfoldable pub sellers_named : Verdict → List Row
sellers_named v = map (seller_row v) (sellers_printed v)

-- the sellers of a constraint
abbrev pub seller_rows : Verdict → List Row
seller_rows v = sellers_named (shown v)

-- ---- "interval resource end price"
abbrev pub step_row : Step → Row
step_row s = pos (printable s.end) ∷ s.price ∷ []

-- the steps of resource r's present curve
abbrev pub curve_rows : List engine.Row → List Floor → ℕ → List Row
curve_rows rows floors r = map step_row (used_steps (row_curve (get_or rows r no_row) (get_or floors r uncut)))

-- ---- "Each accepted interval, counted from 1, prints its three tables, names lines included"
abbrev pub verdict_names : List ℕ
verdict_names = bytes "interval constraint verdict demand left\n"

abbrev pub seller_names : List ℕ
seller_names = bytes "interval constraint portfolio withheld\n"

abbrev pub curve_names : List ℕ
curve_names = bytes "interval resource end price\n"

-- the verdicts on the first n constraints
unfoldable pub verdict_table : ℕ → ℕ → List Verdict → List ℕ
verdict_table i n verdicts = table_text (printable i) 0 (map verdict_rows (take n verdicts))

-- the sellers named for them
unfoldable pub seller_table : ℕ → ℕ → List Verdict → List ℕ
seller_table i n verdicts = table_text (printable i) 0 (map seller_rows (take n verdicts))

-- the curves of n resources, of which an hour has at most 64
unfoldable pub curve_table : ℕ → ℕ → List engine.Row → List Floor → List ℕ
curve_table i n rows floors = table_text (printable i) 0 (map (curve_rows rows floors) (listed (λ r. r) (min n 64)))

-- what interval i prints of its m constraints
unfoldable pub verdict_text : ℕ → ℕ → List Verdict → List ℕ
verdict_text i m verdicts = verdict_names ++ (verdict_table i m verdicts ++ (seller_names ++ seller_table i m verdicts))

-- and of an hour of n resources that it leaves with these floor prices
unfoldable pub curve_text : ℕ → ℕ → List engine.Row → List Floor → List ℕ
curve_text i n rows floors = curve_names ++ curve_table i n rows floors

-- the page of an interval
abbrev pub page_text : ℕ → ℕ → List engine.Row → List Floor → ℕ → List Verdict → List ℕ
page_text i n rows floors m verdicts = verdict_text i m verdicts ++ curve_text i n rows floors

-- ---- a text put into a buffer at an offset
-- verdicts are put where at least so many bytes are left: 32 of up to 105 bytes, each with up to 16 sellers of 84, take 46,447 at most with their names lines
abbrev pub verdict_room : ℕ
verdict_room = 49152

-- a step's line has up to 84 bytes, so a curve's lines and those of 64 curves have up to 1,680 and 107,520
abbrev pub curve_bytes : ℕ
curve_bytes = most_mitigated_steps * 84

abbrev pub curves_bytes : ℕ
curves_bytes = 64 * curve_bytes

-- curves are: 64 of them take 107,548 at most with their names line
abbrev pub curve_room : ℕ
curve_room = 114688

-- the lines of a refusal take 55 at most
abbrev pub refusal_room : ℕ
refusal_room = 64

-- a text of at most so many bytes is put at an offset, and r is the offset after it
pub record Put (most : ℕ) (out : List ℕ) (at : ℕ) (text now : List ℕ) (r : ℕ) : Type 0 where
  pub buffer : now ≡ sets out at text
  pub next : r ≡ at + length text
  pub few : r ≤ at + most

-- whether that many bytes are left
abbrev pub is_room : ℕ → List ℕ → ℕ → Bool
is_room room out at = leb (at + room) (length out)

-- the buffer afterwards, in which nothing is changed where fewer bytes are left
unfoldable pub put_within : ℕ → List ℕ → ℕ → List ℕ → List ℕ
put_within room out at text = cond (is_room room out at) (sets out at text) out

-- the offset after the text, where it is put
unfoldable pub put_within_to : ℕ → List ℕ → ℕ → List ℕ → Option ℕ
put_within_to room out at text = cond (is_room room out at) (Some (at + length text)) None
