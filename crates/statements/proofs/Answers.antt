-- What is printed and answered, as bytes and numbers: a table's lines, a quoted text's letters, the numbers of findings, 21 of a book, and -1 before any refusal. Assumes nothing.
use Rattle.std.specs.Prelude.{None, Option, Some}
use mathlib.Core.List.{List, [], ◌∷◌, ◌++◌, map}
use mathlib.Core.Logic.{◌⊎◌, ◌↔◌}
use mathlib.Core.Path.{◌≡◌, refl}
use Prim.Native.Char.{Char, code}
use Prim.Native.Nat.{ℕ, ◌≤◌, ◌<◌}
use Prim.Native.String.{String, ◌∷◌ as ◌before◌}
use lib.IntN.{ℤ, pos, negsuc}
use lib.ListN.{length, get_or}
use Rattle.rules_number.specs.Over.{listed}
use Rattle.rules_cost.specs.Costs.{cost_refusal}
use Rattle.rules_cost.specs.declared.Costs.{Costs}
use Rattle.rules_gas.specs.Book.{gas_run, book_refusal, gas_number, gas_value, price_in_use}
use Rattle.rules_gas.specs.Booked.{list_refusal}
use Rattle.rules_gas.specs.declared.GasMarket.{GasMarket}
use Rattle.rules_gas.proofs.PriceInUse.{gas_number_lem, book_number}
use Rattle.rules_interval.specs.declared.Interval.{Interval}
use Rattle.rules_path.specs.Judgements.{verdicts_of}
use Rattle.rules_path.specs.Verdicts.{finding_number}
use Rattle.rules_path.specs.declared.Finding.TheVariants.{Competitive, NonCompetitive, NotBinding}
use Rattle.rules_path.specs.declared.Market.{Market}
use Rattle.rules_path.specs.declared.Verdict.{Verdict}
use Rattle.rules_path.proofs.FindingNumbers.{finding_numbers, not_binding_past}
use Rattle.rules_text.specs.Numbers.{Row, bytes}
use Rattle.rules_text.specs.Printing.{decimal, line_text, table_text}
use Rattle.rules_text.specs.Spelled.{together}
use Rattle.rules_text.proofs.Letters.{bytes_are, line_one, line_more}
use Rattle.rules_text.proofs.TableLines.{table_lines_lem}
use Rattle.rules_library.specs.Gas.{gas_answer}
use Rattle.rules_library.specs.Slices.{default_answer}
use Rattle.rules_library.proofs.DefaultAnswers.{default_answer_lem, gas_answer_lem}

-- ---- Text: "Each accepted interval, counted from 1, prints its three tables"; "constraints and resources rise"
pub table : (i : ℕ) (gs : List (List Row)) → table_text i 0 gs ≡ together (listed (λ c. together (map (λ x. line_text (pos i ∷ pos c ∷ x)) (get_or gs c []))) (length gs))
table = table_lines_lem

-- "one space between, each line closed by byte 10"
pub line : (z y : ℤ) (zs : Row) → (line_text (z ∷ []) ≡ decimal z ++ (10 ∷ [])) × (line_text (z ∷ y ∷ zs) ≡ decimal z ++ (32 ∷ line_text (y ∷ zs)))
line z y zs = (line_one z, line_more z y zs)

-- the bytes of a quoted names line are its letters' codes
pub letters : (bytes "" ≡ []) × ((c : Char) (s : String) → bytes (c before s) ≡ code c ∷ bytes s)
letters = (refl, bytes_are)

-- ---- "Verdict 0 is competitive, 1 non-competitive, 2 not binding (then 0 0 and no sellers)"
pub findings : (finding_number Competitive ≡ 0) × (finding_number NonCompetitive ≡ 1) × (finding_number NotBinding ≡ 2)
findings = finding_numbers

abbrev none : Verdict
none = record { finding = NotBinding; demand = 0; left = 0; named = 0; withheld = 0 ∷ 0 ∷ 0 ∷ 0 ∷ 0 ∷ 0 ∷ 0 ∷ 0 ∷ 0 ∷ 0 ∷ 0 ∷ 0 ∷ 0 ∷ 0 ∷ 0 ∷ 0 ∷ [] }

pub past_constraints : (m : Market) (v : Interval) (c : ℕ) → v.constraints ≤ c → get_or (verdicts_of m v) c none ≡ none
past_constraints = not_binding_past

-- ---- paper 02, 2.7: "an empty part handed back means 21"
pub gas_price : (g : Option ℕ) → ((gas_number g ≡ 21) ↔ (g ≡ None)) × ((gas_number g ≡ 0) ↔ (g ≡ Some (gas_value g)))
gas_price = gas_number_lem

pub book : (market : GasMarket) (day : ℕ) (ahead real : List ℕ)
    → (gas_number (price_in_use market day ahead real) ≡ book_refusal market day ahead real) × ((book_refusal market day ahead real ≡ 21) ↔ (gas_run market day ahead real ≡ []))
book = book_number

-- ---- the static library: a slice of fewer than 13 edges or 11 prices is answered by -1, whatever is refused
abbrev Short : List ℕ → List ℤ → Type 0
Short edges prices = (length edges < 13) ⊎ (length prices < 11)

pub default_says : (edges : List ℕ) (prices : List ℤ) (c : Costs)
    → (Short edges prices → default_answer edges prices c ≡ negsuc 0) × (13 ≤ length edges → 11 ≤ length prices → default_answer edges prices c ≡ pos (cost_refusal c))
default_says edges prices c = let a = default_answer_lem edges prices c in (a.too_short, a.with_room)

pub gas_says : (edges : List ℕ) (prices : List ℤ) (day : ℕ) (l : List ℕ) (c : Costs)
    → (Short edges prices → gas_answer edges prices day l c ≡ negsuc 0) × (13 ≤ length edges → 11 ≤ length prices → gas_answer edges prices day l c ≡ pos (list_refusal day l c))
gas_says edges prices day l c = let a = gas_answer_lem edges prices day l c in (a.too_short, a.with_room)
