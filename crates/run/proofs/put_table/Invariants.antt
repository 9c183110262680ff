-- What the loop of `run::put_table` keeps, and its measure.
use Rattle.std.proofs.Common.{ℕ, ◌+◌, ◌-◌, ◌*◌, ◌≤◌, List, map, drop}
use lib.IntN.{ℤ}
use Rattle.rules_number.specs.Over.{listed}
use Rattle.rules_text.specs.Numbers.{Row}
use Rattle.rules_text.specs.Printing.{table_text}
use Rattle.rules_page.specs.Pages.{curve_bytes, printable, curve_rows, curve_table}
use Rattle.rules_state.specs.States.{rows_in, standing_in, market_in}
use Rattle.page.proofs.PageLaws.{Putting}
use Rattle.run.specs.Kept.{Kept}
use Rattle.run.proofs.KeptLaws.{SameLong}
use Rattle.run.proofs.put_table.Given as goal

-- the resources' numbers, and the lines of each
abbrev pub numbers : ℕ → List ℕ
numbers n = listed (λ r. r) n

abbrev pub rows : List ℤ → ℕ → List Row
rows st r = curve_rows (rows_in st) (standing_in st).floors r

abbrev pub invariant-loop-r : goal.invariant-loop-r
invariant-loop-r l = record {
  put : Putting l.initial.out l.at (curve_table l.i (market_in l.state).resources (rows_in l.state) (standing_in l.state).floors) l.out l.p (table_text (printable l.i) l.r (map (rows l.state) (drop l.r (numbers l.n))));
  low : l.r ≤ l.n;
  few : l.p ≤ l.at + curve_bytes * l.r;
  long : SameLong l.initial.shown l.initial.places l.initial.widths l.shown l.places l.widths;
  kept : Kept (market_in l.state).resources (rows_in l.state) l.out l.p l.shown l.places l.widths;
}
