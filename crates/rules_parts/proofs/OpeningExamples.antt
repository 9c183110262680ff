-- Small broken texts, by computation. Assumes nothing.
use mathlib.Core.Path.{◌≡◌, refl}
use Rattle.rules_text.specs.Numbers.{bytes, lines, row, number, magnitude}
use Rattle.rules_text.specs.Tables.{faulty, headed, due, single, run, rows, counted, grouped, pairs, each}
use Rattle.rules_parts.specs.Parts.{read_opening}

empty_opening : read_opening 0 (lines (bytes "")) ≡ faulty 1
unfolding read_opening headed
empty_opening = refl

-- a step of resource 1, which no line declares
undeclared_step : read_opening 0 (lines (bytes "month\n25\nportfolio seller\n0 1\nresource portfolio start\n0 0 1\nresource end price\n1 2 3\nresource mw heat\n")) ≡ faulty 8
unfolding read_opening headed due single counted rows run grouped pairs row number magnitude
undeclared_step = refl

-- one cost line too few
cost_line_missing :
    read_opening 0 (lines (bytes "month\n25\nportfolio seller\n0 1\nresource portfolio start\n0 0 1\n1 0 1\nresource end price\nresource mw heat\nresource gas rate allowance om msc soc fee\n0 1 2 3 4 5 6 7\nconstraint shadow\n"))
    ≡ faulty 12
unfolding read_opening headed due single counted rows run grouped pairs each row number magnitude
cost_line_missing = refl
