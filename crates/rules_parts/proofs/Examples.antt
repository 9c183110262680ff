-- The definitions at Case T's text and at faulty ones, computed. Assumes nothing.
use Prim.Native.String.{String}
use mathlib.Core.Path.{◌≡◌, refl}
use mathlib.Core.List.{[], ◌∷◌}
use lib.IntN.{pos, negsuc}
use Rattle.rules_number.specs.Over.{padded}
use Rattle.rules_opening.specs.declared.Opening.{Opening}
use Rattle.rules_opening.specs.declared.Source.TheVariants as source
use Rattle.rules_opening.proofs.CaseT.{bid_t, costs_t, opening_t, interval_t}
use Rattle.rules_text.specs.Numbers.{bytes, lines, number, magnitude, row}
use Rattle.rules_text.specs.Tables.{faulty, found, headed, due, single, run, rows, counted, grouped, pairs, each}
use Rattle.rules_text.specs.Offsets.{kept}
use Rattle.rules_parts.specs.Parts.{bid_of, resource_of, resources_of, opening_of, read_opening, is_declared, is_factor, factor_rows, with_factors, interval_of, parameter_by, parameter_of, read_interval_by, read_interval}

-- ---- Case T
opening_text_lem : String
opening_text_lem = "month\n25\nportfolio seller\n0 1\nresource portfolio start\n0 0 10000\nresource end price\n0 15000 300000\n0 30000 900000\nresource mw heat\n0 10000 10000\n0 20000 9000\n0 30000 9500\nresource gas rate allowance om msc soc fee\n0 40000 0 0 20000 1000 3000 50\n"

unfoldable pub interval_text_lem : String
interval_text_lem = "constraint shadow\n0 500000\nresource lmp dispatch available floor\n0 600000 20000 30000 0\nresource constraint factor\n0 0 -500000\nparameter\n100\n"

-- T's opening, with arrays of full length in the cells that are blank
unfoldable pub opening_read : Opening
opening_read = record {
  month = opening_t.month;
  portfolios = opening_t.portfolios;
  sellers = opening_t.sellers;
  resources = opening_t.resources;
  list = padded 64 (resource_of [] [] [] []) (record { portfolio = pos 0; bid = bid_t; source = source.Costs; costs = costs_t; pack = bid_of (pos 0) [] } ∷ []);
}

-- lines 1 to 15
opens : read_opening 0 (lines (bytes opening_text_lem)) ≡ found opening_read 15 []
unfolding opening_text_lem opening_read read_opening opening_of resources_of headed due single counted rows run grouped pairs each row number magnitude kept padded
opens = refl

-- lines 16 to 23
pub reads_interval : read_interval 15 (lines (bytes interval_text_lem)) ≡ found interval_t 23 []
unfolding interval_text_lem read_interval_by interval_of factor_rows is_factor is_declared with_factors parameter_by headed due single counted rows run row number magnitude kept padded
reads_interval = refl

-- ---- small texts
-- the text ends early: the line after the last
ends_early : read_interval 15 (lines (bytes "constraint shadow\n0 5\n")) ≡ faulty 18
unfolding read_interval_by headed counted rows run row number magnitude
ends_early = refl

two_factors : factor_rows 2 2 (lines (bytes "0 1 5\n1 0 -6\n")) ≡ (pos 0 ∷ pos 1 ∷ pos 5 ∷ []) ∷ (pos 1 ∷ pos 0 ∷ negsuc 5 ∷ []) ∷ []
unfolding factor_rows is_factor is_declared run row number magnitude
two_factors = refl

repeated_factor : factor_rows 1 1 (lines (bytes "0 0 5\n0 0 5\n")) ≡ (pos 0 ∷ pos 0 ∷ pos 5 ∷ []) ∷ []
unfolding factor_rows is_factor is_declared run row number magnitude
repeated_factor = refl

falling_factor : factor_rows 2 2 (lines (bytes "1 0 5\n0 1 5\n")) ≡ (pos 1 ∷ pos 0 ∷ pos 5 ∷ []) ∷ []
unfolding factor_rows is_factor is_declared run row number magnitude
falling_factor = refl

undeclared_factor : factor_rows 1 1 (lines (bytes "0 1 5\n")) ≡ []
unfolding factor_rows is_factor is_declared run row number magnitude
undeclared_factor = refl

missing_parameter_lem : due parameter_of 22 (lines (bytes "-\n")) ≡ found (pos 0) 23 []
unfolding due parameter_by
missing_parameter_lem = refl

-- an empty line isn't "-"
empty_parameter : due parameter_of 22 (lines (bytes "\n")) ≡ faulty 23
unfolding due parameter_by single row number magnitude
empty_parameter = refl
