-- The texts of Case T's values are the page's. Assumes nothing.
use Rattle.std.specs.Prelude.{Some}
use mathlib.Core.Path.{◌≡◌, refl}
use mathlib.Core.List.{[], ◌∷◌}
use lib.IntN.{pos, negsuc}
use Rattle.rules_text.specs.Numbers.{bytes}
use Rattle.rules_text.specs.Printing.{digits, decimal, line_text}
use Rattle.rules_parts.specs.Texts.{GivenOpening, GivenInterval, opening_lines, opening_text, interval_lines, interval_text}
use Rattle.rules_text.specs.Spelled.{counted_rows, grouped_rows, together}

abbrev opening : GivenOpening
opening = record {
  month = pos 25;
  sellers = pos 1 ∷ [];
  resources = record {
    portfolio = pos 0;
    start = pos 10000;
    steps = record { end = pos 15000; price = pos 300000 } ∷ record { end = pos 30000; price = pos 900000 } ∷ [];
    points = record { mw = pos 10000; heat = pos 10000 } ∷ record { mw = pos 20000; heat = pos 9000 } ∷ record { mw = pos 30000; heat = pos 9500 } ∷ [];
    gas = pos 40000;
    rate = pos 0;
    allowance = pos 0;
    om = pos 20000;
    msc = pos 1000;
    soc = pos 3000;
    fee = pos 50;
  } ∷ [];
}

opens : opening_text opening ≡ bytes "month\n25\nportfolio seller\n0 1\nresource portfolio start\n0 0 10000\nresource end price\n0 15000 300000\n0 30000 900000\nresource mw heat\n0 10000 10000\n0 20000 9000\n0 30000 9500\nresource gas rate allowance om msc soc fee\n0 40000 0 0 20000 1000 3000 50\n"
unfolding opening_text opening_lines counted_rows grouped_rows together line_text decimal digits
opens = refl

abbrev interval : GivenInterval
interval = record {
  shadows = pos 500000 ∷ [];
  outputs = record { lmp = pos 600000; dispatch = pos 20000; available = pos 30000; floor = pos 0 } ∷ [];
  factors = record { resource = 0; constraint = 0; factor = negsuc 499999 } ∷ [];
  parameter = Some (pos 100);
}

holds : interval_text interval ≡ bytes "constraint shadow\n0 500000\nresource lmp dispatch available floor\n0 600000 20000 30000 0\nresource constraint factor\n0 0 -500000\nparameter\n100\n"
unfolding interval_text interval_lines counted_rows together line_text decimal digits
holds = refl
