-- Sellers by weight, worked by hand and held to the definitions by computation. Assumes nothing.
use mathlib.Core.List.{List, [], ◌∷◌, ◌++◌}
use mathlib.Core.Path.{◌≡◌, refl}
use Prim.Native.Nat.{ℕ}
use lib.IntN.{pos, negsuc}
use lib.ListN.{replicate}
use Rattle.rules_number.specs.Over.{sum_to, listed, padded}
use Rattle.rules_path.specs.Paths.{Path, at, demand, supply, share, withholdable, offer, offers, largest, top, total, mask, amount_of, sellers, named, left, is_non_competitive}
use Rattle.rules_path.specs.Verdicts.{verdict_of, is_named}
use Rattle.rules_path.specs.declared.Finding.TheVariants.{NonCompetitive}
use Rattle.rules_text.specs.Numbers.{Row}
use Rattle.rules_page.specs.Pages.{shown, sellers_named, seller_rows}
use Rattle.rules_page.specs.Weights.{leads, by_weight}

-- 16 portfolios, each with one resource of shift factor -1 and so much available; net sellers where the second list has a 1
abbrev sixteen : List ℕ → List ℕ → Path
sixteen available sellers = record {
  shadow = pos 1;
  resources = 16;
  factor = λ r. negsuc 0;
  dispatch = λ r. 0;
  available = at available;
  floor = λ r. 0;
  portfolio = λ r. r;
  portfolios = 16;
  seller = at sellers;
}

-- the lines of sellers where all are net sellers
abbrev lines_of : List ℕ → List Row
lines_of available = seller_rows (verdict_of (sixteen available (replicate 16 1)))

abbrev line : ℕ → ℕ → Row
line p amount = pos p ∷ pos amount ∷ []

pub record Orders : Type 0 where
  -- "the larger withheld amount now comes first"
  pub larger_first : lines_of (5 ∷ 7 ∷ 9 ∷ 2 ∷ []) ≡ line 2 9 ∷ line 1 7 ∷ line 0 5 ∷ []
  -- "equal ones by lower portfolio number"
  pub tie : lines_of (5 ∷ 7 ∷ 7 ∷ 7 ∷ 9 ∷ []) ≡ line 4 9 ∷ line 1 7 ∷ line 2 7 ∷ []
  pub all_equal : lines_of (replicate 16 4) ≡ line 0 4 ∷ line 1 4 ∷ line 2 4 ∷ []
  pub last_first : lines_of (replicate 15 1 ++ (2 ∷ [])) ≡ line 15 2 ∷ line 0 1 ∷ line 1 1 ∷ []
  -- a net buyer isn't named, nor who can withhold 0
  pub buyer : seller_rows (verdict_of (sixteen (3 ∷ 9 ∷ 4 ∷ 5 ∷ []) (1 ∷ 0 ∷ 1 ∷ 1 ∷ []))) ≡ line 3 5 ∷ line 2 4 ∷ line 0 3 ∷ []
  pub zero_amounts : lines_of (0 ∷ 3 ∷ 0 ∷ 9 ∷ []) ≡ line 3 9 ∷ line 1 3 ∷ []
  pub nobody : lines_of [] ≡ []

pub orders : Orders
unfolding sum_to listed padded demand supply share withholdable offer offers largest top total mask amount_of sellers named left is_non_competitive verdict_of is_named shown sellers_named leads by_weight
orders = record { larger_first = refl; tie = refl; all_equal = refl; last_first = refl; buyer = refl; zero_amounts = refl; nobody = refl }

-- a verdict that the engine doesn't make, with these bits and amounts: all that it names are printed, amounts of 0 last, and amounts past 63 bits as one number
abbrev naming : ℕ → List ℕ → List Row
naming mask amounts = sellers_named (record { finding = NonCompetitive; demand = 0; left = 0; named = mask; withheld = padded 16 0 amounts })

pub record Strange : Type 0 where
  pub four : naming 15 (1 ∷ 2 ∷ 3 ∷ 4 ∷ []) ≡ line 3 4 ∷ line 2 3 ∷ line 1 2 ∷ line 0 1 ∷ []
  pub zeros : naming 7 (0 ∷ 0 ∷ 1 ∷ []) ≡ line 2 1 ∷ line 0 0 ∷ line 1 0 ∷ []
  pub past_63_bits : naming 3 (9223372036854775807 ∷ 9223372036854775808 ∷ []) ≡ line 0 9223372036854775807 ∷ line 1 9223372036854775807 ∷ []
  pub past_16 : naming 65536 [] ≡ []

pub strange : Strange
unfolding padded is_named sellers_named leads by_weight
strange = record { four = refl; zeros = refl; past_63_bits = refl; past_16 = refl }
