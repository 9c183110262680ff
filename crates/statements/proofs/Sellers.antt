-- The lines of sellers: which they are, in which order, and that no two printouts of an hour differ in them. Assumes nothing.
use mathlib.Core.List.{List, [], ◌∷◌, map, Memᴰ}
use mathlib.Core.Logic.{◌≢◌, ◌↔◌}
use mathlib.Core.Path.{◌≡◌}
use Prim.Native.Nat.{ℕ, ◌≤◌, ◌<◌}
use native.Mathlib.Nat.{le_refl}
use lib.IntN.{pos}
use lib.ListN.{length, get_or}
use lib.Count.{ones}
use lib.Signed.{◌<ℤ◌}
use Rattle.rules_number.specs.Over.{sum_to}
use Rattle.rules_number.proofs.TestLaws.{above_exactly}
use Rattle.rules_interval.specs.declared.Interval.{Interval}
use Rattle.rules_path.specs.Judgements.{path_in}
use Rattle.rules_path.specs.Paths.{Path, withholdable, share, sellers}
use Rattle.rules_path.specs.Verdicts.{verdict_of}
use Rattle.rules_path.specs.declared.Market.{Market}
use Rattle.rules_text.specs.Numbers.{Row}
use Rattle.rules_page.proofs.SellerLines.{SellerLines, lines_only, exactly_named}
use Rattle.rules_page.proofs.SellersFound.{sellers_found, named_lines}
use Rattle.statements.proofs.Paths.{Bit, Withholdable}

-- the lines of the sellers named for a constraint
pub record SellersSay (d : Path) (rows : List Row) : Type 0 where
  -- each seller named, and no other, with what it can withhold
  pub who : List ℕ
  pub named : (p : ℕ) → Memᴰ p who ↔ (Bit p (verdict_of d).named ≡ 1)
  pub lines : rows ≡ map (λ p. pos p ∷ pos (Withholdable d p) ∷ []) who
  -- each printed once
  pub once : (i j : ℕ) → i < j → j < length who → get_or who i 0 ≢ get_or who j 0
  -- "Within a constraint the larger withheld amount now comes first"
  pub larger_first : (i j : ℕ) → i < j → j < length who → Withholdable d (get_or who j 0) ≤ Withholdable d (get_or who i 0)
  -- "equal ones by lower portfolio number"
  pub ties : (i j : ℕ) → i < j → j < length who → Withholdable d (get_or who i 0) ≡ Withholdable d (get_or who j 0) → get_or who i 0 < get_or who j 0

-- ---- from the theorems, and back
pub sellers_say : (d : Path) (rows : List Row) → SellerLines d (withholdable d) rows → SellersSay d rows
unfolding withholdable share sum_to
sellers_say d rows s = record {
  who = s.who;
  named = s.exactly;
  lines = s.lines;
  once = s.order.once;
  larger_first = s.order.falls;
  ties = s.order.ties;
}

lines_are : (m : Market) (v : Interval) (c : ℕ) (rows : List Row) → SellersSay (path_in m v c) rows → SellerLines (path_in m v c) (withholdable (path_in m v c)) rows
unfolding withholdable share sum_to
lines_are m v c rows s = record {
  who = s.who;
  order = record { exactly = exactly_named (path_in m v c) (le_refl 16) s.who s.named; once = s.once; falls = s.larger_first; ties = s.ties };
  exactly = s.named;
  lines = s.lines;
}

-- "Two printouts of one hour differed in the lines of sellers": no two are such
pub one_printout : (m : Market) (v : Interval) (c : ℕ) (k l : List Row) → SellersSay (path_in m v c) k → SellersSay (path_in m v c) l → k ≡ l
one_printout m v c k l s t = lines_only (path_in m v c) (withholdable (path_in m v c)) k l (lines_are m v c k s) (lines_are m v c l t)

module _ (m : Market) (v : Interval) (c : ℕ) (b : pos 0 <ℤ (path_in m v c).shadow) (rows : List Row) (s : SellersSay (path_in m v c) rows) where
  -- of a constraint that binds they are the path verdict's "three largest such amounts (ties: lower portfolio number)", in the order in which these are found
  pub as_found : rows ≡ map (λ x. pos x.who ∷ pos x.amount ∷ []) (sellers (path_in m v c))
  as_found = sellers_found (path_in m v c) ((above_exactly (path_in m v c).shadow).1 b) (le_refl 16) rows (lines_are m v c rows s)

  -- and as many as the mask has ones
  pub as_many : length rows ≡ ones (verdict_of (path_in m v c)).named
  as_many = named_lines (path_in m v c) ((above_exactly (path_in m v c).shadow).1 b) (le_refl 16) rows (lines_are m v c rows s)
