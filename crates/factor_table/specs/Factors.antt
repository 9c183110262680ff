-- A line of the factor table, and rows of factors, as the code answers them.
use Rattle.std.specs.Prelude.{ℕ, suc, ◌+◌, ◌≡◌, List, length, drop, ℤ, Option, Some, None}
use Rattle.rules_number.specs.Order.{nat_of}
use Rattle.rules_text.specs.Numbers.{Line, Row, lines}
use Rattle.rules_text.specs.Tables.{cell, run}
use Rattle.rules_text.specs.Offsets.{bytes_of}
use Rattle.rules_parts.specs.Parts.{place, place_of, is_factor, with_factors}
use Rattle.text_tables.specs.declared.Table.{Table}
use Rattle.factor_table.specs.declared.Factor.{Factor}

-- the factor of a line before the offset `next`, or none
abbrev pub as_factor : ℕ → Option Row → Option Factor
as_factor next None = None
as_factor next (Some x) = Some (record { constraint = nat_of (cell 1 x); value = cell 2 x; next = next })

-- the factors of the resources from a to the one before b, of m constraints
abbrev pub factors_of : ℕ → ℕ → ℕ → List Line → List Row
factors_of m a b = run 3 (is_factor b m) (λ i x. suc (place_of m x)) (place m a 0)

-- the lines at an offset begin with these rows, and the cells keep their factors
pub record Read (s : List ℕ) (at : ℕ) (xs : List Row) (before after : List ℤ) (t : Table) : Type 0 where
  pub count : t.count ≡ length xs
  pub cells : after ≡ with_factors before xs
  pub offset : t.next ≡ at + bytes_of t.count (lines (drop at s))
