-- Paper 01, Text: which line is "the faulty one for 17, the one after the last if the text ends early".
use Rattle.std.specs.Prelude.{ℕ, suc, ◌+◌, ◌≡◌, List, [], ◌∷◌, ◌++◌, length}
use Rattle.rules_text.specs.Numbers.{Line}
use Rattle.rules_text.specs.Tables.{Reader, found, faulty}

-- of lines before which n others stand, `line` is the number of the first that no part has in its place
pub record First {A : Type 0} (r : Reader A) (n : ℕ) (ls : List Line) (line : ℕ) : Type 0 where
  -- the lines before it, and those from it on: none where the text ends early
  pub start : List Line
  pub left : List Line
  pub is : ls ≡ start ++ left
  pub number : line ≡ suc (n + length start)
  -- the lines before it can be completed to a part
  pub more : List Line
  pub part : A
  pub whole : r n (start ++ more) ≡ found part (n + length (start ++ more)) []
  -- and with it they can't
  pub never : (l : Line) (tail : List Line) → left ≡ l ∷ tail → (others : List Line) → r n (start ++ (l ∷ others)) ≡ faulty line
