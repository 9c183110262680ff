-- Bytes as one number (request 2.4: "Compare eight bytes as one number where eight remain, single bytes after that. Which line matches is unaffected").
use Rattle.std.specs.Prelude.{ℕ, zero, suc, ◌+◌, ◌*◌, List, [], ◌∷◌}

-- the number that the first k bytes spell, the first the lowest
unfoldable pub word_in : ℕ → List ℕ → ℕ
word_in zero l = 0
word_in (suc k) [] = 0
word_in (suc k) (b ∷ l) = b + 256 * word_in k l
