-- Bytes of a text from an offset on as one number, the first the lowest, pair by pair.
use Rattle.std.specs.Prelude.{ℕ, ◌+◌, ◌*◌, List, get_or}

abbrev pub pair_at : List ℕ → ℕ → ℕ
pair_at s at = get_or s at 0 + get_or s (at + 1) 0 * 256

abbrev pub four_at : List ℕ → ℕ → ℕ
four_at s at = pair_at s at + pair_at s (at + 2) * 65536

abbrev pub word_at : List ℕ → ℕ → ℕ
word_at s at = four_at s at + four_at s (at + 4) * 4294967296
