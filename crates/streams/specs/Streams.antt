-- What a run of standard input answers, and what it leaves on the lent page.
use Rattle.std.specs.Prelude.{List, ◌≡◌, ℕ, length, take}
use Rattle.rules_run.specs.Run.{output, ran_within}
use Rattle.streams.specs.declared.Streamed.{Streamed}
use Rattle.streams.specs.declared.Streamed.TheVariants.{Written, Unwritten, Unread, TooSmall}

-- how many were run, and how many were handed to standard output
abbrev pub bytes_run : Streamed → ℕ
bytes_run (Written n k) = n
bytes_run (Unwritten n k) = n
bytes_run Unread = 0
bytes_run TooSmall = 0

abbrev pub bytes_handed : Streamed → ℕ
bytes_handed (Written n k) = k
bytes_handed (Unwritten n k) = k
bytes_handed Unread = 0
bytes_handed TooSmall = 0

-- n bytes were run and k handed over, written or not
abbrev pub IsHanded : ℕ → ℕ → Streamed → Type 0
IsHanded n k (Written a b) = (a ≡ n) × (b ≡ k)
IsHanded n k (Unwritten a b) = (a ≡ n) × (b ≡ k)
IsHanded n k Unread = ⊥
IsHanded n k TooSmall = ⊥

-- the run is of the bytes that were read: what they print is on the page, from its first byte on, and that many bytes are handed over
abbrev pub page_after : Streamed → List ℕ → List ℕ → List ℕ
page_after (Written n k) text page = ran_within page (output (take n text))
page_after (Unwritten n k) text page = ran_within page (output (take n text))
page_after Unread text page = page
page_after TooSmall text page = page

abbrev pub bytes_printed : Streamed → List ℕ → ℕ
bytes_printed (Written n k) text = length (output (take n text))
bytes_printed (Unwritten n k) text = length (output (take n text))
bytes_printed Unread text = 0
bytes_printed TooSmall text = 0

-- the page is too small
abbrev pub IsSmall : Streamed → Type 0
IsSmall (Written n k) = ⊥
IsSmall (Unwritten n k) = ⊥
IsSmall Unread = ⊥
IsSmall TooSmall = Unit {0}
