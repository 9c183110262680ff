-- Paper 02, 2.5 No parameter means zero: what a missing parameter means, and a text with 100 written, which prints as before, in full. Assumes nothing.
use Rattle.std.specs.Prelude.{Some}
use mathlib.Core.List.{List, [], ◌∷◌}
use mathlib.Core.Logic.{◌⊎◌, ◌↔◌}
use mathlib.Core.Bool.{false}
use mathlib.Core.Path.{◌≡◌}
use Prim.Native.Nat.{ℕ, suc, ◌+◌, ◌*◌, ◌≤◌}
use lib.IntN.{ℤ, pos}
use lib.ListN.{length, get_or}
use Rattle.rules_text.specs.Numbers.{Line, lines}
use Rattle.rules_parts.specs.Parts.{parameter_of}
use Rattle.rules_parts.proofs.OnlyInterval.{parameter_exactly}
use Rattle.rules_run.specs.Run.{output_by, output, end_with, end_of}
use Rattle.rules_run.specs.Formerly.{written, missing_in, MissingAfter}
use Rattle.rules_run.proofs.WrittenLines.{written_says, stays_exactly, no_more_missing, written_by_two}
use Rattle.rules_run.proofs.Written.{written_100, written_100_ends, nothing_missing, nothing_missing_ends}
use Rattle.statements.proofs.Texts.{Twelve}
use Rattle.statements.proofs.Told.{and_so}
use Rattle.statements.proofs.Plain.{Ascii, LineOf, line_is}

-- "Parameter "-" alone is missing", and "Missing now means 0"; any other parameter is the number that is written
pub parameter : (l : Line) (z : ℤ) → (parameter_of l ≡ Some z) ↔ (((l ≡ Ascii "-\n") × (z ≡ pos 0)) ⊎ ((l ≡ LineOf (z ∷ [])) × Twelve z))
parameter l z = rw (← line_is (z ∷ [])) (parameter_exactly l z)

-- line i of a text, from 0, is the names of the parameter's table and the next is "-" alone
abbrev Missing : List ℕ → ℕ → Type 0
Missing t i = (get_or (lines t) i [] ≡ Ascii "parameter\n") × (get_or (lines t) (suc i) [] ≡ Ascii "-\n")

pub record MissingSays (t : List ℕ) : Type 0 where
  -- "must write 100": for each missing parameter, and no other line changes
  pub lines_stay : length (lines (written t)) ≡ length (lines t)
  pub first_stays : get_or (lines (written t)) 0 [] ≡ get_or (lines t) 0 []
  pub hundred : (i : ℕ) → Missing t i → get_or (lines (written t)) (suc i) [] ≡ Ascii "100\n"
  pub others_stay : (i : ℕ) → (Missing t i → ⊥) → get_or (lines (written t)) (suc i) [] ≡ get_or (lines t) (suc i) []
  pub two_bytes_each : length (written t) ≡ length t + 2 * missing_in false (lines t)
  pub stays : (written t ≡ t) ↔ ((i : ℕ) → Missing t i → ⊥)
  pub once : written (written t) ≡ written t
  -- "and, where that stays within 65,536 bytes, print as before": what was printed where a missing parameter meant 100, refusals and their lines too
  pub prints : length (written t) ≤ 65536 → output (written t) ≡ output_by (pos 100) t
  pub ends : length (written t) ≤ 65536 → end_of (written t) ≡ end_with (pos 100) t
  -- "otherwise unaltered": where no parameter is missing
  pub unaltered : ((i : ℕ) → Missing t i → ⊥) → output t ≡ output_by (pos 100) t
  pub ends_unaltered : ((i : ℕ) → Missing t i → ⊥) → end_of t ≡ end_with (pos 100) t

-- ---- from the theorems
missing : (t : List ℕ) (i : ℕ) → MissingAfter t i ↔ Missing t i
missing t i = ((λ m. (m.names, m.value)), λ m. record { names = m.0; value = m.1 })

none_missing : (t : List ℕ) → ((i : ℕ) → MissingAfter t i → ⊥) ↔ ((i : ℕ) → Missing t i → ⊥)
none_missing t = ((λ h i m. h i ((missing t i).1 m)), λ h i m. h i ((missing t i).0 m))

pub missing_says : (t : List ℕ) → MissingSays t
missing_says t =
    let w = written_says t in
    record {
      lines_stay = w.as_many;
      first_stays = w.first;
      hundred = λ i m. w.hundred i ((missing t i).1 m);
      others_stay = λ i h. w.other i (λ m. h ((missing t i).0 m));
      two_bytes_each = written_by_two t;
      stays = and_so (stays_exactly t) (none_missing t);
      once = no_more_missing t;
      prints = written_100 t;
      ends = written_100_ends t;
      unaltered = λ h. nothing_missing t ((none_missing t).1 h);
      ends_unaltered = λ h. nothing_missing_ends t ((none_missing t).1 h);
    }
