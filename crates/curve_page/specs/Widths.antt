-- The lines of a curve and their widths, put where both have room.
use Rattle.std.specs.Prelude.{ℕ, ◌+◌, Bool, ◌&&◌, cond, List, length, None, Option, Some}
use Rattle.std.proofs.lemmas.List.Edits.{sets}
use Rattle.rules_mitigation.specs.Mitigation.{most_mitigated_steps}
use Rattle.rules_page.specs.Pages.{curve_bytes, is_room}

-- whether a page has room for a curve's lines, and a list for their widths
abbrev pub has_both : List ℕ → ℕ → List ℕ → ℕ → Bool
has_both out at widths base = is_room curve_bytes out at && is_room most_mitigated_steps widths base

-- a list afterwards, and the offset after the lines
unfoldable pub lines_in : Bool → List ℕ → ℕ → List ℕ → List ℕ
lines_in room l at text = cond room (sets l at text) l

unfoldable pub lines_to : Bool → ℕ → List ℕ → Option ℕ
lines_to room at text = cond room (Some (at + length text)) None
