-- What opening an hour into lent cells answers and writes: the whole hour, as far as it has resources, where it is accepted and there is room for it; else nothing.
use Rattle.std.specs.Prelude.{List, ℤ}
use Rattle.std.proofs.lemmas.List.Edits.{sets}
use Rattle.rules_opening.specs.Openings.{opening_refusal}
use Rattle.rules_opening.specs.declared.Opening.{Opening}
use Rattle.rules_library.specs.Slices.{answer_of, if_written}
use Rattle.rules_state.specs.Layout.{hour_room}
use Rattle.rules_state.specs.Calls.{holds}
use Rattle.rules_state.specs.Takes.{opened_cells}

unfoldable pub into_answer : List ℤ → Opening → ℤ
into_answer l o = answer_of (holds (hour_room o.resources) l) (opening_refusal o)

unfoldable pub opened_into : Opening → List ℤ → List ℤ
opened_into o l = if_written (into_answer l o) (sets l 0 (opened_cells o)) l
