-- `state_puts::put_quarter` meets its contract. Assumes nothing.
use Rattle.std.proofs.Common.{◌+◌, List, ℤ, ap, ◌∙◌, arith}
use Rattle.std.proofs.lemmas.List.Edits.{sets}
use Rattle.rules_state.specs.Layout.{quarter_from}
use Rattle.rules_state.specs.States.{floors_cells}
use Rattle.state_puts.proofs.put_quarter.Goals as goal

pub returns-clause-room : goal.returns-clause-room
returns-clause-room c = omega (arith, c.put_floors.ensures.room)

pub returns-clause-state : goal.returns-clause-state
returns-clause-state c =
    c.put_floors.ensures.state ∙ ap (λ (l : List ℤ). sets l (quarter_from + 1) (floors_cells c.args.quarter.floors)) c.put_whole.ensures
