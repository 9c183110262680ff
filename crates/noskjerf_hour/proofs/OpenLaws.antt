-- Laws of the answers of noskjerf_open, one for each way out. Assumes nothing.
use Prim.Native.Nat.{ℕ, ◌≤◌, ◌<◌}
use mathlib.Core.Path.{◌≡◌, refl, ap, ◌∙◌}
use mathlib.Core.List.{List, []}
use native.Mathlib.Omega.{arith}
use lib.IntN.{ℤ, pos, negsuc}
use lib.ListN.{length, replicate, length-replicate}
use lib.Seq.{sets}
use Rattle.rules_opening.specs.Openings.{opening_refusal}
use Rattle.rules_opening.specs.declared.Opening.{Opening}
use Rattle.rules_hour.proofs.AcceptedOpening.{few}
use Rattle.rules_pass.specs.Passes.{opened_real_time}
use Rattle.rules_state.specs.Calls.{holds, open_answer, state_opened}
use Rattle.rules_state.specs.Layout.{state_room, hour_room}
use Rattle.rules_state.specs.States.{state_cells}
use Rattle.rules_state.specs.OpenedInto.{into_answer, opened_into}
use Rattle.rules_state.proofs.OpenedLaws.{into_answer_lem, opened_into_lem, opened_is}
use Rattle.cells.proofs.AnswerLaws as answers

module _ (state : List ℤ) (o : Opening) where
  -- the answer and the state are as they should be
  abbrev pub Answered : ℤ → List ℤ → Type 0
  Answered z s = (z ≡ open_answer state o) × (s ≡ state_opened state o)

  abbrev next : List ℤ
  next = sets state 0 (state_cells (opened_real_time o))

  abbrev nothing : List ℤ
  nothing = []

  abbrev own : List ℤ
  own = replicate state_room (pos 0)

  room : hour_room o.resources ≤ length own
  room = omega (arith, length-replicate state_room (pos 0))

  pub answered : (z : ℤ) → z ≡ into_answer own o → z ≡ pos (opening_refusal o)
  answered z e = e ∙ into_answer_lem o own room

  pub few_cells : length state < state_room → Answered (negsuc 0) state
  unfolding open_answer state_opened
  few_cells h = let k = answers.too_short (holds state_room state) (opening_refusal o) next state nothing nothing (answers.short state_room state h) in (k.0, k.1.0)

  module _ (h : state_room ≤ length state) where
    pub refused : (n : ℕ) → 0 < n → opening_refusal o ≡ n → Answered (pos n) state
    unfolding open_answer state_opened
    refused n l e = let k = answers.refused (holds state_room state) (opening_refusal o) next state nothing nothing (answers.long state_room state h) n l e in (k.0, k.1.0)

    -- an hour opened in cells of its own, which are never too few, and these put into the state
    pub written : opening_refusal o ≡ 0 → (opened out : List ℤ) → opened ≡ opened_into o (replicate state_room (pos 0)) → out ≡ sets state 0 opened → Answered (pos 0) out
    unfolding open_answer state_opened
    written z opened out e f =
        let whole = e ∙ opened_into_lem o own room z ∙ opened_is o z state_room (omega (arith, (few o z).2)) refl in
        let w = answers.written (holds state_room state) (opening_refusal o) next state nothing nothing (answers.long state_room state h) z out (f ∙ ap (λ (l : List ℤ). sets state 0 l) whole) nothing refl in
        (w.0, w.1.0)
