-- Laws of the answers of a call on a state that puts verdicts, one for each way out. Assumes nothing.
use Prim.Native.Nat.{ℕ, ◌≤◌, ◌<◌}
use mathlib.Core.Path.{◌≡◌}
use mathlib.Core.Bool.{Bool, true, false, ◌&&◌}
use mathlib.Core.List.{List}
use lib.IntN.{ℤ, pos, negsuc}
use lib.ListN.{length}
use Rattle.rules_state.specs.Calls.{holds}
use Rattle.rules_state.specs.Layout.{state_room, verdict_room}
use Rattle.cells.proofs.AnswerLaws as answers

-- the call has this number, and an accepted one leaves the two slices so
module _ (state verdicts next told : List ℤ) (number : ℕ) where
  abbrev room : Bool
  room = holds state_room state && holds verdict_room verdicts

  abbrev pub Answered : ℤ → List ℤ → List ℤ → Type 0
  Answered z s t = answers.Answers room number next state told verdicts z s t

  pub few_cells : length state < state_room → Answered (negsuc 0) state verdicts
  few_cells h = answers.too_short room number next state told verdicts (answers.first_fails (holds state_room state) (holds verdict_room verdicts) (answers.short state_room state h))

  module _ (h : state_room ≤ length state) where
    by_verdicts : (b : Bool) → holds verdict_room verdicts ≡ b → room ≡ b
    by_verdicts b e = answers.first_holds (holds state_room state) (holds verdict_room verdicts) b (answers.long state_room state h) e

    pub few_verdicts : length verdicts < verdict_room → Answered (negsuc 0) state verdicts
    few_verdicts k = answers.too_short room number next state told verdicts (by_verdicts false (answers.short verdict_room verdicts k))

    module _ (k : verdict_room ≤ length verdicts) where
      enough : room ≡ true
      enough = by_verdicts true (answers.long verdict_room verdicts k)

      pub refused : (n : ℕ) → 0 < n → number ≡ n → Answered (pos n) state verdicts
      refused n l e = answers.refused room number next state told verdicts enough n l e

      pub written : number ≡ 0 → (s : List ℤ) → s ≡ next → (t : List ℤ) → t ≡ told → Answered (pos 0) s t
      written z s e t f = answers.written room number next state told verdicts enough z s e t f
