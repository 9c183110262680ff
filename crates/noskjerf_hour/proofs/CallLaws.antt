-- What a call leaves in the two slices, a pass or an interval. Assumes nothing.
use Prim.Native.Nat.{ℕ}
use mathlib.Core.Path.{◌≡◌, sym, ap, ◌∙◌}
use mathlib.Core.Bool.{Bool, true, false}
use mathlib.Core.List.{List}
use lib.IntN.{ℤ}
use lib.ListN.{replicate}
use lib.Seq.{sets}
use Rattle.rules_interval.specs.declared.Interval.{Interval}
use Rattle.rules_interval.proofs.IntervalLaws.{in_limits}
use Rattle.rules_path.specs.Judgements.{verdicts_of, verdicts_unless}
use Rattle.rules_path.specs.Verdicts.{not_binding}
use Rattle.rules_hour.specs.Hours.{call_verdicts}
use Rattle.rules_pass.specs.Passes.{turn_verdicts}
use Rattle.rules_state.specs.States.{market_in}
use Rattle.rules_state.specs.Calls.{interval_answer, state_after_interval, verdicts_after_interval, pass_answer, state_after_pass, verdicts_after_pass}
use Rattle.rules_state.specs.Verdicts.{verdicts_cells, judged_cells}
use Rattle.rules_state.specs.Takes.{if_accepted}
use Rattle.rules_state.proofs.TakeLaws.{written_zero}
use Rattle.taking.proofs.FoundLaws.{judged_all}
use Rattle.verdict_cells.proofs.CallLaws.{Answered}
use Rattle.hour_cells.specs.Calls.{refusal_by, written_by}
use Rattle.hour_cells.proofs.CallLaws.{sound}
use Rattle.noskjerf_hour.specs.Calls.{answer_by, state_by, verdicts_by}

module _ (pass : Bool) (state verdicts : List ℤ) (v : Interval) where
  abbrev pub number : ℕ
  number = refusal_by pass state v

  abbrev pub told : List ℤ
  told = sets verdicts 0 (verdicts_cells (verdicts_unless number (verdicts_of (market_in state) v)))

  pub judged : number ≡ 0 → (blank found t : List ℤ) → blank ≡ verdicts_cells (replicate 32 not_binding) → found ≡ if_accepted number (sets blank 0 (judged_cells (market_in state) v)) blank
      → t ≡ sets verdicts 0 found → t ≡ told
  judged accepted blank found t b e f =
      f ∙ ap (λ (l : List ℤ). sets verdicts 0 l) (e ∙ written_zero number (sets blank 0 (judged_cells (market_in state) v)) blank accepted
      ∙ ap (λ (l : List ℤ). sets l 0 (judged_cells (market_in state) v)) b ∙ judged_all (market_in state) v (in_limits (market_in state).resources v (sound pass state v accepted)).constraints
      ∙ sym (ap (λ (n : ℕ). verdicts_cells (verdicts_unless n (verdicts_of (market_in state) v))) accepted))

-- an answer and two slices that are as they should be
pub answered : (pass : Bool) (state verdicts : List ℤ) (v : Interval) (z : ℤ) (s t : List ℤ) → Answered state verdicts (written_by pass state v) (told pass state verdicts v) (number pass state verdicts v) z s t
    → (z ≡ answer_by pass state verdicts v) × ((s ≡ state_by pass state verdicts v) × (t ≡ verdicts_by pass state verdicts v))
unfolding refusal_by written_by interval_answer state_after_interval verdicts_after_interval pass_answer state_after_pass verdicts_after_pass call_verdicts turn_verdicts
answered true state verdicts v z s t h = h
answered false state verdicts v z s t h = h
