-- What each call makes of the hour that a state stands for: an accepted one what the call on the hour makes of it, a refused one nothing, to the cell. Assumes nothing.
use mathlib.Core.Bool.{Bool, true, false}
use mathlib.Core.List.{List}
use mathlib.Core.Path.{◌≡◌, refl}
use Prim.Native.Nat.{ℕ, zero, suc, ◌≤◌}
use native.Mathlib.Omega.{arith}
use lib.IntN.{ℤ, pos, negsuc}
use lib.ListN.{length, length-replicate}
use lib.Seq.{sets}
use Rattle.rules_text.proofs.ListLaws.{sets_before}
use Rattle.rules_hour.specs.Hours.{uncut}
use Rattle.rules_pass.specs.Passes.{fresh_quarter}
use Rattle.rules_pass.specs.declared.Quarter.{Quarter}
use Rattle.rules_library.specs.Slices.{cell_at, answer_of, if_written}
use Rattle.rules_state.specs.Layout.{counted_room, quarter_from, market_from, state_room}
use Rattle.rules_state.specs.States.{standing_in, market_in, rows_in, hour_in, quarter_cells}
use Rattle.rules_state.specs.Fits.{QuarterFits}
use Rattle.rules_state.proofs.StandLaws.{stands_stored, stored_past}
use Rattle.rules_state.proofs.BackAgain.{quarter_room, quarter_back}
use Rattle.rules_state.proofs.SameCells.{standing_same, market_same, rows_same}

-- ---- an answer
-- where there is room it is the refusal's number
pub answered : (room : Bool) (n : ℕ) → room ≡ true → answer_of room n ≡ pos n
answered room n e = rw e

-- it is 0 only where there is room and no refusal
pub answer_zero : (room : Bool) (n : ℕ) → answer_of room n ≡ pos 0 → (room ≡ true) × (n ≡ 0)
answer_zero true n e = (refl, cc)
answer_zero false n e = absurd (let z : ◌≡◌ {A = ℕ} 0 1 = cc in omega arith)

-- "a slice is written only where the answer is 0"
pub unwritten : {A : Type 0} (answer : ℤ) (written before : List A) → (answer ≡ pos 0 → ⊥) → if_written answer written before ≡ before
unwritten (pos zero) written before h = absurd (h refl)
unwritten (pos (suc n)) written before h = refl
unwritten (negsuc n) written before h = refl

-- what holds of the slice as it was and as it is written, holds afterwards
pub either_way : {A : Type 0} (P : List A → Type 0) (answer : ℤ) (written before : List A) → P before → (answer ≡ pos 0 → P written) → P (if_written answer written before)
either_way P (pos zero) written before h w = w refl
either_way P (pos (suc n)) written before h w = h
either_way P (negsuc n) written before h w = h

-- ---- what stays within the cells
pub fresh_fits : QuarterFits fresh_quarter
unfolding fresh_quarter
fresh_fits = record { passes = omega arith; room = length-replicate 64 uncut }

-- ---- the parts that a call writes, and those that it leaves
module _ (s : List ℤ) (long : state_room ≤ length s) where
  -- the quarter hour alone
  pub quarter_stored : (b : Quarter) → QuarterFits b
      → hour_in (sets s quarter_from (quarter_cells b)) ≡ record { hour = record { market = market_in s; rows = rows_in s; standing = standing_in s }; quarter = b }
  quarter_stored b g =
      let cells = quarter_cells b in
      let n : length cells ≡ counted_room = quarter_room b g in
      let past : (i : ℕ) → market_from ≤ i → cell_at (sets s quarter_from cells) i ≡ cell_at s i = λ i h. stored_past (pos 0) s quarter_from cells i (omega arith) in
      rw (
        standing_same (sets s quarter_from cells) s (λ i h. sets_before (pos 0) s quarter_from cells i h),
        quarter_back (sets s quarter_from cells) b g (stands_stored s quarter_from cells (omega arith)),
        market_same (sets s quarter_from cells) s past,
        rows_same (sets s quarter_from cells) s past,
      )
