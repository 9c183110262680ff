-- "Every content has a meaning", and every hour that cells can hold is the meaning of its own: put into a state that is long enough, it is read back from it.
use mathlib.Core.List.{List, ◌++◌, flat_map}
use mathlib.Core.Path.{◌≡◌, refl, ap, ◌∙◌}
use Prim.Native.Nat.{ℕ, ◌+◌, ◌-◌, ◌*◌, ◌≤◌}
use native.Mathlib.Omega.{arith}
use lib.IntN.{ℤ}
use lib.ListN.{length, length-append}
use lib.Seq.{sets}
use Rattle.rules_pass.specs.Passes.{RealTimeHour}
use Rattle.rules_state.specs.Layout.{counted_room, quarter_from, market_from, rows_from, room_of_row, state_room}
use Rattle.rules_state.specs.States.{standing_in, quarter_in, market_in, rows_in, hour_in, standing_cells, quarter_cells, market_cells, row_cells, state_cells}
use Rattle.rules_state.specs.Fits.{Fits}
use Rattle.rules_state.proofs.StandLaws.{Stands, stands_stored, stands_left, stands_right, flat_length}
use Rattle.rules_state.proofs.BackAgain.{standing_room, quarter_room, market_room, rows_each, standing_back, quarter_back, market_back, rows_back}

-- two lists, one after the other
pub two : (a b : List ℤ) (n m k : ℕ) → length a ≡ n → length b ≡ m → n + m ≡ k → length (a ++ b) ≡ k
two a b n m k e f g = omega (arith, length-append a b)

module _ (h : RealTimeHour) (f : Fits h) where
  abbrev standing : List ℤ
  standing = standing_cells h.hour.standing

  abbrev quarter : List ℤ
  quarter = quarter_cells h.quarter

  abbrev market : List ℤ
  market = market_cells h.hour.market

  abbrev rows : List ℤ
  rows = flat_map row_cells h.hour.rows

  rows_room : length rows ≡ room_of_row * 64
  rows_room = flat_length row_cells room_of_row h.hour.rows (rows_each h.hour.rows f.rows) ∙ ap (λ (n : ℕ). room_of_row * n) f.room

  counted_room_lem : length (standing ++ quarter) ≡ market_from
  counted_room_lem = two standing quarter counted_room counted_room market_from (standing_room h.hour.standing f.standing) (quarter_room h.quarter f.quarter) refl

  owned_room : length (standing ++ quarter ++ market) ≡ rows_from
  owned_room = two (standing ++ quarter) market market_from (rows_from - market_from) rows_from counted_room_lem (market_room h.hour.market f.market) refl

  -- an hour takes 3,411 cells
  pub state_room_lem : length (state_cells h) ≡ state_room
  unfolding state_cells
  state_room_lem = two (standing ++ quarter ++ market) rows rows_from (room_of_row * 64) state_room owned_room rows_room refl

  pub hour_back : (l : List ℤ) → Stands l 0 (state_cells h) → hour_in l ≡ h
  unfolding state_cells
  hour_back l t =
      let three = stands_left l 0 (standing ++ quarter ++ market) rows t in
      let counted = stands_left l 0 (standing ++ quarter) market three in
      let a : standing_in l ≡ h.hour.standing = standing_back l h.hour.standing f.standing (stands_left l 0 standing quarter counted) in
      let b : quarter_in l ≡ h.quarter =
      quarter_back l h.quarter f.quarter (stands_right l 0 standing quarter quarter_from (omega (arith, standing_room h.hour.standing f.standing)) counted) in
      let c : market_in l ≡ h.hour.market =
      market_back l h.hour.market f.market (stands_right l 0 (standing ++ quarter) market market_from (omega (arith, counted_room_lem)) three) in
      let d : rows_in l ≡ h.hour.rows =
      rows_back l h.hour.rows f.room f.rows (stands_right l 0 (standing ++ quarter ++ market) rows rows_from (omega (arith, owned_room)) t) in
      rw (a, b, c, d)

  -- whatever the state held before
  pub stored_back : (s : List ℤ) → state_room ≤ length s → hour_in (sets s 0 (state_cells h)) ≡ h
  stored_back s long = hour_back (sets s 0 (state_cells h)) (stands_stored s 0 (state_cells h) (omega (arith, state_room_lem)))
