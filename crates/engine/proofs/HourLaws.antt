-- Laws of the hour that cells stand for: of zeros, an opened hour, and the hour after a call. Assumes nothing.
use Rattle.std.specs.Prelude.{Result, Ok, Err, ⊤}
use Rattle.std.specs.Result.{MatchResult, IsErrAnd}
use mathlib.Core.Bool.{true, false}
use mathlib.Core.List.{List, [], flat_map}
use mathlib.Core.Logic.{◌↔◌}
use mathlib.Core.Path.{◌≡◌, refl, sym, ap, ◌∙◌}
use Prim.Native.Nat.{ℕ, zero, suc, ◌≤◌, ◌<◌}
use native.Mathlib.Omega.{arith}
use lib.IntN.{ℤ, pos}
use lib.ListN.{length, replicate, length-replicate}
use lib.Seq.{sets}
use Rattle.rules_number.specs.Order.{nat_of}
use Rattle.rules_number.specs.Over.{listed, padded}
use Rattle.rules_curve.specs.Curves.{blank_curve}
use Rattle.rules_curve.specs.Demands.{First}
use Rattle.rules_curve.specs.Refusals.{number_of, outcome_number}
use Rattle.rules_curve.specs.declared.Refusal.{Refusal}
use Rattle.rules_interval.specs.declared.Interval.{Interval}
use Rattle.rules_opening.specs.Conditions.{opening_demands, EachFull}
use Rattle.rules_opening.specs.Openings.{no_resource, opening_refusal}
use Rattle.rules_opening.specs.declared.Opening.{Opening}
use Rattle.rules_opening.proofs.Exactly.{opening_exactly}
use Rattle.rules_hour.specs.Hours.{fresh_standing, blank_hour, call_refusal}
use Rattle.rules_hour.specs.Opened.{fresh_hour, opened_hour, hour_unless}
use Rattle.rules_hour.proofs.AcceptedOpening.{few}
use Rattle.rules_pass.specs.Passes.{RealTimeHour, fresh_quarter, turn_refusal, blank_real_time, opened_real_time, interval_after, pass_after}
use Rattle.rules_library.specs.Slices.{cell_at, if_written}
use Rattle.rules_state.specs.declared.CallError.{CallError}
use Rattle.rules_state.specs.Calls.{called_number, state_after_interval, interval_written, state_after_pass, pass_written}
use Rattle.rules_state.specs.Fits.{Each}
use Rattle.rules_state.specs.Layout.{most_resources, most_portfolios, state_room, hour_room, verdict_room}
use Rattle.rules_state.specs.Openings.{opening_in}
use Rattle.rules_state.specs.OpenedInto.{into_answer, opened_into}
use Rattle.rules_state.specs.States.{floors_in, standing_in, quarter_in, wholes_in, market_in, curve_in_cells, row_in, rows_in, hour_in, state_cells}
use Rattle.rules_state.specs.Takes.{if_accepted}
use Rattle.rules_state.proofs.OpenedLaws.{into_answer_lem, opened_into_lem, opened_is, opened_back}
use Rattle.rules_state.proofs.SameCells.{standing_same, quarter_same, market_same, rows_same}
use Rattle.rules_state.proofs.StandLaws.{each_at}
use Rattle.rules_state.proofs.StateCalls.{interval_answer_lem, pass_answer_lem, state_interval, state_pass}
use Rattle.opening_puts.specs.Blocks.{blocks_room, block_numbers, Rooms}
use Rattle.opening_puts.proofs.BackLaws.{held_opening, opening_back}
use Rattle.opening_puts.proofs.HeldLaws.{opening_number, opening_same}
use Rattle.hour_cells.specs.Calls.{refusal_by, written_by}

-- ---- the number of an outcome, by that of a call
pub by_call : (P : CallError → Refusal → Type 0) → ((e : CallError) (d : Refusal) → P e d → (n : ℕ) → called_number {T = ⊤} (Err e) ≡ pos n → number_of d ≡ n) → (r : Result ⊤ CallError)
    (s : Result ⊤ Refusal) → MatchResult r (λ x. s ≡ Ok x) (λ e. IsErrAnd s (P e)) → (n : ℕ) → called_number r ≡ pos n → outcome_number s ≡ n
by_call P each (Ok x) s h n e = ap outcome_number h ∙ ap nat_of e
by_call P each (Err e) (Ok x) h n q = absurd h
by_call P each (Err e) (Err d) h n q = each e d h n q

-- ---- cells of zeros
zeros : (n k : ℕ) → cell_at (replicate n (pos 0)) k ≡ cell_at [] k
zeros zero k = refl
zeros (suc n) zero = refl
zeros (suc n) (suc k) = zeros n k

none : hour_in [] ≡ blank_real_time
unfolding standing_in quarter_in market_in rows_in row_in curve_in_cells floors_in wholes_in listed blank_real_time blank_hour fresh_standing fresh_quarter blank_curve padded
none = refl

pub blank : (n : ℕ) → hour_in (replicate n (pos 0)) ≡ blank_real_time
blank n =
    let l = replicate n (pos 0) in
    rw (standing_same l [] (λ i h. zeros n i), quarter_same l [] (λ i h m. zeros n i), market_same l [] (λ i h. zeros n i), rows_same l [] (λ i h. zeros n i)) none

-- ---- an opened hour
module _ (o : Opening) where
  pub refused : 0 < opening_refusal o → blank_real_time ≡ opened_real_time o
  unfolding opened_real_time opened_hour blank_real_time
  refused h = go (opening_refusal o) h
    where
      go : (n : ℕ) → 0 < n → ◌≡◌ {A = RealTimeHour} (record { hour = blank_hour; quarter = fresh_quarter }) (record { hour = hour_unless n (fresh_hour o); quarter = fresh_quarter })
      go zero l = absurd (omega arith)
      go (suc n) l = refl

  pub refused_cells : 0 < opening_refusal o → (l : List ℤ) → l ≡ if_accepted (opening_refusal o) (state_cells (opened_real_time o)) l
  refused_cells h l = go (opening_refusal o) h
    where
      go : (n : ℕ) → 0 < n → l ≡ if_accepted n (state_cells (opened_real_time o)) l
      go zero k = absurd (omega arith)
      go (suc n) k = refl

  -- its arrays are as long as their types say, so that it is refused with n exactly when n is the number of the first demand that it does not meet
  module _ (many : length o.list ≡ most_resources) (rooms : Each Rooms o.list) where
    full_by_value : EachFull o
    full_by_value r h low = let x = each_at Rooms o.list r no_resource rooms (omega arith) in record { bid = x.bid; pack = x.pack }

    pub opening_exactly_by_value : (n : ℕ) → (opening_refusal o ≡ n) ↔ First n (opening_demands o)
    opening_exactly_by_value = opening_exactly o full_by_value

  -- the opening that its blocks are read as
  module _ (sellers : length o.sellers ≡ most_portfolios) (many : length o.list ≡ most_resources) (rooms : Each Rooms o.list) (blocks : List ℤ)
      (put : blocks ≡ sets (replicate blocks_room (pos 0)) 0 (flat_map block_numbers o.list)) where
    abbrev pub read : Opening
    read = opening_in o.month o.portfolios o.sellers o.resources blocks

    back : read ≡ held_opening o
    back = opening_back o sellers many rooms blocks put

    pub read_number : opening_refusal read ≡ opening_refusal o
    read_number = ap opening_refusal back ∙ opening_number o

    pub room : hour_room read.resources ≤ length (replicate state_room (pos 0))
    room = omega (arith, length-replicate state_room (pos 0))

    -- the number that opening in a whole hour's cells answers
    pub answered : (z : ℤ) → z ≡ into_answer (replicate state_room (pos 0)) read → z ≡ pos (opening_refusal o)
    answered z e = e ∙ into_answer_lem read (replicate state_room (pos 0)) room ∙ ap pos read_number

    pub opened : opening_refusal o ≡ 0 → (cells : List ℤ) → cells ≡ opened_into read (replicate state_room (pos 0)) → hour_in cells ≡ opened_real_time o
    opened z cells e =
        let accepted = read_number ∙ z in
        ap hour_in (e ∙ opened_into_lem read (replicate state_room (pos 0)) room accepted) ∙ opened_back read accepted state_room (omega (arith, (few read accepted).2)) ∙ ap opened_real_time back ∙ opening_same o

    pub cells_opened : opening_refusal o ≡ 0 → (cells : List ℤ) → cells ≡ opened_into read (replicate state_room (pos 0)) → cells ≡ state_cells (opened_real_time o)
    cells_opened z cells e =
        let accepted = read_number ∙ z in
        e ∙ opened_into_lem read (replicate state_room (pos 0)) room accepted ∙ opened_is read accepted state_room (omega (arith, (few read accepted).2)) refl
        ∙ ap (λ (x : Opening). state_cells (opened_real_time x)) back ∙ ap state_cells (opening_same o)

-- ---- a call
written_so : {A : Type 0} (n : ℕ) (a b : List A) → if_accepted n a b ≡ if_written (pos n) a b
written_so zero a b = refl
written_so (suc n) a b = refl

-- the hour after it
module _ (l : List ℤ) (v : Interval) (long : state_room ≤ length l) where
  abbrev lent : List ℤ
  lent = replicate verdict_room (pos 0)

  enough : verdict_room ≤ length lent
  enough = omega (arith, length-replicate verdict_room (pos 0))

  pub after_interval : hour_in (if_accepted (refusal_by false l v) (written_by false l v) l) ≡ interval_after (hour_in l) v
  unfolding refusal_by written_by state_after_interval
  after_interval =
      ap hour_in (written_so (call_refusal (market_in l) (standing_in l) v) (interval_written l v) l ∙ ap (λ (z : ℤ). if_written z (interval_written l v) l) (sym (interval_answer_lem l lent v long enough)))
      ∙ state_interval l lent v long enough

  pub after_pass : hour_in (if_accepted (refusal_by true l v) (written_by true l v) l) ≡ pass_after (hour_in l) v
  unfolding refusal_by written_by state_after_pass
  after_pass =
      ap hour_in (written_so (turn_refusal (market_in l) (standing_in l).accepted (quarter_in l) v) (pass_written l v) l ∙ ap (λ (z : ℤ). if_written z (pass_written l v) l) (sym (pass_answer_lem l lent v long enough)))
      ∙ state_pass l lent v long enough
