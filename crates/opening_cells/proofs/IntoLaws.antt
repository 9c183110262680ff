-- Laws of an hour opened into its cells: what is refused writes nothing. Assumes nothing.
use Rattle.std.specs.Prelude.{Err, Ok, Result, ⊤}
use Rattle.std.specs.Result.{IsErrAnd, MatchResult}
use mathlib.Core.Bool.{Bool, true, false}
use mathlib.Core.List.{List, ◌++◌, flat_map}
use mathlib.Core.Path.{◌≡◌, refl, sym, ap, ap₂, ◌∙◌}
use Prim.Native.Nat.{ℕ, zero, suc, ◌+◌, ◌*◌, ◌≤◌, ◌<◌}
use native.Mathlib.Omega.{arith}
use lib.IntN.{ℤ, pos, negsuc, pos-ne-negsuc}
use lib.ListN.{length, take, replicate, length-append, length-replicate}
use lib.Seq.{sets}
use Rattle.rules_number.specs.Order.{nat_of}
use Rattle.rules_number.specs.Over.{listed}
use Rattle.rules_number.proofs.OverLaws.{listed_length, listed_same}
use Rattle.rules_curve.specs.Refusals.{each_to, outcome_number}
use Rattle.rules_curve.specs.declared.Refusal.{Refusal}
use Rattle.rules_opening.specs.Openings.{resource_at, counts_within, counts_good, sellers_good, owners_good, opening_refusal, market_of}
use Rattle.rules_opening.specs.Resources.{resource_refusal, row_of}
use Rattle.rules_opening.specs.declared.Opening.{Opening}
use Rattle.rules_opening.specs.declared.Row.{Row}
use Rattle.rules_hour.specs.Hours.{fresh_standing}
use Rattle.rules_pass.specs.Passes.{fresh_quarter}
use Rattle.rules_text.proofs.ListLaws.{sets_append}
use Rattle.rules_library.specs.Slices.{answer_of, if_written}
use Rattle.rules_state.specs.Layout.{most_resources, most_portfolios, market_from, rows_from, room_of_row, hour_room}
use Rattle.rules_state.specs.Openings.{block_of, resource_in, opening_in}
use Rattle.rules_state.specs.States.{standing_cells, quarter_cells, market_cells, row_cells}
use Rattle.rules_state.specs.Calls.{called_number, holds}
use Rattle.rules_state.specs.declared.CallError.{CallError}
use Rattle.rules_state.specs.declared.CallError.TheVariants.{Refused}
use Rattle.rules_state.specs.Takes.{if_accepted, opened_cells}
use Rattle.rules_state.specs.OpenedInto.{into_answer, opened_into}
use Rattle.rules_state.proofs.OpenedLaws.{short_into, into_answer_lem}
use Rattle.opening_cells.proofs.CurveLaws.{market_length}
use Rattle.opening.proofs.OpeningLaws.{in_room, refused_counts, refused_sellers, refused_owners, each_left}
use Rattle.opening_cells.proofs.OpenLaws.{fresh_zeros, resource_is_lem, resources_room, portfolios_room, any_month, skipped}
use Rattle.opening_cells.proofs.RunLaws.{sets_first, front_back}
use Rattle.opening_cells.specs.Hours.{refusal_of, rows_of, fresh_of, hour_of}

-- ---- the same refusals
each_same : (f g : ℕ → ℕ) (n : ℕ) → ((i : ℕ) → i < n → f i ≡ g i) → each_to f n ≡ each_to g n
unfolding each_to
each_same f g zero h = refl
each_same f g (suc n) h = rw (each_same f g n (λ i l. h i (omega arith)), h n (omega arith))

-- ---- an opening that is refused by 9 or 10
module _ (o : Opening) (s : List ℤ) where
  abbrev None : ℕ → Type 0
  None n = (n ≡ opening_refusal o) × (s ≡ if_accepted (opening_refusal o) (sets s 0 (opened_cells o)) s)

  none : (n : ℕ) → 0 < n → opening_refusal o ≡ n → None n
  none n h e = (sym e, sym (skipped (opening_refusal o) (sets s 0 (opened_cells o)) s (rw e h)))

  pub none_by_counts : counts_good o ≡ false → None 9
  none_by_counts a = none 9 (omega arith) (refused_counts o a)

  pub none_by_sellers : counts_good o ≡ true → sellers_good o ≡ false → None 10
  none_by_sellers a b = none 10 (omega arith) (refused_sellers o a b)

  pub none_by_owners : counts_good o ≡ true → sellers_good o ≡ true → owners_good o ≡ false → None 10
  none_by_owners a b c = none 10 (omega arith) (refused_owners o a b c)

-- ---- the cells of an hour, put in one order or another
module _ (portfolios : ℕ) (sellers : List ℤ) (resources : ℕ) (blocks : List ℤ) (few : portfolios ≤ most_portfolios) (many : resources ≤ most_resources) where
  abbrev fresh : List ℤ
  fresh = fresh_of portfolios sellers resources blocks

  fresh_length : length fresh ≡ rows_from
  fresh_length =
      length-append (standing_cells fresh_standing ++ quarter_cells fresh_quarter) (market_cells (market_of (opening_in (pos 0) portfolios sellers resources blocks)))
      ∙ omega (
        arith,
        ap length fresh_zeros ∙ listed_length (λ (k : ℕ). pos 0) market_from,
        market_length (market_of (opening_in (pos 0) portfolios sellers resources blocks))
            (resources_room (pos 0) portfolios sellers resources blocks many) (portfolios_room (pos 0) portfolios sellers resources blocks few),
      )

  -- the rows first
  pub rows_first : (s mid out : List ℤ) → mid ≡ sets s rows_from (rows_of blocks resources) → out ≡ sets mid 0 fresh → out ≡ hour_of portfolios sellers resources blocks s
  rows_first s mid out e f =
      f ∙ ap (λ (l : List ℤ). sets l 0 fresh) e ∙ sets_first s rows_from (rows_of blocks resources) 0 fresh (omega (arith, fresh_length))

  -- rows of their own, and their cells put last
  pub rows_last : (n : ℕ) → room_of_row * resources ≤ n → (s rows mid out : List ℤ) → length (rows_of blocks resources) ≡ room_of_row * resources → rows ≡ sets (replicate n (pos 0)) 0 (rows_of blocks resources)
      → mid ≡ sets s 0 fresh → out ≡ sets mid rows_from (take (room_of_row * resources) rows) → out ≡ hour_of portfolios sellers resources blocks s
  rows_last n h s rows mid out long e f g =
      g ∙ ap (λ (l : List ℤ). sets l rows_from (take (room_of_row * resources) rows)) f
      ∙ ap (λ (l : List ℤ). sets (sets s 0 fresh) rows_from l) (ap (take (room_of_row * resources)) e ∙ front_back (replicate n (pos 0)) (rows_of blocks resources) (room_of_row * resources) long (omega (arith, length-replicate n (pos 0))))

  pub whole_hour : (s : List ℤ) → hour_of portfolios sellers resources blocks s ≡ sets s 0 (fresh ++ rows_of blocks resources)
  whole_hour s =
      ap (λ (i : ℕ). sets (sets s 0 fresh) (0 + i) (rows_of blocks resources)) (sym fresh_length) ∙ sym (sets_append s 0 fresh (rows_of blocks resources))

-- ---- the opening that these numbers stand for
module _ (month : ℤ) (portfolios : ℕ) (sellers : List ℤ) (resources : ℕ) (blocks : List ℤ) where
  abbrev pub O : Opening
  O = opening_in month portfolios sellers resources blocks

  pub counts_are : counts_within month portfolios resources ≡ counts_good O
  unfolding opening_in
  counts_are = refl

  pub room : counts_good O ≡ true → (portfolios ≤ most_portfolios) × (resources ≤ most_resources)
  unfolding opening_in
  room e = in_room O e

  -- the refusal of resource r, and its row, by its block
  abbrev refusal : ℕ → ℕ
  refusal r = refusal_of (nat_of month) blocks r

  abbrev row : ℕ → Row
  row r = row_of (resource_in (block_of blocks r))

  same_refusal : resources ≤ most_resources → (r : ℕ) → r < resources → refusal r ≡ resource_refusal (nat_of month) (resource_at O r)
  unfolding opening_in
  same_refusal many r h = ap (resource_refusal (nat_of month)) (sym (resource_is_lem month portfolios sellers resources blocks r (omega arith)))

  module _ (a : counts_good O ≡ true) (b : sellers_good O ≡ true) (c : owners_good O ≡ true) where
    many : resources ≤ most_resources
    many = (room a).1

    pub number_by : opening_refusal O ≡ each_to refusal resources
    unfolding opening_in
    number_by = each_left O a b c ∙ sym (each_same refusal (λ r. resource_refusal (nat_of month) (resource_at O r)) resources (same_refusal many))

    same_rows : listed (λ r. row_of (resource_at O r)) resources ≡ listed row resources
    same_rows = listed_same (λ r. row_of (resource_at O r)) row resources (λ r h. ap row_of (resource_is_lem month portfolios sellers resources blocks r (omega (arith, many))))

    cells_are : fresh_of portfolios sellers resources blocks ++ rows_of blocks resources ≡ opened_cells O
    unfolding opened_cells opening_in
    cells_are =
        ap (λ m. standing_cells fresh_standing ++ quarter_cells fresh_quarter ++ market_cells m ++ rows_of blocks resources) (any_month month portfolios sellers resources blocks)
        ∙ ap (λ (l : List Row). standing_cells fresh_standing ++ quarter_cells fresh_quarter ++ market_cells (market_of O) ++ flat_map row_cells l) (sym same_rows)

    -- what is answered and left by the resources' refusals is so by the opening's
    pub made : (n : ℕ) (s out : List ℤ) → n ≡ each_to refusal resources → out ≡ if_accepted (each_to refusal resources) (hour_of portfolios sellers resources blocks s) s
        → (n ≡ opening_refusal O) × (out ≡ if_accepted (opening_refusal O) (sets s 0 (opened_cells O)) s)
    made n s out e f = (
      e ∙ sym number_by,
      f ∙ ap₂ (λ (k : ℕ) (l : List ℤ). if_accepted k l s) (sym number_by) (whole_hour portfolios sellers resources blocks (room a).0 many s ∙ ap (λ (l : List ℤ). sets s 0 l) cells_are),
    )

-- ---- a refusal is told with the errors of a call
pub told : (P : Refusal → CallError → Type 0) → ((e : Refusal) (d : CallError) → P e d → d ≡ Refused e) → (r : Result ⊤ Refusal) (s : Result ⊤ CallError)
    → MatchResult r (λ x. s ≡ Ok x) (λ e. IsErrAnd s (P e)) → called_number s ≡ pos (outcome_number r)
told P each (Ok x) s h = ap called_number h
told P each (Err e) (Ok x) h = absurd h
told P each (Err e) (Err d) h = ap (λ (q : CallError). called_number {T = ⊤} (Err q)) (each e d h)

-- ---- by the room of the cells
module _ (month : ℤ) (portfolios : ℕ) (sellers : List ℤ) (resources : ℕ) (blocks : List ℤ) (l : List ℤ) where
  abbrev asked : Opening
  asked = opening_in month portfolios sellers resources blocks

  abbrev Answered : ℤ → List ℤ → Type 0
  Answered z out = (z ≡ into_answer l asked) × (out ≡ opened_into asked l)

  pub too_few : length l < hour_room resources → Answered (negsuc 0) l
  unfolding opening_in
  too_few h = let n = short_into asked l h in (sym n.0, sym n.1)

  pub enough : hour_room resources ≤ length l → (n : ℕ) (out : List ℤ) → n ≡ opening_refusal asked → out ≡ if_accepted (opening_refusal asked) (sets l 0 (opened_cells asked)) l → Answered (pos n) out
  unfolding opening_in opened_into
  enough h n out e f = (ap pos e ∙ sym (into_answer_lem asked l h), f ∙ written (opening_refusal asked) ∙ ap (λ (z : ℤ). if_written z (sets l 0 (opened_cells asked)) l) (sym (into_answer_lem asked l h)))
    where
      written : (k : ℕ) → if_accepted k (sets l 0 (opened_cells asked)) l ≡ if_written (pos k) (sets l 0 (opened_cells asked)) l
      written zero = refl
      written (suc k) = refl

-- ---- what an answer says of the room and of the refusal
module _ (o : Opening) (l : List ℤ) where
  done_is : (b : Bool) (n k : ℕ) → pos n ≡ answer_of b k → (b ≡ true) × (n ≡ k)
  done_is true n k e = (refl, ap nat_of e)
  done_is false n k e = absurd (pos-ne-negsuc n 0 e)

  short_is : (b : Bool) (k : ℕ) → negsuc 0 ≡ answer_of b k → b ≡ false
  short_is true k e = absurd (pos-ne-negsuc k 0 (sym e))
  short_is false k e = refl

  pub done_by : (n : ℕ) → pos n ≡ into_answer l o → (holds (hour_room o.resources) l ≡ true) × (n ≡ opening_refusal o)
  unfolding into_answer
  done_by n e = done_is (holds (hour_room o.resources) l) n (opening_refusal o) e

  pub short_by : negsuc 0 ≡ into_answer l o → holds (hour_room o.resources) l ≡ false
  unfolding into_answer
  short_by e = short_is (holds (hour_room o.resources) l) (opening_refusal o) e
