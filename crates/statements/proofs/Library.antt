-- The functions of the static library for bids, default curves, books of gas prices, classroom bids and texts, in full: what they read, what they answer, and what is in each lent slice afterwards. Assumes nothing.
use mathlib.Core.List.{List, ◌∷◌, map}
use mathlib.Core.Logic.{◌↔◌, ◌⊎◌, inl, inr, ⊎_elim}
use mathlib.Core.Path.{◌≡◌, refl, sym, ap, ◌∙◌}
use Prim.Native.Nat.{ℕ, zero, suc, ◌+◌, ◌*◌, ◌≤◌, ◌<◌}
use native.Mathlib.Omega.{arith}
use borrow.Author.Tests.{le-leb, lt-leb}
use lib.IntN.{ℤ, pos, negsuc}
use lib.ListN.{length, get_or, length-map, take}
use lib.Seq.{sets, length-sets}
use Rattle.rules_number.specs.Order.{nat_of}
use Rattle.rules_number.proofs.OverLaws.{le_or_lt, listed_at, listed_length, padded_length}
use Rattle.rules_curve.specs.Curves.{most_steps, blank_step, step_of, raw_steps, lowest_default, highest_default, curve_of, bid_refusal, default_refusal, checked_default}
use Rattle.rules_curve.specs.declared.Curve.{Curve}
use Rattle.rules_curve.specs.declared.RawCurve.{RawCurve}
use Rattle.rules_curve.specs.declared.RawStep.{RawStep}
use Rattle.rules_curve.proofs.CheckLaws.{with_used, checked_few}
use Rattle.rules_cost.specs.Costs.{cost_refusal, cost_curve}
use Rattle.rules_cost.specs.declared.Costs.{Costs}
use Rattle.rules_cost.specs.declared.Point.{Point}
use Rattle.rules_gas.specs.Book.{run_in, gas_run, last_price}
use Rattle.rules_gas.specs.Booked.{list_refusal, list_curve, booked_refusal, booked_curve}
use Rattle.rules_gas.specs.declared.GasMarket.TheVariants.{DayAhead, RealTime}
use Rattle.rules_gas.proofs.CostAfterBook.{list_21_exactly}
use Rattle.rules_contract.specs.ContractUnits.{contract_refusal, joined_curve}
use Rattle.rules_contract.proofs.Joins.{joined_room}
use Rattle.rules_classroom.specs.Classroom.{classroom_bid}
use Rattle.rules_run.specs.Run.{run_room, output, end_of, ran_within, ran_to}
use Rattle.rules_library.specs.Answers.{ran_number, told_answer, told_page, told_after}
use Rattle.rules_library.specs.Gas.{list_by, run_count, gas_answer, gas_edges, gas_prices}
use Rattle.rules_library.specs.Slices.{raw_bid, costs_in, raw_step_at, raw_point_at, edges_of, prices_of, put_answer, if_written, edges_with, prices_with, default_answer, edges_after, prices_after}
use Rattle.rules_library.proofs.DefaultAnswers.{put_answer_lem}
use Rattle.rules_library.proofs.Meaning.{all_steps, zero_accepted, edges_past, prices_past, ran_counts, ran_too_small, tells, too_few_told, too_small_page}
use Rattle.rules_library.proofs.GasLaws.{by_number, default_by_number, empty_is_0, priced_steps}
use Rattle.rules_state.specs.Layout.{state_room}
use Rattle.rules_state.proofs.StateCells.{room_is}
use Rattle.rules_state.proofs.StandLaws.{stored_at, stored_past}
use Rattle.statements.proofs.Told.{and_so}
use Rattle.statements.proofs.Refusals.{CurveSays, BidPrices, bid}

-- number i of a slice: past its end it is 0
abbrev at : List ℤ → ℕ → ℤ
at l i = get_or l i (pos 0)

-- ---- what is read
-- a bid: end and price of each step in turn
pub record BidRead (start : ℤ) (count : ℕ) (steps : List ℤ) (c : RawCurve) : Type 0 where
  pub start_is : c.start ≡ start
  pub count_is : c.count ≡ count
  pub eleven : length c.steps ≡ 11
  pub step : (k : ℕ) → k < 11 → (d : RawStep) → get_or c.steps k d ≡ record { end = at steps (2 * k); price = at steps (2 * k + 1) }

-- costs: quantity and average heat rate of each point in turn; gas, rate, allowance, om, msc, soc, fee
pub record CostsRead (count : ℕ) (points charges : List ℤ) (c : Costs) : Type 0 where
  pub count_is : c.count ≡ count
  pub point : (k : ℕ) → k < 11 → (d : Point) → get_or c.points k d ≡ record { mw = at points (2 * k); heat = at points (2 * k + 1) }
  pub gas : c.gas ≡ at charges 0
  pub rate : c.rate ≡ at charges 1
  pub allowance : c.allowance ≡ at charges 2
  pub om : c.om ≡ at charges 3
  pub msc : c.msc ≡ at charges 4
  pub soc : c.soc ≡ at charges 5
  pub fee : c.fee ≡ at charges 6

-- ---- a curve into two lent slices: the number of steps that it uses, its start and eleven ends; eleven prices
-- n is the number of its refusal, and the slices are edges' and prices' afterwards
pub record PutsCurve (edges : List ℕ) (prices : List ℤ) (n : ℕ) (k : Curve) (answer : ℤ) (edges' : List ℕ) (prices' : List ℤ) : Type 0 where
  -- -1 comes first
  pub short : (length edges < 13) ⊎ (length prices < 11) → answer ≡ negsuc 0
  pub number : 13 ≤ length edges → 11 ≤ length prices → answer ≡ pos n
  -- "a refusal changes no curve and no lent buffer"
  pub kept : (answer ≡ pos 0 → ⊥) → (edges' ≡ edges) × (prices' ≡ prices)
  pub edge : answer ≡ pos 0 → (i : ℕ) → i < 13 → get_or edges' i 0 ≡ get_or (length (take k.count k.steps) ∷ k.start ∷ map (λ s. s.end) k.steps) i 0
  pub price : answer ≡ pos 0 → (i : ℕ) → i < 11 → get_or prices' i (pos 0) ≡ get_or (map (λ s. s.price) k.steps) i (pos 0)
  pub edges_past : (i : ℕ) → 13 ≤ i → get_or edges' i 0 ≡ get_or edges i 0
  pub prices_past : (i : ℕ) → 11 ≤ i → get_or prices' i (pos 0) ≡ get_or prices i (pos 0)

-- ---- a book: market 0 is day-ahead and 1 real time, and any other has no list
pub record MarketsSay (day : ℕ) (ahead real : List ℕ) : Type 0 where
  pub day_ahead : run_count 0 day ahead real ≡ length (gas_run DayAhead day ahead real)
  pub real_time : run_count 1 day ahead real ≡ length (gas_run RealTime day ahead real)
  pub no_market : (n : ℕ) → 2 ≤ n → run_count n day ahead real ≡ 0
  pub day_ahead_default : (c : Costs) → (list_refusal day (list_by 0 ahead real) c ≡ booked_refusal DayAhead day ahead real c) × (list_curve day (list_by 0 ahead real) c ≡ booked_curve DayAhead day ahead real c)
  pub real_time_default : (c : Costs) → (list_refusal day (list_by 1 ahead real) c ≡ booked_refusal RealTime day ahead real c) × (list_curve day (list_by 1 ahead real) c ≡ booked_curve RealTime day ahead real c)
  pub no_default : (c : Costs) (n : ℕ) → 2 ≤ n → list_refusal day (list_by n ahead real) c ≡ 21
  -- "an empty part handed back means 21"
  pub twenty_one : (c : Costs) (n : ℕ) → (list_refusal day (list_by n ahead real) c ≡ 21) ↔ (run_count n day ahead real ≡ 0)

-- ---- a text, into a page of 655,424 bytes or more, and the refusal's number and line into a slice of two numbers or more
pub record RunsText (text page told : List ℕ) : Type 0 where
  pub count : 655424 ≤ length page → ran_number (ran_to page (output text) (end_of text)) ≡ pos (length (output text))
  pub too_small : length page < 655424 → (ran_number (ran_to page (output text) (end_of text)) ≡ negsuc 0) × (ran_within page (output text) ≡ page)
  -- what is printed from the first byte on, and every other byte as it was
  pub printed : 655424 ≤ length page → length (output text) ≤ length page → (i : ℕ) → i < length (output text) → get_or (ran_within page (output text)) i 0 ≡ get_or (output text) i 0
  pub past : (i : ℕ) → length (output text) ≤ i → get_or (ran_within page (output text)) i 0 ≡ get_or page i 0
  pub long : length (ran_within page (output text)) ≡ length page
  -- the same with the refusal told: "the number and line of a refused text given as values"
  pub told_count : 2 ≤ length told → 655424 ≤ length page
      → (told_answer page told (output text) ≡ pos (length (output text))) × (told_page page told (output text) ≡ ran_within page (output text))
  pub told_number : 2 ≤ length told → 655424 ≤ length page → (get_or (told_after page told (end_of text)) 0 0 ≡ (end_of text).number) × (get_or (told_after page told (end_of text)) 1 0 ≡ (end_of text).line)
  pub told_past : 2 ≤ length told → 655424 ≤ length page → (i : ℕ) → 2 ≤ i → get_or (told_after page told (end_of text)) i 0 ≡ get_or told i 0
  pub untold : (length told < 2) ⊎ (length page < 655424)
      → (told_answer page told (output text) ≡ negsuc 0) × (told_page page told (output text) ≡ page) × (told_after page told (end_of text) ≡ told)

-- ---- from the theorems
-- how many bytes a page has at least, and how many numbers an hour
pub rooms : (run_room ≡ 655424) × (state_room ≡ 3411)
rooms = (refl, room_is)

pub bid_read : (start : ℤ) (count : ℕ) (steps : List ℤ) → BidRead start count steps (raw_bid start count steps)
bid_read start count steps = record { start_is = refl; count_is = refl; eleven = listed_length (raw_step_at steps) 11; step = λ k h d. listed_at (raw_step_at steps) d 11 k h }

pub costs_read : (count : ℕ) (points charges : List ℤ) → CostsRead count points charges (costs_in count points charges)
unfolding costs_in
costs_read count points charges = record {
  count_is = refl;
  point = λ k h d. listed_at (raw_point_at points) d 11 k h;
  gas = refl;
  rate = refl;
  allowance = refl;
  om = refl;
  msc = refl;
  soc = refl;
  fee = refl;
}

-- a bid is judged by 1 to 3
pub bid_number : (month : ℕ) (start : ℤ) (count : ℕ) (steps : List ℤ) → CurveSays 10 (raw_bid start count steps) (BidPrices (raw_bid start count steps) month) (bid_refusal month (raw_bid start count steps))
bid_number month start count steps = bid (raw_bid start count steps) (listed_length (raw_step_at steps) 11) month

module _ (edges : List ℕ) (prices : List ℤ) (n : ℕ) (k : Curve) where
  too_short : (length edges < 13) ⊎ (length prices < 11) → put_answer edges prices n ≡ negsuc 0
  too_short = (put_answer_lem edges prices n).too_short

  -- an answer of 0 has room
  no_minus : {X : Type 0} → negsuc 0 ≡ pos 0 → X
  no_minus e = absurd (let o : ◌≡◌ {A = ℕ} 0 1 = cc in omega arith)

  room : put_answer edges prices n ≡ pos 0 → (13 ≤ length edges) × (11 ≤ length prices)
  room e = (
    ⊎_elim (λ h. h) (λ h. no_minus (let s = too_short (inl h) in cc)) (le_or_lt 13 (length edges)),
    ⊎_elim (λ h. h) (λ h. no_minus (let s = too_short (inr h) in cc)) (le_or_lt 11 (length prices)),
  )

  as_they_were : (put_answer edges prices n ≡ pos 0 → ⊥) → (edges_with edges prices n k ≡ edges) × (prices_with edges prices n k ≡ prices)
  unfolding edges_with prices_with
  as_they_were h = (go (put_answer edges prices n) h (sets edges 0 (edges_of k)) edges, go (put_answer edges prices n) h (sets prices 0 (prices_of k)) prices)
    where
      go : {A : Type 0} (r : ℤ) → (r ≡ pos 0 → ⊥) → (written before : List A) → if_written r written before ≡ before
      go (pos zero) h written before = absurd (h refl)
      go (pos (suc m)) h written before = refl
      go (negsuc m) h written before = refl

  puts : (n ≡ 0 → length k.steps ≡ 11) → PutsCurve edges prices n k (put_answer edges prices n) (edges_with edges prices n k) (prices_with edges prices n k)
  unfolding edges_with prices_with
  puts whole = record {
    short = too_short;
    number = (put_answer_lem edges prices n).with_room;
    kept = as_they_were;
    edge = λ e i h.
        let w = whole (zero_accepted edges prices n k e) in
        let long : length (edges_of k) ≡ 13 = simp length-map (omega arith) in
        let z : 0 + i ≡ i = omega arith in
        ap (λ (r : ℤ). get_or (if_written r (sets edges 0 (edges_of k)) edges) i 0) e ∙ ap (λ (q : ℕ). get_or (sets edges 0 (edges_of k)) q 0) (sym z)
        ∙ stored_at 0 edges 0 (edges_of k) (omega (arith, long, (room e).0)) i (omega (arith, long));
    price = λ e i h.
        let w = whole (zero_accepted edges prices n k e) in
        let long : length (prices_of k) ≡ 11 = simp length-map (omega arith) in
        let z : 0 + i ≡ i = omega arith in
        ap (λ (r : ℤ). get_or (if_written r (sets prices 0 (prices_of k)) prices) i (pos 0)) e ∙ ap (λ (q : ℕ). get_or (sets prices 0 (prices_of k)) q (pos 0)) (sym z)
        ∙ stored_at (pos 0) prices 0 (prices_of k) (omega (arith, long, (room e).1)) i (omega (arith, long));
    edges_past = edges_past edges prices n k whole;
    prices_past = prices_past edges prices n k whole;
  }

-- the default curve from costs, and at a book's price
module _ (edges : List ℕ) (prices : List ℤ) (c : Costs) where
  pub default_puts : PutsCurve edges prices (cost_refusal c) (cost_curve c) (default_answer edges prices c) (edges_after edges prices c) (prices_after edges prices c)
  default_puts = puts edges prices (cost_refusal c) (cost_curve c) (all_steps c)

  pub gas_puts : (day : ℕ) (l : List ℕ)
      → PutsCurve edges prices (list_refusal day l c) (list_curve day l c) (gas_answer edges prices day l c) (gas_edges edges prices day l c) (gas_prices edges prices day l c)
  gas_puts day l = puts edges prices (list_refusal day l c) (list_curve day l c) (priced_steps (last_price (run_in day l)) c)

-- two default curves joined
pub join_puts : (edges : List ℕ) (prices : List ℤ) (a b : RawCurve) → length a.steps ≡ 11 → length b.steps ≡ 11
    → let n = contract_refusal a b in let k = joined_curve a b in PutsCurve edges prices n k (put_answer edges prices n) (edges_with edges prices n k) (prices_with edges prices n k)
join_puts edges prices a b full-a full-b = puts edges prices (contract_refusal a b) (joined_curve a b) (joined_room a b full-a full-b)

-- a classroom bid
checked_room : (c : RawCurve) → default_refusal c ≡ 0 → length (checked_default c).steps ≡ 11
unfolding curve_of
checked_room c e =
    rw e (padded_length most_steps blank_step (map step_of (raw_steps c))
    (rw (with_used (nat_of c.start) (map step_of (raw_steps c))) at (checked_few most_steps lowest_default highest_default c e)))

pub classroom_puts : (edges : List ℕ) (prices : List ℤ) (k : ℕ)
    → let n = default_refusal (classroom_bid k) in let c = checked_default (classroom_bid k) in PutsCurve edges prices n c (put_answer edges prices n) (edges_with edges prices n c) (prices_with edges prices n c)
classroom_puts edges prices k = puts edges prices (default_refusal (classroom_bid k)) (checked_default (classroom_bid k)) (checked_room (classroom_bid k))

pub markets_say : (day : ℕ) (ahead real : List ℕ) → MarketsSay day ahead real
markets_say day ahead real =
    let b = by_number day ahead real in
    record {
      day_ahead = b.day_ahead;
      real_time = b.real_time;
      no_market = b.no_market;
      day_ahead_default = λ c. (default_by_number day ahead real c).day_ahead;
      real_time_default = λ c. (default_by_number day ahead real c).real_time;
      no_default = λ c. (default_by_number day ahead real c).no_market;
      twenty_one = λ c n. and_so (list_21_exactly day (list_by n ahead real) c) (let e = empty_is_0 n day ahead real in (e.1, e.0));
    }

module _ (text page told : List ℕ) where
  page_kept : length page < 655424 → ran_within page (output text) ≡ page
  unfolding ran_within
  page_kept h = rw (lt-leb 655424 (length page) h)

  page_is : 655424 ≤ length page → ran_within page (output text) ≡ sets page 0 (output text)
  unfolding ran_within
  page_is h = rw (le-leb 655424 (length page) h)

  pub runs_text : RunsText text page told
  runs_text = record {
    count = ran_counts page (output text) (end_of text);
    too_small = λ h. (ran_too_small page (output text) (end_of text) h, page_kept h);
    printed = λ h fits i l.
        let z : 0 + i ≡ i = omega arith in
        ap (λ (p : List ℕ). get_or p i 0) (page_is h) ∙ ap (λ (q : ℕ). get_or (sets page 0 (output text)) q 0) (sym z) ∙ stored_at 0 page 0 (output text) (omega arith) i l;
    past = λ i l. ⊎_elim
        (λ h. ap (λ (p : List ℕ). get_or p i 0) (page_is h) ∙ stored_past 0 page 0 (output text) i (omega arith))
        (λ h. ap (λ (p : List ℕ). get_or p i 0) (page_kept h))
        (le_or_lt 655424 (length page));
    long = ⊎_elim (λ h. ap length (page_is h) ∙ length-sets page 0 (output text)) (λ h. ap length (page_kept h)) (le_or_lt 655424 (length page));
    told_count = λ h j. let t = tells page told (output text) (end_of text) h j in (t.count ∙ ran_counts page (output text) (end_of text) j, t.same);
    told_number = λ h j. let t = tells page told (output text) (end_of text) h j in (t.number, t.line);
    told_past = λ h j. (tells page told (output text) (end_of text) h j).past;
    untold = λ h. let u = ⊎_elim (too_few_told page told (output text) (end_of text)) (too_small_page page told (output text) (end_of text)) h in (u.none, u.page_kept, u.told_kept);
  }
