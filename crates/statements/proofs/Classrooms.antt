-- Paper 02, 2.12, in full: the classroom bids. Assumes nothing.
use mathlib.Core.List.{List, [], ◌∷◌, ◌++◌, map, Memᴰ}
use mathlib.Core.Logic.{◌⊎◌, inl, inr}
use mathlib.Core.Path.{◌≡◌, refl, ap}
use Prim.Native.Nat.{ℕ, ◌-◌, ◌<◌, ◌≤◌}
use lib.IntN.{ℤ, pos}
use lib.ListN.{length, get_or, take, replicate}
use lib.Signed.{◌<ℤ◌}
use Rattle.rules_number.specs.Over.{padded}
use Rattle.rules_curve.specs.Curves.{curve_of, no_pack, unless_refused, bid_refusal, default_refusal, checked_default}
use Rattle.rules_curve.specs.declared.RawStep.{RawStep}
use Rattle.rules_curve.specs.declared.RawCurve.{RawCurve}
use Rattle.rules_classroom.specs.Meaning as rules
use Rattle.rules_classroom.specs.Classroom.{classroom_bids, classroom_bid}
use Rattle.rules_classroom.proofs.Listed.{thirty_seven, listed_only, in_order, once, all_accepted, all_written, none_written}
use Rattle.rules_classroom.proofs.Every.{listed_all}

abbrev blank : RawStep
blank = record { end = pos 0; price = pos 0 }

-- step i of a curve, and its used steps
abbrev step : RawCurve → ℕ → RawStep
step b i = get_or b.steps i blank

abbrev used : RawCurve → List RawStep
used b = take b.count b.steps

-- "start 0, ends among 100, 200, 300 and prices among 0, 10000, 20000"
abbrev Drills : RawCurve → Type 0
Drills b =
    (b.start ≡ pos 0)
    × ((i : ℕ) → i < b.count → Memᴰ (step b i).end (pos 100 ∷ pos 200 ∷ pos 300 ∷ []))
    × ((i : ℕ) → i < b.count → Memᴰ (step b i).price (pos 0 ∷ pos 10000 ∷ pos 20000 ∷ []))

-- one list of numbers is smaller than another: by the first number in which they differ
abbrev Smaller : List ℤ → List ℤ → Type 0
Smaller [] m = ⊥
Smaller (x ∷ l) [] = ⊥
Smaller (x ∷ l) (y ∷ m) = (x <ℤ y) ⊎ ((x ≡ y) × Smaller l m)

smaller : (l m : List ℤ) → rules.Smaller l m → Smaller l m
smaller [] m h = h
smaller (x ∷ l) [] h = h
smaller (x ∷ l) (y ∷ m) (inl h) = inl h
smaller (x ∷ l) (y ∷ m) (inr h) = inr (h.0, smaller l m h.1)

-- "by step count, then by the list of ends, then by the list of prices": of one step count the lists are equally long
abbrev in_turn : RawCurve → List ℤ
in_turn b = pos b.count ∷ map (λ s. s.end) (used b) ++ map (λ s. s.price) (used b)

-- the same bid with blank steps past its count: what stands there means nothing
abbrev blanked : RawCurve → RawCurve
blanked b = record { start = b.start; count = b.count; steps = used b ++ replicate (11 - length (used b)) blank }

pub record ClassroomSays : Type 0 where
  -- "There are 37, each listed once, and every listed one is accepted as a bid": in every month
  pub count : length classroom_bids ≡ 37
  pub each_once : (i j : ℕ) → i < j → j < 37 → classroom_bid i ≡ classroom_bid j → ⊥
  pub accepted : (month k : ℕ) → k < 37 → bid_refusal month (classroom_bid k) ≡ 0
  -- "Generate them by step count, then by the list of ends, then by the list of prices, smaller first"
  pub ordered : (i j : ℕ) → i < j → j < 37 → Smaller (in_turn (classroom_bid i)) (in_turn (classroom_bid j))
  -- "every bid with start 0, ends among 100, 200, 300 and prices among 0, 10000, 20000, never falling": each is listed, and nothing else is
  pub nothing_else : (k : ℕ) → k < 37 → Drills (classroom_bid k)
  pub each : (month : ℕ) (b : RawCurve) → length b.steps ≡ 11 → bid_refusal month b ≡ 0 → Drills b → (k : ℕ) × (k < 37) × (blanked b ≡ classroom_bid k)
  -- the bids by number: past the last there is none
  pub by_number : (k : ℕ) → classroom_bid k ≡ get_or classroom_bids k (record { start = pos 0; count = 0; steps = replicate 11 blank })
  -- a call in numbers gives each as it is, and 1 past the last
  pub given : (k : ℕ) → k < 37 → (default_refusal (classroom_bid k) ≡ 0) × (checked_default (classroom_bid k) ≡ curve_of (classroom_bid k))
  pub past : (k : ℕ) → 37 ≤ k → default_refusal (classroom_bid k) ≡ 1

pub classroom : ClassroomSays
unfolding classroom_bid padded no_pack
classroom = record {
  count = thirty_seven;
  each_once = once;
  accepted = all_accepted;
  ordered = λ i j h k. smaller (in_turn (classroom_bid i)) (in_turn (classroom_bid j)) (in_order i j h k);
  nothing_else = λ k h. let d = listed_only k h in (d.starts, d.ends, d.prices);
  each = λ month b full e d.
      let l = listed_all month b full e (record { starts = d.0; ends = d.1; prices = d.2 }) in
      (l.at, l.among, l.same);
  by_number = λ k. refl;
  given = λ k h. (all_written k h, ap (λ (n : ℕ). unless_refused n (curve_of (classroom_bid k))) (all_written k h));
  past = none_written;
}
