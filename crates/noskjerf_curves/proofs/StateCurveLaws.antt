-- Laws of the curves of a state. Assumes nothing.
use Prim.Native.Nat.{ℕ, zero, suc}
use mathlib.Core.Path.{◌≡◌, refl, sym, ap, subst, ◌∙◌}
use mathlib.Core.Bool.{Bool, true, false}
use mathlib.Core.List.{List}
use lib.IntN.{ℤ}
use lib.Seq.{sets}
use Rattle.rules_mitigation.specs.declared.Mitigated.{Mitigated}
use Rattle.rules_hour.specs.Hours.{curve_in}
use Rattle.rules_pass.specs.Passes.{RealTimeHour}
use Rattle.rules_hour_bid.specs.HourBids.{hour_bid_refusal, hour_bid_in, hour_bid_of, mitigated_unless}
use Rattle.rules_library.specs.Slices.{answer_of, if_written}
use Rattle.rules_state.specs.Curves.{mitigated_edges, mitigated_prices, edges_by, prices_by}

-- the bid for the hour, where the hour is full
pub hour_bid_is : (h : RealTimeHour) (r : ℕ) → hour_bid_refusal h ≡ 0 → curve_in h.hour r ≡ hour_bid_of h r
unfolding hour_bid_of hour_bid_in curve_in
hour_bid_is h r e = ap (λ (n : ℕ). mitigated_unless n (hour_bid_in h r)) (sym e)

-- what a call answers by its number, and its two slices, by the curve that it puts where the number is 0
module _ (room : Bool) (edges : List ℕ) (prices : List ℤ) where
  abbrev pub Put : ℕ → Mitigated → ℤ → List ℕ → List ℤ → Type 0
  Put n m z e p = (z ≡ answer_of room n) × ((e ≡ edges_by (answer_of room n) edges m) × (p ≡ prices_by (answer_of room n) prices m))

  written_as : {A : Type 0} (f : Mitigated → List A) (b : List A) (n : ℕ) (m k : Mitigated) → (n ≡ 0 → m ≡ k) → if_written (answer_of room n) (f m) b ≡ if_written (answer_of room n) (f k) b
  written_as f b zero m k h = ap (λ (x : Mitigated). if_written (answer_of room 0) (f x) b) (h refl)
  written_as f b (suc n) m k h = by_room room
    where
      by_room : (r : Bool) → if_written (answer_of r (suc n)) (f m) b ≡ if_written (answer_of r (suc n)) (f k) b
      by_room true = refl
      by_room false = refl

  pub put_as : (n k : ℕ) (m l : Mitigated) → n ≡ k → (k ≡ 0 → m ≡ l) → (z : ℤ) (e : List ℕ) (p : List ℤ) → Put n m z e p → Put k l z e p
  put_as n k m l q h z e p a =
      let b = subst (λ (j : ℕ). Put j m z e p) q a in
      (b.0, (b.1.0 ∙ written_as (λ (x : Mitigated). sets edges 0 (mitigated_edges x)) edges k m l h, b.1.1 ∙ written_as (λ (x : Mitigated). sets prices 0 (mitigated_prices x)) prices k m l h))
