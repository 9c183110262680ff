-- "After every list of days from a fresh tally, refused ones included, it equals the count over the last 60 accepted of that list." Assumes nothing.
use mathlib.Core.Bool.{Bool, true, false, ◌||◌, cond}
use mathlib.Core.List.{List, [], ◌∷◌}
use mathlib.Core.Logic.{◌↔◌, inl, inr}
use mathlib.Core.Path.{◌≡◌, refl, sym, ap, ap₂, ◌∙◌}
use Prim.Native.Nat.{ℕ, zero, suc, min, ◌+◌, ◌-◌, ◌*◌, ◌^◌, ◌≤◌, ◌<◌}
use native.Mathlib.Omega.{arith}
use borrow.Author.Tests.{lt-ltb, ltb-true, ltb-false, ne_eqb}
use lib.Count.{ones}
use lib.Dec.{leb, ltb, eqb}
use lib.ListN.{get_or, take, length, length-take}
use Rattle.rules_number.specs.Over.{sum_to, listed}
use Rattle.rules_number.proofs.ExactLaws.{le_exactly, and_exactly, iff_then}
use Rattle.rules_number.proofs.OverLaws.{sum_same, listed_at, listed_same, listed_length, never}
use Rattle.rules_number.proofs.SumLaws.{sum_add}
use Rattle.rules_curve.specs.Demands.{◌asks◌, First}
use Rattle.rules_curve.proofs.FirstLaws.{exactly, accepted_exactly}
use Rattle.rules_path.specs.Verdicts.{bit, finding_number}
use Rattle.rules_path.specs.declared.Finding.TheVariants.{Competitive, NonCompetitive}
use Rattle.rules_mask.proofs.SetLaws.{ones_bits, sum_shift, low_bits, bit_two}
use Rattle.rules_designation.specs.Tallies.{is_later, day_refusal, pushed, held_after, with_day, tally_unless, tally_after, fresh_tally, tally_of}
use Rattle.rules_designation.specs.Designations.{hours_in, bound_hours, non_competitive_hours, is_competitive, designation}
use Rattle.rules_designation.specs.Meaning.{Above, Fits, Accepting, counted, bound_hour, non_competitive_hour, competitive_hour, Competes}
use Rattle.rules_designation.specs.declared.Day.{Day}
use Rattle.rules_designation.specs.declared.Tally.{Tally}
use Rattle.rules_designation.proofs.DayLaws.{answered}
use Rattle.rules_designation.proofs.PushLaws.{entry_pushed, pushed_listed}

-- what a read past the end of the accepted days gives
abbrev no_day : Day
no_day = record { number = 0; bound = 0; noncompetitive = 0 }

abbrev mask_at : (Day → ℕ) → List Day → ℕ → ℕ
mask_at f l i = f (get_or l i no_day)

-- each day of a list has fitted
abbrev Fitted : List Day → Type 0
Fitted [] = Unit {0}
Fitted (d ∷ l) = Fits l d × Fitted l

-- the tally holds the accepted days l, the newest first
record Holds (t : Tally) (l : List Day) : Type 0 where
  later : (d : Day) → (is_later t d ≡ true) ↔ Above l d
  days : t.days ≡ min 60 (length l)
  bound : t.bound ≡ listed (mask_at (λ d. d.bound) l) 60
  noncompetitive : t.noncompetitive ≡ listed (mask_at (λ d. d.noncompetitive) l) 60
  fitted : Fitted l

fresh_holds : Holds fresh_tally []
unfolding fresh_tally listed
fresh_holds = record { later = λ d. ((λ e. tt), λ e. refl); days = refl; bound = refl; noncompetitive = refl; fitted = tt }

-- ---- a day more
held_more : (n k : ℕ) → n ≡ min 60 k → held_after n ≡ min 60 (suc k)
held_more n k e = go (ltb n 60) refl
  where
    go : (t : Bool) → ltb n 60 ≡ t → cond t (n + 1) n ≡ min 60 (suc k)
    go true s = omega (arith, ltb-true n 60 s)
    go false s = omega (arith, ltb-false n 60 s)

pushed_holds : (f : Day → ℕ) (l : List Day) (d : Day) (w : List ℕ) → w ≡ listed (mask_at f l) 60 → pushed w (f d) ≡ listed (mask_at f (d ∷ l)) 60
pushed_holds f l d w e =
    rw e (pushed_listed (listed (mask_at f l) 60) (f d) (listed_length (mask_at f l) 60)
    ∙ listed_same (entry_pushed (listed (mask_at f l) 60) (f d)) (mask_at f (d ∷ l)) 60 at_each)
  where
    at_each : (i : ℕ) → i < 60 → entry_pushed (listed (mask_at f l) 60) (f d) i ≡ mask_at f (d ∷ l) i
    at_each zero h = refl
    at_each (suc i) h = listed_at (mask_at f l) 0 60 i (omega arith)

adds : (t : Tally) (l : List Day) (d : Day) → Holds t l → Fits l d → Holds (with_day t d) (d ∷ l)
unfolding with_day
adds t l d h f = record {
  later = λ e. iff_then (is e) (ltb-true d.number e.number) (lt-ltb d.number e.number);
  days = more;
  bound = pushed_holds (λ x. x.bound) l d t.bound h.bound;
  noncompetitive = pushed_holds (λ x. x.noncompetitive) l d t.noncompetitive h.noncompetitive;
  fitted = (f, h.fitted);
}
  where
    more : held_after t.days ≡ min 60 (suc (length l))
    more = held_more t.days (length l) h.days

    is : (e : Day) → ((eqb (held_after t.days) 0 || ltb d.number e.number) ≡ true) ↔ (ltb d.number e.number ≡ true)
    is e = rw (ne_eqb (held_after t.days) 0 (λ z. omega (arith, more))) ((λ x. x), λ x. x)

taken : (t : Tally) (l : List Day) → Holds t l → (d : Day) → (day_refusal t d ≡ 0) ↔ Fits l d
taken t l h d = let k = accepted_exactly ((25 asks Fits l d) ∷ []) (day_refusal t d) (answered t l d (h.later d)) in ((λ e. (k.0 e).0), λ f. k.1 (f, tt))

-- ---- the whole list
-- the accepted days of a list, after those of l
abbrev kept : ℕ → Day → List Day → List Day
kept zero d l = d ∷ l
kept (suc n) d l = l

accepted_from : Tally → List Day → List Day → List Day
accepted_from t l [] = l
accepted_from t l (d ∷ days) = accepted_from (tally_after t d) (kept (day_refusal t d) d l) days

step : (t : Tally) (l : List Day) (d : Day) → Holds t l → Holds (tally_after t d) (kept (day_refusal t d) d l)
unfolding tally_after
step t l d h = go (day_refusal t d) refl
  where
    go : (n : ℕ) → day_refusal t d ≡ n → Holds (tally_unless n (with_day t d) t) (kept n d l)
    go zero e = adds t l d h ((taken t l h d).0 e)
    go (suc n) e = h

all_hold : (t : Tally) (l days : List Day) → Holds t l → Holds (tally_of t days) (accepted_from t l days)
unfolding tally_of accepted_from
all_hold t l [] h = h
all_hold t l (d ∷ days) h = all_hold (tally_after t d) (kept (day_refusal t d) d l) days (step t l d h)

accepting : (t : Tally) (l days : List Day) → Holds t l → Accepting l days (accepted_from t l days)
unfolding accepted_from
accepting t l [] h = refl
accepting t l (d ∷ days) h = go (day_refusal t d) refl (accepting (tally_after t d) (kept (day_refusal t d) d l) days (step t l d h))
  where
    go : (n : ℕ) → day_refusal t d ≡ n → Accepting (kept n d l) days (accepted_from (tally_after t d) (kept n d l) days)
        → Accepting l (d ∷ days) (accepted_from (tally_after t d) (kept n d l) days)
    go zero e a = inl ((taken t l h d).0 e, a)
    go (suc n) e a = inr ((λ f. omega (arith, (taken t l h d).1 f)), a)

-- no other list is that of the accepted days
pub accepted_only : (l days j k : List Day) → Accepting l days j → Accepting l days k → j ≡ k
accepted_only l [] j k a b = a ∙ sym b
accepted_only l (d ∷ days) j k (inl a) (inl b) = accepted_only (d ∷ l) days j k a.1 b.1
accepted_only l (d ∷ days) j k (inl a) (inr b) = absurd (b.0 a.0)
accepted_only l (d ∷ days) j k (inr a) (inl b) = absurd (a.0 b.0)
accepted_only l (d ∷ days) j k (inr a) (inr b) = accepted_only l days j k a.1 b.1

-- ---- counts: the ones of a day's mask are its marked hours
none : (n : ℕ) → sum_to (λ i. ones 0) n ≡ 0
unfolding sum_to ones
none zero = refl
none (suc n) = ap (λ (z : ℕ). z + 0) (none n)

module _ (f : Day → ℕ) (blank : f no_day ≡ 0) (below : (l : List Day) (d : Day) → Fits l d → f d < 2 ^ 24) where
  abbrev hour : Day → ℕ → ℕ
  hour d h = bit h (f d)

  counted_by_lem : (n : ℕ) (l : List Day) → Fitted l → sum_to (λ i. ones (mask_at f l i)) n ≡ counted hour (take n l)
  unfolding counted sum_to
  counted_by_lem zero [] s = refl
  counted_by_lem zero (d ∷ l) s = refl
  counted_by_lem (suc n) [] s = sum_same (λ i. ones (mask_at f [] i)) (λ i. ones 0) (suc n) (λ i h. ap ones blank) ∙ none (suc n)
  counted_by_lem (suc n) (d ∷ l) s =
      sum_shift (λ i. ones (mask_at f (d ∷ l) i)) n ∙ ap₂ (λ (j k : ℕ). j + k) (ones_bits 24 (f d) (below l d s.0)) (counted_by_lem n l s.1)

  hours_held : (w : List ℕ) (l : List Day) → Fitted l → w ≡ listed (mask_at f l) 60 → hours_in w ≡ counted hour (take 60 l)
  unfolding hours_in
  hours_held w l s e =
      sum_same (λ i. ones (get_or w i 0)) (λ i. ones (mask_at f l i)) 60 (λ i h. ap ones (rw e (listed_at (mask_at f l) 0 60 i h))) ∙ counted_by_lem 60 l s

-- each bound hour is competitive or not
hour_split : (l : List Day) (d : Day) → Fits l d → (h : ℕ) → bound_hour d h ≡ competitive_hour d h + non_competitive_hour d h
hour_split l d f h = go (bit h d.noncompetitive) (f.non_competitive_bound h) (bit_two h d.noncompetitive)
  where
    go : (n : ℕ) → (n ≡ 1 → bound_hour d h ≡ 1) → n ≤ 1 → bound_hour d h ≡ bound_hour d h * (1 - n) + n
    go zero k l = omega arith
    go (suc zero) k l = omega (arith, k refl)
    go (suc (suc n)) k l = absurd (omega arith)

split : (l : List Day) → Fitted l → (n : ℕ) → counted bound_hour (take n l) ≡ counted competitive_hour (take n l) + counted non_competitive_hour (take n l)
unfolding counted
split [] f zero = refl
split [] f (suc n) = refl
split (d ∷ l) f zero = refl
split (d ∷ l) f (suc n) =
    let here = sum_same (bound_hour d) (λ h. competitive_hour d h + non_competitive_hour d h) 24 (λ h k. hour_split l d f.0 h) in
    omega (arith, here, sum_add (competitive_hour d) (non_competitive_hour d) 24, split l f.1 n)

-- ---- the default verdict
chosen : {P : Type 0} (t : Bool) → (t ≡ true) ↔ P → let v = cond t Competitive NonCompetitive in ((v ≡ Competitive) ↔ P) × ((v ≡ NonCompetitive) ↔ (P → ⊥))
chosen true e = (((λ x. e.0 refl), λ p. refl), ((λ x. absurd (other x)), λ n. absurd (n (e.0 refl))))
  where
    other : Competitive ≡ NonCompetitive → ⊥
    other x = let z : ◌≡◌ {A = ℕ} 0 1 = ap finding_number x in omega arith
chosen false e = (((λ x. absurd (other x)), λ p. never (e.1 p)), ((λ x p. never (e.1 p)), λ n. refl))
  where
    other : NonCompetitive ≡ Competitive → ⊥
    other x = let z : ◌≡◌ {A = ℕ} 1 0 = ap finding_number x in omega arith

-- ---- the theorem: of the tally after a list of days, and the list's accepted days, the newest first
pub record SixtyDays (days : List Day) (t : Tally) (accepted : List Day) : Type 0 where
  -- these are the accepted days, from the list alone
  pub these : Accepting [] days accepted
  -- "it equals the count over the last 60 accepted of that list"
  pub bound : bound_hours t ≡ counted bound_hour (take 60 accepted)
  pub non_competitive : non_competitive_hours t ≡ counted non_competitive_hour (take 60 accepted)
  -- "Competitive: at least 10 bound hours, and 4 × the competitive bound hours at least 3 × the bound hours. Anything less is non-competitive."
  pub competitive : (designation t ≡ Competitive) ↔ Competes (take 60 accepted)
  pub otherwise : (designation t ≡ NonCompetitive) ↔ (Competes (take 60 accepted) → ⊥)
  -- "It adds 25, a day number not above the last accepted one, a mark past the 24 hours, or a non-competitive hour not bound; the only check."
  pub answer : (d : Day) (n : ℕ) → (day_refusal t d ≡ n) ↔ First n ((25 asks Fits accepted d) ∷ [])
  -- how many days are held
  pub held : t.days ≡ length (take 60 accepted)

module _ (days : List Day) where
  abbrev t : Tally
  t = tally_of fresh_tally days

  pub accepted_of : List Day
  accepted_of = accepted_from fresh_tally [] days

  holds : Holds t accepted_of
  unfolding accepted_of
  holds = all_hold fresh_tally [] days fresh_holds

  bound_is : bound_hours t ≡ counted bound_hour (take 60 accepted_of)
  bound_is = hours_held (λ d. d.bound) refl (λ l d f. low_bits 24 d.bound f.bound_within) t.bound accepted_of holds.fitted holds.bound

  non_is : non_competitive_hours t ≡ counted non_competitive_hour (take 60 accepted_of)
  non_is =
      hours_held (λ d. d.noncompetitive) refl (λ l d f. low_bits 24 d.noncompetitive f.non_competitive_within) t.noncompetitive accepted_of holds.fitted holds.noncompetitive

  test_exactly : (is_competitive (bound_hours t) (non_competitive_hours t) ≡ true) ↔ Competes (take 60 accepted_of)
  unfolding is_competitive
  test_exactly =
      let b = bound_hours t in
      let n = non_competitive_hours t in
      let s = split accepted_of holds.fitted 60 in
      iff_then (and_exactly (leb 10 b) (leb (3 * b) (4 * (b - n))) (le_exactly 10 b) (le_exactly (3 * b) (4 * (b - n))))
      (λ h. record { enough = omega (arith, bound_is, h.0); three_quarters = omega (arith, bound_is, non_is, s, h.1) })
      (λ h. (omega (arith, bound_is, h.enough), omega (arith, bound_is, non_is, s, h.three_quarters)))

  pub sixty_days : SixtyDays days t accepted_of
  unfolding accepted_of designation
  sixty_days =
      let v = chosen (is_competitive (bound_hours t) (non_competitive_hours t)) test_exactly in record {
        these = accepting fresh_tally [] days fresh_holds;
        bound = bound_is;
        non_competitive = non_is;
        competitive = v.0;
        otherwise = v.1;
        answer = λ d. exactly ((25 asks Fits accepted_of d) ∷ []) (day_refusal t d) (answered t accepted_of d (holds.later d));
        held = holds.days ∙ sym (length-take 60 accepted_of);
      }
