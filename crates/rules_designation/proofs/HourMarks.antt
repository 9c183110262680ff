-- "An hour's marks are made from its intervals' verdicts on that constraint: bound if any is 0 or 1, non-competitive if any is 1." Assumes nothing.
use mathlib.Core.Bool.{Bool, true, false, ◌||◌}
use mathlib.Core.List.{List, [], ◌∷◌}
use mathlib.Core.Logic.{◌↔◌, ◌⊎◌, inl, inr, ⊎_elim}
use mathlib.Core.Path.{◌≡◌, refl, sym, ◌∙◌}
use Prim.Native.Nat.{ℕ, zero, suc, min, ◌≤◌, ◌<◌}
use native.Mathlib.Decide.{ℕ_discrete}
use native.Mathlib.Omega.{arith}
use borrow.Author.Tests.{ltb-true, lt-ltb, eqb-true, eq-eqb}
use lib.ListN.{length, get_or}
use Rattle.rules_number.proofs.OverLaws.{never}
use Rattle.rules_path.specs.Verdicts.{bit, finding_number}
use Rattle.rules_path.specs.declared.Finding.{Finding}
use Rattle.rules_path.specs.declared.Finding.TheVariants.{NotBinding}
use Rattle.rules_path.proofs.BitLaws.{bit_zero}
use Rattle.rules_mask.specs.Masks.{with_member}
use Rattle.rules_mask.proofs.SetLaws.{member_in, member_other, in_or_not}
use Rattle.rules_designation.specs.Marks.{any_of, binds_by, non_competitive_by, any_bound, any_non_competitive, marked_at, marked_day, blank_day, Seen, day_after}
use Rattle.rules_designation.specs.Meaning.{Above, Fits, Has, AnyBinds, AnyNonCompetitive, Some, SeenIn, BindsPast}
use Rattle.rules_designation.specs.declared.Day.{Day}

-- ---- any of a list
any_exactly : (test : Finding → Bool) (P : ℕ → Type 0) → ((f : Finding) → (test f ≡ true) ↔ P (finding_number f)) → (l : List Finding) → (any_of test l ≡ true) ↔ Has l P
unfolding any_of
any_exactly test P each [] = ((λ e. never e), λ h. absurd (omega (arith, h.1)))
any_exactly test P each (f ∷ l) = go (test f) refl (any_exactly test P each l)
  where
    go : (t : Bool) → test f ≡ t → (any_of test l ≡ true) ↔ Has l P → ((t || any_of test l) ≡ true) ↔ Has (f ∷ l) P
    go true e ih = ((λ x. (0, omega arith, (each f).0 e)), λ x. refl)
    go false e ih = (
      (λ x. let h = ih.0 x in (suc h.0, omega (arith, h.1), h.2)),
      λ h. back h.0 h.1 h.2,
    )
      where
        back : (i : ℕ) → i < length (f ∷ l) → P (finding_number (get_or (f ∷ l) i NotBinding)) → any_of test l ≡ true
        back zero b p = never (sym e ∙ (each f).1 p)
        back (suc i) b p = ih.1 (i, omega arith, p)

pub any_binds_exactly : (l : List Finding) → (any_bound l ≡ true) ↔ AnyBinds l
any_binds_exactly l = any_exactly binds_by (λ n. (n ≡ 0) ⊎ (n ≡ 1)) each l
  where
    either : (n : ℕ) → n < 2 → (n ≡ 0) ⊎ (n ≡ 1)
    either zero h = inl refl
    either (suc zero) h = inr refl
    either (suc (suc n)) h = absurd (omega arith)

    each : (f : Finding) → (binds_by f ≡ true) ↔ ((finding_number f ≡ 0) ⊎ (finding_number f ≡ 1))
    each f = ((λ e. either (finding_number f) (ltb-true (finding_number f) 2 e)), λ s. lt-ltb (finding_number f) 2 (⊎_elim (λ z. omega arith) (λ z. omega arith) s))

pub any_non_competitive_exactly : (l : List Finding) → (any_non_competitive l ≡ true) ↔ AnyNonCompetitive l
any_non_competitive_exactly l = any_exactly non_competitive_by (λ n. n ≡ 1) (λ f. (eqb-true (finding_number f) 1, eq-eqb (finding_number f) 1)) l

-- ---- one hour marked, whatever its number: bit p is set where it was, and where the mark falls on it
mark_at : (p hour m : ℕ) {P : Type 0} (test : Bool) → (test ≡ true) ↔ P → (bit p (marked_at hour test m) ≡ 1) ↔ ((bit p m ≡ 1) ⊎ ((min hour 24 ≡ p) × P))
mark_at p hour m false t = (inl, ⊎_elim (λ e. e) (λ x. never (t.1 x.1)))
mark_at p hour m {P} true t = go (ℕ_discrete (min hour 24) p)
  where
    go : Dec (min hour 24 ≡ p) → (bit p (with_member (min hour 24) m) ≡ 1) ↔ ((bit p m ≡ 1) ⊎ ((min hour 24 ≡ p) × P))
    go (yes e) = ((λ x. inr (e, t.0 refl)), λ s. rw e (member_in p m))
    go (no d) =
        let stays = member_other (min hour 24) p m (λ e. d (sym e)) in
        ((λ x. inl (sym stays ∙ x)), ⊎_elim (λ e. stays ∙ e) (λ x. absurd (d x.0)))

-- of one of the 24 hours
pub mark_exactly : (h hour m : ℕ) → h < 24 → {P : Type 0} (test : Bool) → (test ≡ true) ↔ P → (bit h (marked_at hour test m) ≡ 1) ↔ ((bit h m ≡ 1) ⊎ ((hour ≡ h) × P))
mark_exactly h hour m inside test t =
    let k = mark_at h hour m test t in
    ((λ e. ⊎_elim inl (λ x. inr (omega (arith, x.0), x.1)) (k.0 e)), λ s. k.1 (⊎_elim inl (λ x. inr (omega (arith, x.0), x.1)) s))

-- ---- a day of any list of verdicts seen
some_map : {P Q : Seen → Type 0} → ((x : Seen) → P x → Q x) → (l : List Seen) → Some P l → Some Q l
some_map f [] s = s
some_map f (x ∷ l) (inl s) = inl (f x s)
some_map f (x ∷ l) (inr s) = inr (some_map f l s)

-- a mask after each of them is marked
mask_after : (List Finding → Bool) → ℕ → List Seen → ℕ
mask_after any m [] = m
mask_after any m (x ∷ l) = mask_after any (marked_at x.hour (any x.verdicts) m) l

day_is : (d : Day) (l : List Seen) → day_after d l ≡ record { number = d.number; bound = mask_after any_bound d.bound l; noncompetitive = mask_after any_non_competitive d.noncompetitive l }
unfolding day_after marked_day mask_after
day_is d [] = refl
day_is d (x ∷ l) = day_is (marked_day d x.hour x.verdicts) l

-- bit p of it is set exactly where a mark falls on it
abbrev FallsOn : ℕ → (List Finding → Type 0) → List Seen → Type 0
FallsOn p P l = Some (λ x. (min x.hour 24 ≡ p) × P x.verdicts) l

module _ (any : List Finding → Bool) (P : List Finding → Type 0) (exactly : (l : List Finding) → (any l ≡ true) ↔ P l) where
  mask_after_lem : (p m : ℕ) (l : List Seen) → (bit p (mask_after any m l) ≡ 1) ↔ ((bit p m ≡ 1) ⊎ FallsOn p P l)
  unfolding mask_after
  mask_after_lem p m [] = (inl, ⊎_elim (λ e. e) (λ x. absurd x))
  mask_after_lem p m (x ∷ l) =
      let later = mask_after_lem p (marked_at x.hour (any x.verdicts) m) l in
      let one = mark_at p x.hour m (any x.verdicts) (exactly x.verdicts) in (
        (λ e. ⊎_elim (λ b. ⊎_elim inl (λ y. inr (inl y)) (one.0 b)) (λ s. inr (inr s)) (later.0 e)),
        λ s. later.1 (⊎_elim (λ b. inl (one.1 (inl b))) (⊎_elim (λ y. inl (one.1 (inr y))) inr) s),
      )

  mask_made : (p : ℕ) (l : List Seen) → (bit p (mask_after any 0 l) ≡ 1) ↔ FallsOn p P l
  mask_made p l = let k = mask_after_lem p 0 l in ((λ e. ⊎_elim (λ z. absurd (omega (arith, bit_zero p))) (λ s. s) (k.0 e)), λ s. k.1 (inr s))

  hour_made : (h : ℕ) → h < 24 → (l : List Seen) → (bit h (mask_after any 0 l) ≡ 1) ↔ SeenIn h P l
  hour_made h inside l =
      let k = mask_made h l in
      ((λ e. some_map (λ x s. (omega (arith, s.0), s.1)) l (k.0 e)), λ s. k.1 (some_map (λ x s. (omega (arith, s.0), s.1)) l s))

-- the day of number n made of those seen
pub record Made (n : ℕ) (seen : List Seen) (d : Day) : Type 0 where
  pub number : d.number ≡ n
  -- "bound if any is 0 or 1"
  pub bound : (h : ℕ) → h < 24 → (bit h d.bound ≡ 1) ↔ SeenIn h AnyBinds seen
  -- "non-competitive if any is 1"
  pub non_competitive : (h : ℕ) → h < 24 → (bit h d.noncompetitive ≡ 1) ↔ SeenIn h AnyNonCompetitive seen
  -- beside its number, only a bound hour past the 24 has it refused
  pub fits : (accepted : List Day) → Above accepted d → Fits accepted d ↔ (BindsPast seen → ⊥)

module _ (n : ℕ) (seen : List Seen) where
  abbrev bounds : ℕ
  bounds = mask_after any_bound 0 seen

  abbrev nons : ℕ
  nons = mask_after any_non_competitive 0 seen

  -- a non-competitive verdict is a binding one
  also_bound : (p : ℕ) → bit p nons ≡ 1 → bit p bounds ≡ 1
  also_bound p e =
      (mask_made any_bound AnyBinds any_binds_exactly p seen).1
      (some_map (λ x s. (s.0, (s.1.0, s.1.1, inr s.1.2))) seen ((mask_made any_non_competitive AnyNonCompetitive any_non_competitive_exactly p seen).0 e))

  none_past : (BindsPast seen → ⊥) → (p : ℕ) → 24 ≤ p → bit p bounds ≡ 0
  none_past none p l =
      ⊎_elim (λ e. absurd (none (some_map (λ x s. (omega (arith, s.0), s.1)) seen ((mask_made any_bound AnyBinds any_binds_exactly p seen).0 e)))) (λ e. e) (in_or_not p bounds)

  non_past : (BindsPast seen → ⊥) → (p : ℕ) → 24 ≤ p → bit p nons ≡ 0
  non_past none p l = ⊎_elim (λ e. absurd (omega (arith, also_bound p e, none_past none p l))) (λ e. e) (in_or_not p nons)

  past_on : BindsPast seen → bit 24 bounds ≡ 1
  past_on s = (mask_made any_bound AnyBinds any_binds_exactly 24 seen).1 (some_map (λ x k. (omega (arith, k.0), k.1)) seen s)

  pub day_made : Made n seen (day_after (blank_day n) seen)
  day_made = rw (day_is (blank_day n) seen) record {
    number = refl;
    bound = λ h l. hour_made any_bound AnyBinds any_binds_exactly h l seen;
    non_competitive = λ h l. hour_made any_non_competitive AnyNonCompetitive any_non_competitive_exactly h l seen;
    fits = λ accepted a. (
      (λ f s. omega (arith, past_on s, f.bound_within 24 (omega arith))),
      λ none. record { above = a; bound_within = none_past none; non_competitive_within = non_past none; non_competitive_bound = also_bound },
    );
  }
