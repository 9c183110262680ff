-- Paper 02, 2.10, in full: after every list of days the tally's count is that over the last 60 accepted of the list; 25; the default verdict; an hour's marks. Assumes nothing.
use mathlib.Core.List.{List, [], ◌∷◌, map}
use mathlib.Core.Logic.{◌↔◌, ◌⊎◌, inl, inr, ⊎_elim}
use mathlib.Core.Path.{◌≡◌, refl, sym, ap, ◌∙◌, subst}
use Prim.Native.Nat.{ℕ, zero, suc, ◌+◌, ◌-◌, ◌*◌, ◌≤◌, ◌<◌}
use native.Mathlib.Omega.{arith}
use lib.IntN.{ℤ, pos, negsuc}
use lib.ListN.{length, get_or, take, replicate, length-map, get_or-map}
use Rattle.rules_number.specs.Over.{sum_to}
use Rattle.rules_number.proofs.ExactLaws.{iff_then}
use Rattle.rules_path.specs.Verdicts.{finding_number}
use Rattle.rules_path.specs.declared.Finding.{Finding}
use Rattle.rules_path.specs.declared.Finding.TheVariants.{Competitive, NonCompetitive, NotBinding}
use Rattle.rules_state.specs.Verdicts.{finding_by}
use Rattle.rules_state.proofs.StandLaws.{stored_at, stored_past}
use Rattle.rules_designation.specs.Calls.{tally_in, cells_over, day_answer, cells_after, designation_answer, hours_after, mark_answer, marks_after}
use Rattle.rules_designation.specs.Designations.{bound_hours, non_competitive_hours, designation}
use Rattle.rules_designation.specs.Marks.{any_bound, any_non_competitive, marked_day}
use Rattle.rules_designation.specs.Meaning.{Above, Competes, Fits, Accepting, counted, bound_hour, non_competitive_hour, competitive_hour, Has}
use Rattle.rules_designation.specs.Tallies.{day_refusal, tally_after, fresh_tally, tally_of}
use Rattle.rules_designation.specs.declared.Day.{Day}
use Rattle.rules_designation.specs.declared.Tally.{Tally}
use Rattle.rules_designation.proofs.AfterCalls.{calls_room, sixty_days_in_numbers}
use Rattle.rules_designation.proofs.CallAnswers.{day_told, day_short, day_left, day_past, designation_told, tally_short, hours_short, mark_told, mark_short}
use Rattle.rules_designation.proofs.DayLaws.{refused_leaves}
use Rattle.rules_designation.proofs.HourMarks.{any_binds_exactly, any_non_competitive_exactly, mark_exactly}
use Rattle.rules_designation.proofs.SixtyDays.{SixtyDays, sixty_days, accepted_of, accepted_only}
use Rattle.statements.proofs.Paths.{Bit}
use Rattle.statements.proofs.Plain.{Sum, Found}
use Rattle.statements.proofs.Told.{and_so, ◌says◌, Item, told, taken, only}

-- "A day holds 24 hours, each marked bound or not, and non-competitive or not": 1 where hour h is
abbrev pub Bound : Day → ℕ → ℕ
Bound d h = Bit h d.bound

abbrev pub NonComp : Day → ℕ → ℕ
NonComp d h = Bit h d.noncompetitive

-- what 25 asks of a day, where the accepted days are l, the newest first
abbrev pub Taken : List Day → Day → Type 0
Taken l d =
    ((x : Day) (rest : List Day) → l ≡ x ∷ rest → x.number < d.number) × ((h : ℕ) → 24 ≤ h → Bound d h ≡ 0) × ((h : ℕ) → 24 ≤ h → NonComp d h ≡ 0)
    × ((h : ℕ) → NonComp d h ≡ 1 → Bound d h ≡ 1)

-- the accepted days of a list, from the list alone
abbrev pub Accepted : List Day → List Day → List Day → Type 0
Accepted l [] k = k ≡ l
Accepted l (d ∷ days) k = (Taken l d × Accepted (d ∷ l) days k) ⊎ ((Taken l d → ⊥) × Accepted l days k)

-- hours counted one by one
abbrev pub Hours : (Day → ℕ → ℕ) → List Day → ℕ
Hours f [] = 0
Hours f (d ∷ l) = Sum (f d) 24 + Hours f l

-- "at least 10 bound hours, and 4 × the competitive bound hours at least 3 × the bound hours", a competitive bound hour being bound and not non-competitive
abbrev pub Enough : List Day → Type 0
Enough l = (10 ≤ Hours Bound l) × (3 * Hours Bound l ≤ 4 * Hours (λ d h. Bound d h * (1 - NonComp d h)) l)

-- of a tally after a list of days: the hours that it counts, its default verdict by its number, and what it answers to a further day
pub record TallySays (days : List Day) (bound non verdict : ℕ) (answer : Day → ℕ) : Type 0 where
  pub accepted : List Day
  pub these : Accepted [] days accepted
  pub no_other : (k : List Day) → Accepted [] days k → k ≡ accepted
  -- "After every list of days from a fresh tally, refused ones included, it equals the count over the last 60 accepted of that list."
  pub bound_hours_lem : bound ≡ Hours Bound (take 60 accepted)
  pub non_competitive_hours_lem : non ≡ Hours NonComp (take 60 accepted)
  -- "Competitive: [..] Anything less is non-competitive."
  pub competitive : (verdict ≡ 0) ↔ Enough (take 60 accepted)
  pub otherwise : (verdict ≡ 1) ↔ (Enough (take 60 accepted) → ⊥)
  -- "It adds 25 [..] the only check"
  pub zero_told : (d : Day) → (answer d ≡ 0) ↔ Taken accepted d
  pub twenty_five : (d : Day) → (answer d ≡ 25) ↔ (Taken accepted d → ⊥)
  pub only_these : (d : Day) → (answer d ≡ 0) ⊎ (answer d ≡ 25)

-- ---- in the rules' words, and back
fits_told : (l : List Day) (d : Day) → Fits l d ↔ Taken l d
fits_told l d = (
  (λ f. (first l f.above, f.bound_within, f.non_competitive_within, f.non_competitive_bound)),
  λ t. record { above = back l t.0; bound_within = t.1; non_competitive_within = t.2; non_competitive_bound = t.3 },
)
  where
    first : (l : List Day) → Above l d → (x : Day) (rest : List Day) → l ≡ x ∷ rest → x.number < d.number
    first [] a x rest e = absurd (omega (arith, ap length e))
    first (y ∷ l) a x rest e = subst (λ (z : Day). z.number < d.number) (ap (λ (k : List Day). get_or k 0 y) e) a

    back : (l : List Day) → ((x : Day) (rest : List Day) → l ≡ x ∷ rest → x.number < d.number) → Above l d
    back [] h = Prim.tt
    back (y ∷ l) h = h y l refl

accepting_told : (days l k : List Day) → Accepting l days k ↔ Accepted l days k
accepting_told [] l k = ((λ e. e), λ e. e)
accepting_told (d ∷ days) l k =
    let f = fits_told l d in
    let one = accepting_told days (d ∷ l) k in
    let none = accepting_told days l k in (
      ⊎_elim (λ x. inl (f.0 x.0, one.0 x.1)) (λ x. inr ((λ t. x.0 (f.1 t)), none.0 x.1)),
      ⊎_elim (λ x. inl (f.1 x.0, one.1 x.1)) (λ x. inr ((λ t. x.0 (f.0 t)), none.1 x.1)),
    )

hours_are : (f : Day → ℕ → ℕ) (l : List Day) → counted f l ≡ Hours f l
unfolding counted sum_to
hours_are f [] = refl
hours_are f (d ∷ l) = ap (λ (n : ℕ). Sum (f d) 24 + n) (hours_are f l)

enough_told : (l : List Day) → Competes l ↔ Enough l
enough_told l = (
  (λ c. (omega (arith, c.enough, b), omega (arith, c.three_quarters, b, hours_are competitive_hour l))),
  λ c. record { enough = omega (arith, c.0, b); three_quarters = omega (arith, c.1, b, hours_are competitive_hour l) },
)
  where
    b : counted bound_hour l ≡ Hours Bound l
    b = hours_are bound_hour l

-- a verdict is its number
zero_is : (f : Finding) → (Found f ≡ 0) ↔ (f ≡ Competitive)
zero_is Competitive = ((λ e. refl), λ e. refl)
zero_is NonCompetitive = ((λ e. absurd (omega arith)), ap Found)
zero_is NotBinding = ((λ e. absurd (omega arith)), ap Found)

one_is : (f : Finding) → (Found f ≡ 1) ↔ (f ≡ NonCompetitive)
one_is Competitive = ((λ e. absurd (omega arith)), ap Found)
one_is NonCompetitive = ((λ e. refl), λ e. refl)
one_is NotBinding = ((λ e. absurd (omega arith)), ap Found)

said : (days : List Day) (t : Tally) → SixtyDays days t (accepted_of days) → TallySays days (bound_hours t) (non_competitive_hours t) (Found (designation t)) (day_refusal t)
said days t s =
    let l = take 60 (accepted_of days) in
    let enough = enough_told l in record {
      accepted = accepted_of days;
      these = (accepting_told days [] (accepted_of days)).0 s.these;
      no_other = λ k a. accepted_only [] days k (accepted_of days) ((accepting_told days [] k).1 a) s.these;
      bound_hours_lem = s.bound ∙ hours_are bound_hour l;
      non_competitive_hours_lem = s.non_competitive ∙ hours_are non_competitive_hour l;
      competitive = iff_then (zero_is (designation t)) (λ e. enough.0 (s.competitive.0 e)) (λ c. s.competitive.1 (enough.1 c));
      otherwise = iff_then (one_is (designation t)) (λ e c. s.otherwise.0 e (enough.1 c)) (λ n. s.otherwise.1 (λ c. n (enough.0 c)));
      zero_told = λ d. taken (items d) (day_refusal t d) (s.answer d);
      twenty_five = λ d. told (items d) (day_refusal t d) (s.answer d) 25 refl;
      only_these = λ d. ⊎_elim inl (λ x. inr (omega (arith, x.0, x.1))) (only (items d) (day_refusal t d) (s.answer d) 25 25 refl);
    }
  where
    items : Day → List Item
    items d = (25 says fits_told (accepted_of days) d) ∷ []

-- ---- "updated as a record lent for change": by what `update` leaves, one day after another
abbrev pub Updated : Tally → List Day → Tally
Updated t [] = t
Updated t (d ∷ days) = Updated (tally_after t d) days

updated_is : (days : List Day) (t : Tally) → tally_of t days ≡ Updated t days
unfolding tally_of
updated_is [] t = refl
updated_is (d ∷ days) t = updated_is days (tally_after t d)

pub after_days : (days : List Day) → let t = Updated fresh_tally days in TallySays days (bound_hours t) (non_competitive_hours t) (Found (designation t)) (day_refusal t)
after_days days =
    subst (λ (t : Tally). TallySays days (bound_hours t) (non_competitive_hours t) (Found (designation t)) (day_refusal t)) (updated_is days fresh_tally) (said days (tally_of fresh_tally days) (sixty_days days))

-- a refused day leaves the tally as it was
pub day_refused : (t : Tally) (d : Day) → (day_refusal t d ≡ 0 → ⊥) → tally_after t d ≡ t
day_refused t d n = refused_leaves t d (omega (arith, n))

-- ---- the same in 122 numbers that the caller keeps, all 0 at first: noskjerf_day, one day after another, then noskjerf_designation
abbrev pub Called : List ℕ → List Day → List ℕ
Called cells [] = cells
Called cells (d ∷ days) = Called (cells_after cells d) days

called_is : (days : List Day) (cells : List ℕ) → cells_over cells days ≡ Called cells days
unfolding cells_over
called_is [] cells = refl
called_is (d ∷ days) cells = called_is days (cells_after cells d)

found_is : (f : Finding) → finding_number f ≡ Found f
found_is Competitive = refl
found_is NonCompetitive = refl
found_is NotBinding = refl

pub record CallsSay (days : List Day) (cells hours : List ℕ) : Type 0 where
  pub verdict : ℕ
  pub answer : Day → ℕ
  pub verdict_told : designation_answer cells hours ≡ pos verdict
  pub answer_told : (d : Day) → day_answer cells d ≡ pos (answer d)
  pub tally : TallySays days (get_or (hours_after cells hours) 0 0) (get_or (hours_after cells hours) 1 0) verdict answer
  -- the caller's other numbers stay
  pub hours_past : (k : ℕ) → 2 ≤ k → get_or (hours_after cells hours) k 0 ≡ get_or hours k 0

calls_say : (days : List Day) (cells hours : List ℕ) → 122 ≤ length cells → 2 ≤ length hours → SixtyDays days (tally_in cells) (accepted_of days) → CallsSay days cells hours
calls_say days cells hours room two s =
    let t = tally_in cells in
    let w = designation_told cells hours room two in
    let put = bound_hours t ∷ non_competitive_hours t ∷ [] in record {
      verdict = Found (designation t);
      answer = day_refusal t;
      verdict_told = w.0 ∙ ap pos (found_is (designation t));
      answer_told = λ d. day_told cells d room;
      tally = rw (w.1, stored_at 0 hours 0 put two 0 (omega arith), stored_at 0 hours 0 put two 1 (omega arith)) (said days t s);
      hours_past = λ k h. rw w.1 (stored_past 0 hours 0 put k h);
    }

pub after_calls : (days : List Day) (hours : List ℕ) → 2 ≤ length hours → CallsSay days (Called (replicate 122 0) days) hours
after_calls days hours two =
    subst (λ (cells : List ℕ). CallsSay days cells hours) (called_is days (replicate 122 0))
    (calls_say days (cells_over (replicate 122 0) days) hours (omega (arith, calls_room days (replicate 122 0))) two (sixty_days_in_numbers days))

-- where noskjerf_day doesn't answer 0 the numbers are as they were, and those past the 122 always; too few numbers: -1, and nothing is written
pub cells_left : (cells : List ℕ) (d : Day) → (day_answer cells d ≡ pos 0 → ⊥) → cells_after cells d ≡ cells
cells_left cells d n = day_left cells d n

pub cells_past : (cells : List ℕ) (d : Day) (k : ℕ) → 122 ≤ k → get_or (cells_after cells d) k 0 ≡ get_or cells k 0
cells_past cells d k h = day_past cells d k h

pub few_cells : (cells hours : List ℕ) (d : Day) → length cells < 122 → (day_answer cells d ≡ negsuc 0) × (designation_answer cells hours ≡ negsuc 0) × (hours_after cells hours ≡ hours)
few_cells cells hours d h = let k = tally_short cells hours h in (day_short cells d h, k.0, k.1)

pub few_hours : (cells hours : List ℕ) → length hours < 2 → (designation_answer cells hours ≡ negsuc 0) × (hours_after cells hours ≡ hours)
few_hours cells hours h = hours_short cells hours h

-- ---- "An hour's marks are made from its intervals' verdicts on that constraint: bound if any is 0 or 1, non-competitive if any is 1."
abbrev pub AnyOf : List Finding → (ℕ → Type 0) → Type 0
AnyOf l P = (i : ℕ) × (i < length l) × P (Found (get_or l i NotBinding))

any_told : (l : List Finding) (P : ℕ → Type 0) → Has l P ↔ AnyOf l P
any_told l P = (
  (λ x. (x.0, x.1, subst P (found_is (get_or l x.0 NotBinding)) x.2)),
  λ x. (x.0, x.1, subst P (sym (found_is (get_or l x.0 NotBinding))) x.2),
)

module _ (d : Day) (hour : ℕ) (l : List Finding) (h : ℕ) (inside : h < 24) where
  pub hour_bound : (Bound (marked_day d hour l) h ≡ 1) ↔ ((Bound d h ≡ 1) ⊎ ((hour ≡ h) × AnyOf l (λ n. (n ≡ 0) ⊎ (n ≡ 1))))
  unfolding marked_day
  hour_bound =
      let k = any_told l (λ n. (n ≡ 0) ⊎ (n ≡ 1)) in
      mark_exactly h hour d.bound inside (any_bound l) (iff_then (any_binds_exactly l) k.0 k.1)

  pub hour_non_competitive : (NonComp (marked_day d hour l) h ≡ 1) ↔ ((NonComp d h ≡ 1) ⊎ ((hour ≡ h) × AnyOf l (λ n. n ≡ 1)))
  unfolding marked_day
  hour_non_competitive =
      let k = any_told l (λ n. n ≡ 1) in
      mark_exactly h hour d.noncompetitive inside (any_non_competitive l) (iff_then (any_non_competitive_exactly l) k.0 k.1)

  pub number_kept : (marked_day d hour l).number ≡ d.number
  unfolding marked_day
  number_kept = refl

-- ---- the same by noskjerf_mark: the numbers 0 and 1 of a slice, any other number is not binding
abbrev pub AnyNumber : List ℤ → (ℤ → Type 0) → Type 0
AnyNumber l P = (i : ℕ) × (i < length l) × P (get_or l i (pos 2))

zero_by : (z : ℤ) → (Found (finding_by z) ≡ 0) ↔ (z ≡ pos 0)
zero_by (pos zero) = ((λ e. refl), λ e. refl)
zero_by (pos (suc zero)) = ((λ e. absurd (omega arith)), ap (λ (z : ℤ). Found (finding_by z)))
zero_by (pos (suc (suc n))) = ((λ e. absurd (omega arith)), ap (λ (z : ℤ). Found (finding_by z)))
zero_by (negsuc n) = ((λ e. absurd (omega arith)), ap (λ (z : ℤ). Found (finding_by z)))

one_by : (z : ℤ) → (Found (finding_by z) ≡ 1) ↔ (z ≡ pos 1)
one_by (pos zero) = ((λ e. absurd (omega arith)), ap (λ (z : ℤ). Found (finding_by z)))
one_by (pos (suc zero)) = ((λ e. refl), λ e. refl)
one_by (pos (suc (suc n))) = ((λ e. absurd (omega arith)), ap (λ (z : ℤ). Found (finding_by z)))
one_by (negsuc n) = ((λ e. absurd (omega arith)), ap (λ (z : ℤ). Found (finding_by z)))

any_by : (l : List ℤ) (P : ℕ → Type 0) (Q : ℤ → Type 0) → ((z : ℤ) → P (Found (finding_by z)) ↔ Q z) → AnyOf (map finding_by l) P ↔ AnyNumber l Q
any_by l P Q each = (
  (λ x. (x.0, omega (arith, x.1, length-map l finding_by), (each (get_or l x.0 (pos 2))).0 (subst (λ (f : Finding). P (Found f)) (at x.0) x.2))),
  λ x. (x.0, omega (arith, x.1, length-map l finding_by), subst (λ (f : Finding). P (Found f)) (sym (at x.0)) ((each (get_or l x.0 (pos 2))).1 x.2)),
)
  where
    at : (i : ℕ) → get_or (map finding_by l) i NotBinding ≡ finding_by (get_or l i (pos 2))
    at i = get_or-map finding_by l i (pos 2)

module _ (marks : List ℕ) (hour : ℕ) (l : List ℤ) where
  pub record MarksSay (after : List ℕ) : Type 0 where
    pub bound : (h : ℕ) → h < 24 → (Bit h (get_or after 0 0) ≡ 1) ↔ ((Bit h (get_or marks 0 0) ≡ 1) ⊎ ((hour ≡ h) × AnyNumber l (λ z. (z ≡ pos 0) ⊎ (z ≡ pos 1))))
    pub non_competitive : (h : ℕ) → h < 24 → (Bit h (get_or after 1 0) ≡ 1) ↔ ((Bit h (get_or marks 1 0) ≡ 1) ⊎ ((hour ≡ h) × AnyNumber l (λ z. z ≡ pos 1)))
    -- the caller's other numbers stay
    pub past : (k : ℕ) → 2 ≤ k → get_or after k 0 ≡ get_or marks k 0

  abbrev before : Day
  before = record { number = 0; bound = get_or marks 0 0; noncompetitive = get_or marks 1 0 }

  with_hour : {A P Q : Type 0} (h : ℕ) → P ↔ Q → (A ⊎ ((hour ≡ h) × P)) ↔ (A ⊎ ((hour ≡ h) × Q))
  with_hour h e = (⊎_elim inl (λ x. inr (x.0, e.0 x.1)), ⊎_elim inl (λ x. inr (x.0, e.1 x.1)))

  pub marks_say : 2 ≤ length marks → (mark_answer marks ≡ pos 0) × MarksSay (marks_after marks hour l)
  marks_say two =
      let w = mark_told marks hour l two in
      let d = marked_day before hour (map finding_by l) in
      let put = d.bound ∷ d.noncompetitive ∷ [] in (
        w.0,
        rw w.1 record {
          bound = λ h k. rw (stored_at 0 marks 0 put two 0 (omega arith)) (and_so (hour_bound before hour (map finding_by l) h k) (with_hour h (any_by l (λ n. (n ≡ 0) ⊎ (n ≡ 1)) (λ z. (z ≡ pos 0) ⊎ (z ≡ pos 1)) either)));
          non_competitive = λ h k. rw (stored_at 0 marks 0 put two 1 (omega arith)) (and_so (hour_non_competitive before hour (map finding_by l) h k) (with_hour h (any_by l (λ n. n ≡ 1) (λ z. z ≡ pos 1) one_by)));
          past = λ k h. stored_past 0 marks 0 put k h;
        },
      )
    where
      either : (z : ℤ) → ((Found (finding_by z) ≡ 0) ⊎ (Found (finding_by z) ≡ 1)) ↔ ((z ≡ pos 0) ⊎ (z ≡ pos 1))
      either z = (⊎_elim (λ e. inl ((zero_by z).0 e)) (λ e. inr ((one_by z).0 e)), ⊎_elim (λ e. inl ((zero_by z).1 e)) (λ e. inr ((one_by z).1 e)))

  pub few_marks : length marks < 2 → (mark_answer marks ≡ negsuc 0) × (marks_after marks hour l ≡ marks)
  few_marks h = mark_short marks hour l h
