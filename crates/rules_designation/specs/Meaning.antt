-- The tally in the request's words: everything here is made from a list of days alone. No definition of the engine is cited but a bit of a number and a verdict's number.
use Rattle.std.specs.Prelude.{List, [], ◌∷◌, ◌⊎◌, ◌≡◌, ℕ, ◌+◌, ◌-◌, ◌*◌, ◌≤◌, ◌<◌, length, get_or}
use Rattle.rules_number.specs.Over.{sum_to}
use Rattle.rules_path.specs.Verdicts.{bit, finding_number}
use Rattle.rules_path.specs.declared.Finding.{Finding}
use Rattle.rules_path.specs.declared.Finding.TheVariants.{NotBinding}
use Rattle.rules_designation.specs.Marks.{Seen}
use Rattle.rules_designation.specs.declared.Day.{Day}

-- ---- days
-- "a day number [..] above the last accepted one": the last accepted one stands first, if there is one
abbrev pub Above : List Day → Day → Type 0
Above [] d = Unit {0}
Above (x ∷ l) d = x.number < d.number

-- what 25 asks of a day after the accepted days l, the newest first
pub record Fits (l : List Day) (d : Day) : Type 0 where
  -- "a day number not above the last accepted one"
  pub above : Above l d
  -- "a mark past the 24 hours"
  pub bound_within : (h : ℕ) → 24 ≤ h → bit h d.bound ≡ 0
  pub non_competitive_within : (h : ℕ) → 24 ≤ h → bit h d.noncompetitive ≡ 0
  -- "a non-competitive hour not bound"
  pub non_competitive_bound : (h : ℕ) → bit h d.noncompetitive ≡ 1 → bit h d.bound ≡ 1

-- after the accepted days l and then the days of a list, refused ones included, the accepted days are k
abbrev pub Accepting : List Day → List Day → List Day → Type 0
Accepting l [] k = k ≡ l
Accepting l (d ∷ days) k = (Fits l d × Accepting (d ∷ l) days k) ⊎ ((Fits l d → ⊥) × Accepting l days k)

-- ---- hours: counted one by one
-- f of each hour of each day of a list
unfoldable pub counted : (Day → ℕ → ℕ) → List Day → ℕ
counted f [] = 0
counted f (d ∷ l) = sum_to (f d) 24 + counted f l

-- 1 for an hour that is bound, for one that is non-competitive, and for a bound one that isn't
abbrev pub bound_hour : Day → ℕ → ℕ
bound_hour d h = bit h d.bound

abbrev pub non_competitive_hour : Day → ℕ → ℕ
non_competitive_hour d h = bit h d.noncompetitive

abbrev pub competitive_hour : Day → ℕ → ℕ
competitive_hour d h = bound_hour d h * (1 - non_competitive_hour d h)

-- "Competitive: at least 10 bound hours, and 4 × the competitive bound hours at least 3 × the bound hours."
pub record Competes (l : List Day) : Type 0 where
  pub enough : 10 ≤ counted bound_hour l
  pub three_quarters : 3 * counted bound_hour l ≤ 4 * counted competitive_hour l

-- ---- an hour's marks
-- one of a list of verdicts has a number
abbrev pub Has : List Finding → (ℕ → Type 0) → Type 0
Has l P = (i : ℕ) × (i < length l) × P (finding_number (get_or l i NotBinding))

-- "bound if any is 0 or 1"; "non-competitive if any is 1"
abbrev pub AnyBinds : List Finding → Type 0
AnyBinds l = Has l (λ n. (n ≡ 0) ⊎ (n ≡ 1))

abbrev pub AnyNonCompetitive : List Finding → Type 0
AnyNonCompetitive l = Has l (λ n. n ≡ 1)

-- some of those seen
abbrev pub Some : (Seen → Type 0) → List Seen → Type 0
Some P [] = ⊥
Some P (x ∷ l) = P x ⊎ Some P l

-- verdicts of hour h are among those seen, and one of them is such
abbrev pub SeenIn : ℕ → (List Finding → Type 0) → List Seen → Type 0
SeenIn h P l = Some (λ x. (x.hour ≡ h) × P x.verdicts) l

-- verdicts of an hour past the 24 are, and one of them is 0 or 1
abbrev pub BindsPast : List Seen → Type 0
BindsPast l = Some (λ x. (24 ≤ x.hour) × AnyBinds x.verdicts) l
