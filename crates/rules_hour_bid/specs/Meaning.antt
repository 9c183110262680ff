-- What the bid for the hour is, from the opening and the calls (paper 02, 2.2).
use Rattle.std.specs.Prelude.{List, [], ◌∷◌, ◌++◌, ◌≡◌, ℕ, zero, suc, ℤ}
use Rattle.rules_number.specs.Least.{IsLeast}
use Rattle.rules_curve.specs.declared.Step.{Step}
use Rattle.rules_opening.specs.declared.Opening.{Opening}
use Rattle.rules_hour.specs.Hours.{hour_refusal}
use Rattle.rules_hour.specs.Demand3.{OverBid}
use Rattle.rules_pass.specs.Calls.{Request, interval, pass, hour_of}
use Rattle.rules_pass.specs.FiveMinute.{price_after}

-- ---- "the four intervals' curves": those right after each accepted interval
-- a list of calls joins the others where its last call, an interval, returns 0
abbrev pub joining : ℕ → List Request → List (List Request) → List (List Request)
joining zero l rest = l ∷ rest
joining (suc n) l rest = rest

-- after the calls `before`, the lists that end with each accepted interval
unfoldable pub prefixes_from : Opening → List Request → List Request → List (List Request)
prefixes_from o before [] = []
prefixes_from o before (interval v ∷ calls) =
    joining (hour_refusal (hour_of o before).hour v) (before ++ (interval v ∷ [])) (prefixes_from o (before ++ (interval v ∷ [])) calls)
prefixes_from o before (pass v ∷ calls) = prefixes_from o (before ++ (pass v ∷ [])) calls

abbrev pub accepted_prefixes : Opening → List Request → List (List Request)
accepted_prefixes o calls = prefixes_from o [] calls

-- x is "the lowest of the four intervals' curves" at quantity q
abbrev pub Lowest : Opening → ℕ → List Request → List Request → List Request → List Request → ℕ → ℤ → Type 0
Lowest o r first second third fourth q x = IsLeast (price_after o first r q) (price_after o second r q ∷ price_after o third r q ∷ price_after o fourth r q ∷ []) x

-- the steps l, from p on, are the bid for the hour of resource r: they start and end with its bid, "neighbours with one price merged"
pub record IsHourBid (o : Opening) (calls : List Request) (r p : ℕ) (l : List Step) : Type 0 where
  pub first : List Request
  pub second : List Request
  pub third : List Request
  pub fourth : List Request
  pub four : accepted_prefixes o calls ≡ first ∷ second ∷ third ∷ fourth ∷ []
  pub lowest : OverBid o r (Lowest o r first second third fourth) p l
