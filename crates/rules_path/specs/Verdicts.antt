-- The verdict on one constraint, and the constraint as the code holds it (paper 01, Path verdict; Text; Limits).
use Rattle.std.specs.Prelude.{Bool, cond, List, ℕ, ◌+◌, ◌*◌, ◌/◌, ◌%◌, ◌^◌, eqb, ℤ, pos, get_or, replicate}
use Rattle.rules_number.specs.Order.{nat_of}
use Rattle.rules_number.specs.Over.{listed}
use Rattle.rules_path.specs.Paths.{Path, binds, demand, amount_of, sellers, named, left, is_non_competitive}
use Rattle.rules_path.specs.declared.Verdict.{Verdict}
use Rattle.rules_path.specs.declared.Finding.{Finding}
use Rattle.rules_path.specs.declared.Finding.TheVariants.{Competitive, NonCompetitive, NotBinding}

-- the paper's number of each finding
abbrev pub finding_number : Finding → ℕ
finding_number Competitive = 0
finding_number NonCompetitive = 1
finding_number NotBinding = 2

-- not binding: then 0 0 and no sellers
abbrev pub not_binding : Verdict
not_binding = record { finding = NotBinding; demand = 0; left = 0; named = 0; withheld = replicate 16 0 }

-- the verdict; withheld is what each seller named can withhold, and 0 of a portfolio that isn't named
unfoldable pub verdict_of : Path → Verdict
verdict_of d =
    cond (binds d)
    (record {
      finding = cond (is_non_competitive d) NonCompetitive Competitive;
      demand = demand d;
      left = left d;
      named = named d;
      withheld = listed (λ p. amount_of p (sellers d)) 16;
    })
    not_binding

-- bit p of a number
abbrev pub bit : ℕ → ℕ → ℕ
bit p m = m / 2 ^ p % 2

-- whether a verdict names portfolio p
unfoldable pub is_named : Verdict → ℕ → Bool
is_named v p = eqb (bit p v.named) 1

-- ---- a constraint as the code holds it
-- constraint c of 32: the factor of resource r on it stands at r * 32 + c; there are always 16 portfolios, those never declared being net buyers
abbrev pub path_of : ℤ → List ℤ → List ℤ → List ℤ → List ℤ → List ℕ → List ℕ → ℕ → ℕ → Path
path_of shadow factors dispatch available floor portfolio sellers resources c = record {
  shadow = shadow;
  resources = resources;
  factor = λ r. get_or factors (r * 32 + c) (pos 0);
  dispatch = λ r. nat_of (get_or dispatch r (pos 0));
  available = λ r. nat_of (get_or available r (pos 0));
  floor = λ r. nat_of (get_or floor r (pos 0));
  portfolio = λ r. get_or portfolio r 0;
  portfolios = 16;
  seller = λ p. get_or sellers p 0;
}
