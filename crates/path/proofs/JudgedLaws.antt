-- Verdicts are put one after the other. Assumes nothing.
use mathlib.Core.Bool.{Bool, true, false, cond}
use mathlib.Core.List.{List, map}
use mathlib.Core.Path.{◌≡◌, refl, sym, ap, ap₂, ◌∙◌}
use Prim.Native.Nat.{ℕ, ◌+◌, ◌*◌, ◌≤◌, ◌<◌}
use native.Mathlib.Omega.{arith}
use lib.IntN.{ℤ}
use lib.ListN.{length, get_or, length-map}
use lib.Seq.{sets}
use Rattle.rules_number.specs.Over.{listed}
use Rattle.rules_number.proofs.OverLaws.{listed_length, listed_at}
use Rattle.rules_path.specs.Paths.{Path, binds, demand, left, named, sellers, amount_of, is_non_competitive}
use Rattle.rules_path.specs.Verdicts.{verdict_of, not_binding}
use Rattle.rules_path.specs.declared.Finding.TheVariants.{Competitive, NonCompetitive}
use Rattle.rules_state.specs.States.{cell_of}
use Rattle.rules_path.specs.declared.Verdict.{Verdict}
use Rattle.rules_state.specs.Layout.{verdict_width}
use Rattle.rules_state.specs.Verdicts.{verdict_cells, verdicts_cells}
use Rattle.cells.proofs.PutLaws.{BlocksLeft, blocks_begin, blocks_go_on, blocks_end}

-- a verdict is twenty cells
pub verdict_length : (d : Path) → length (verdict_cells (verdict_of d)) ≡ verdict_width
unfolding verdict_of verdict_cells
verdict_length d = go (binds d)
  where
    go : (b : Bool) → length (verdict_cells (cond b (record { finding = cond (is_non_competitive d) NonCompetitive Competitive; demand = demand d; left = left d; named = named d; withheld = listed (λ p. amount_of p (sellers d)) 16 }) not_binding)) ≡ verdict_width
    go true = let n : length (map cell_of (listed (λ p. amount_of p (sellers d)) 16)) ≡ 16 = simp length-map (listed_length (λ p. amount_of p (sellers d)) 16) in omega arith
    go false = refl

-- a loop that puts the verdict on each of n constraints: what is left, put where the loop stands, gives the whole
module _ (f : ℕ → Verdict) (n : ℕ) (before : List ℤ) where
  abbrev pub Puts : List ℤ → ℕ → Type 0
  Puts out c = BlocksLeft verdict_cells verdict_width (listed f n) before 0 out c

  pub puts_begin : Puts before 0
  puts_begin = blocks_begin verdict_cells verdict_width (listed f n) before 0

  pub puts_go_on : (out : List ℤ) (c : ℕ) (next : List ℤ) (x : Verdict) → Puts out c → c < n → x ≡ f c → length (verdict_cells x) ≡ verdict_width
      → next ≡ sets out (verdict_width * c) (verdict_cells x) → Puts next (c + 1)
  puts_go_on out c next x e h x-is k q =
      let is : get_or (listed f n) c not_binding ≡ x = listed_at f not_binding n c h ∙ sym x-is in
      let z : verdict_width * c ≡ 0 + verdict_width * c = omega arith in
      blocks_go_on verdict_cells verdict_width (listed f n) before 0 not_binding out c next e (omega (arith, listed_length f n))
      (ap (λ (v : Verdict). length (verdict_cells v)) is ∙ k) (q ∙ ap₂ (λ (j : ℕ) (v : Verdict). sets out j (verdict_cells v)) z (sym is))

  pub puts_end : (out : List ℤ) (c : ℕ) → Puts out c → n ≤ c → out ≡ sets before 0 (verdicts_cells (listed f n))
  unfolding verdicts_cells
  puts_end out c e h = blocks_end verdict_cells verdict_width (listed f n) before 0 out c e (omega (arith, listed_length f n))
