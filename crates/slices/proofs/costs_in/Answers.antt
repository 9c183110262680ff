-- `slices::costs_in` meets its contract. Assumes nothing.
use Rattle.std.proofs.Common.{◌≡◌, ℕ, List, ℤ, ◌∙◌}
use Rattle.rules_number.proofs.Kit.{came}
use Rattle.rules_cost.specs.declared.Point.{Point}
use Rattle.rules_cost.specs.declared.Costs.{Costs}
use Rattle.rules_library.specs.Slices.{costs_in}
use Rattle.slices.proofs.costs_in.Goals as goal

by_cells : {n : ℕ} {l l' : List Point} {g g' r r' a a' o o' m m' s s' f f' : ℤ} → l ≡ l' → g ≡ g' → r ≡ r' → a ≡ a' → o ≡ o' → m ≡ m' → s ≡ s' → f ≡ f'
    → ◌≡◌ {A = Costs} (record { count = n; points = l; gas = g; rate = r; allowance = a; om = o; msc = m; soc = s; fee = f })
    (record { count = n; points = l'; gas = g'; rate = r'; allowance = a'; om = o'; msc = m'; soc = s'; fee = f' })
by_cells p q t u v w x y = cc

pub returns : goal.returns
unfolding costs_in
returns c =
    by_cells c.points_in.ensures (came c.cell_at.result c.cell_at.type_inv ∙ c.cell_at.ensures) (came c.cell_at-2.result c.cell_at-2.type_inv ∙ c.cell_at-2.ensures)
    (came c.cell_at-3.result c.cell_at-3.type_inv ∙ c.cell_at-3.ensures) (came c.cell_at-4.result c.cell_at-4.type_inv ∙ c.cell_at-4.ensures)
    (came c.cell_at-5.result c.cell_at-5.type_inv ∙ c.cell_at-5.ensures) (came c.cell_at-6.result c.cell_at-6.type_inv ∙ c.cell_at-6.ensures)
    (came c.cell_at-7.result c.cell_at-7.type_inv ∙ c.cell_at-7.ensures)
