-- `path::constraint::judge_into`: the cells hold the verdict of the tally. Assumes nothing.
use Rattle.std.proofs.Common.{◌≡◌, ℕ, ◌+◌, ◌-◌, ◌*◌, ◌≤◌, ◌<◌, List, ◌∷◌, length, set, ap, ◌∙◌, Bool, true, false, cond, arith, pos, to_z, w64}
use Rattle.std.specs.Prelude.{ℤ}
use Rattle.std.proofs.lemmas.List.Edits.{sets}
use borrow.Author.Tests.{lt-ltb, le-ltb}
use lib.Dec.{ltb}
use mir.Facts.{to_z_pos}
use Rattle.rules_number.proofs.Kit.{came}
use Rattle.rules_number.proofs.TestLaws.{above, not_above}
use Rattle.rules_path.specs.Paths.{Path, binds, top}
use Rattle.rules_path.specs.Verdicts.{verdict_of}
use Rattle.rules_library.specs.Slices.{cell_at}
use Rattle.rules_state.specs.Verdicts.{verdict_cells}
use Rattle.interval.specs.declared.LentInterval.{LentInterval}
use Rattle.path.specs.Tallies.{Tallied, tallied, sold_of, sold_in, withheld_cells}
use Rattle.path.specs.declared.constraint.Top.{Top}
use Rattle.path.proofs.CellLaws.{cleared, clear, not_binding_lem, found_none, found_one, filled}
use Rattle.path.proofs.JudgeLaws.{withheld_length, not_bound, offers_held, offers_within, demand_few, supply_few, total_fits, named_few, judgement}
use Rattle.path.proofs.constraint.judge_into.Goals as goal
use Rattle.path.proofs.constraint.judge_into.Goals.{After-put_sellers-top, then-left-tally, else-left-tally}

-- the price is the one that is read
at-price : (v : LentInterval) (by : List ℕ) (k : ℕ) (price : ℤ) → price ≡ cell_at v.shadow.now k → (before : List ℤ)
    → sets before (20 * k) (verdict_cells (verdict_of (sold_of price by v.factors.now v.outputs.now v.resources k))) ≡ sets before (20 * k) (verdict_cells (verdict_of (sold_in v by k)))
at-price v by k price e before = rw e

module _ (c : After-put_sellers-top) where
  abbrev tally : Tallied
  tally = tallied c.tally_of-tally.result c.tally_of-tally.new.offers

  abbrev judged : Path
  judged = sold_of c.cell_at-shadow.result c.args.sellers.now c.args.asked.now.factors.now c.args.asked.now.outputs.now c.args.asked.now.resources c.args.c

  abbrev most : Top
  most = c.put_sellers-top.result

  wanted : tally.demand ≤ 64000000000000
  wanted = demand_few c.cell_at-shadow.result c.args.sellers.now c.args.asked.now.factors.now c.args.asked.now.outputs.now c.args.asked.now.resources c.args.c c.requires.0 tally c.tally_of-tally.ensures

  supplied : tally.supply ≤ 64000000000000
  supplied = supply_few c.cell_at-shadow.result c.args.sellers.now c.args.asked.now.factors.now c.args.asked.now.outputs.now c.args.asked.now.resources c.args.c c.requires.0 tally c.tally_of-tally.ensures

  bound : binds judged ≡ true
  bound = above c.cell_at-shadow.result (rw (came c.cell_at-shadow.result c.cell_at-shadow.type_inv) at c.if-shadow-le0.false)

  total-few : most.total ≤ tally.supply
  total-few = total_fits c.cell_at-shadow.result c.args.sellers.now c.args.asked.now.factors.now c.args.asked.now.outputs.now c.args.asked.now.resources c.args.c c.requires.0 tally c.tally_of-tally.ensures most c.put_sellers-top.ensures.top

  named-small : most.named ≤ 98304
  named-small = named_few c.cell_at-shadow.result c.args.sellers.now c.args.asked.now.factors.now c.args.asked.now.outputs.now c.args.asked.now.resources c.args.c c.requires.0 tally c.tally_of-tally.ensures most c.put_sellers-top.ensures.top

  -- the verdict, by whether left is below demand
  cells : (b : Bool) → ltb (tally.supply - most.total) tally.demand ≡ b
      → pos (cond b 1 0) ∷ pos tally.demand ∷ pos (tally.supply - most.total) ∷ pos most.named ∷ withheld_cells (top 3 tally.offers 16) ≡ verdict_cells (verdict_of judged)
  cells b e = judgement c.cell_at-shadow.result c.args.sellers.now c.args.asked.now.factors.now c.args.asked.now.outputs.now c.args.asked.now.resources c.args.c c.requires.0 tally c.tally_of-tally.ensures most c.put_sellers-top.ensures.top bound b e

  abbrev before : List ℤ
  before = c.args.verdicts.now

  abbrev at : ℕ
  at = 20 * c.args.c

  -- what stands there, but for the first four
  held : c.put_sellers-top.new.verdicts ≡ sets (cleared before at) (at + 4) (withheld_cells (top 3 tally.offers 16))
  held = c.put_sellers-top.ensures.cells ∙ ap (λ (o : List ℤ). sets o (at + 4) (withheld_cells (top 3 tally.offers 16))) c.put_none.ensures

  -- the first four are set: the finding, by whether left is below demand, and the others
  all : (b : Bool) (out : List ℤ) → out ≡ sets before at (pos (cond b 1 0) ∷ pos 0 ∷ pos 0 ∷ pos 0 ∷ withheld_cells (top 3 tally.offers 16))
      → ltb (tally.supply - most.total) tally.demand ≡ b
      → set (set (set out (at + 1) (to_z w64 tally.demand)) (at + 2) (to_z w64 (tally.supply - most.total))) (at + 3) (to_z w64 most.named)
      ≡ sets before at (verdict_cells (verdict_of judged))
  all b out e f =
      let d : to_z w64 tally.demand ≡ pos tally.demand = to_z_pos w64 {n = tally.demand} (omega (arith, wanted)) in
      let l : to_z w64 (tally.supply - most.total) ≡ pos (tally.supply - most.total) = to_z_pos w64 {n = tally.supply - most.total} (omega (arith, supplied)) in
      let n : to_z w64 most.named ≡ pos most.named = to_z_pos w64 {n = most.named} (omega (arith, named-small)) in
      rw (d, l, n)
      (filled before at (pos (cond b 1 0)) (pos tally.demand) (pos (tally.supply - most.total)) (pos most.named) (withheld_cells (top 3 tally.offers 16)) out e
      ∙ ap (sets before at) (cells b f))

  sixteen : length (withheld_cells (top 3 tally.offers 16)) ≡ 16
  sixteen = withheld_length (top 3 tally.offers 16)

  all-found : (out : List ℤ) → out ≡ set c.put_sellers-top.new.verdicts at (pos 1) → tally.supply - most.total < tally.demand
      → set (set (set out (at + 1) (to_z w64 tally.demand)) (at + 2) (to_z w64 (tally.supply - most.total))) (at + 3) (to_z w64 most.named)
      ≡ sets before at (verdict_cells (verdict_of judged))
  all-found out e f = all true out (e ∙ found_one before at (withheld_cells (top 3 tally.offers 16)) c.put_sellers-top.new.verdicts sixteen held) (lt-ltb _ _ f)

  all-else : (out : List ℤ) → out ≡ c.put_sellers-top.new.verdicts → tally.demand ≤ tally.supply - most.total
      → set (set (set out (at + 1) (to_z w64 tally.demand)) (at + 2) (to_z w64 (tally.supply - most.total))) (at + 3) (to_z w64 most.named)
      ≡ sets before at (verdict_cells (verdict_of judged))
  all-else out e f = all false out (e ∙ found_none before at (withheld_cells (top 3 tally.offers 16)) c.put_sellers-top.new.verdicts sixteen held) (le-ltb _ _ f)

pub returns-then-shadow-le0 : goal.returns-then-shadow-le0
returns-then-shadow-le0 c =
    let z = not_above c.cell_at-shadow.result (rw (came c.cell_at-shadow.result c.cell_at-shadow.type_inv) at c.if-shadow-le0.true) in
    ap (λ (o : List ℤ). set o (20 * c.args.c) (pos 2)) c.put_none.ensures ∙ not_binding_lem c.args.verdicts.now (20 * c.args.c)
    ∙ ap (sets c.args.verdicts.now (20 * c.args.c)) (not_bound (sold_of c.cell_at-shadow.result c.args.sellers.now c.args.asked.now.factors.now c.args.asked.now.outputs.now c.args.asked.now.resources c.args.c) z)
    ∙ at-price c.args.asked.now c.args.sellers.now c.args.c c.cell_at-shadow.result c.cell_at-shadow.ensures c.args.verdicts.now

pub put_sellers-top-requires : goal.put_sellers-top-requires
put_sellers-top-requires c =
    let a = c.args in
    let t = tallied c.tally_of-tally.result c.tally_of-tally.new.offers in (
      offers_held c.cell_at-shadow.result a.sellers.now a.asked.now.factors.now a.asked.now.outputs.now a.asked.now.resources a.c c.requires.0 t c.tally_of-tally.ensures,
      offers_within c.cell_at-shadow.result a.sellers.now a.asked.now.factors.now a.asked.now.outputs.now a.asked.now.resources a.c c.requires.0 t c.tally_of-tally.ensures a.ports c.requires.1,
      rw c.put_none.ensures (clear a.verdicts.now (20 * a.c)),
      omega (arith, c.requires.0.column),
    )

pub overflow_sub-left : goal.overflow_sub-left
overflow_sub-left c = total-few (goal.at.overflow_sub-left c).After-put_sellers-top

pub overflow_cast-verdicts : goal.overflow_cast-verdicts
overflow_cast-verdicts c = record { sfits = omega (arith, wanted (goal.at.overflow_cast-verdicts c).After-put_sellers-top) }

pub overflow_cast-verdicts-2 : goal.overflow_cast-verdicts-2
overflow_cast-verdicts-2 c = record { sfits = omega (arith, supplied (goal.at.overflow_cast-verdicts-2 c).After-put_sellers-top) }

pub overflow_cast-verdicts-3 : goal.overflow_cast-verdicts-3
overflow_cast-verdicts-3 c = record { sfits = omega (arith, named-small (goal.at.overflow_cast-verdicts-3 c).After-put_sellers-top) }

pub returns : goal.returns
returns c =
    let p = (goal.at.returns c).After-put_sellers-top in
    let price = at-price c.args.asked.now c.args.sellers.now c.args.c c.cell_at-shadow.result c.cell_at-shadow.ensures c.args.verdicts.now in
    elim c.if-left-tally.branch [
      | then-left-tally w ↦ all-found p c.if-left-tally.verdicts w.verdicts-is w.if-left-tally.true ∙ price
      | else-left-tally w ↦ all-else p c.if-left-tally.verdicts w.verdicts-is w.if-left-tally.false ∙ price
    ]
