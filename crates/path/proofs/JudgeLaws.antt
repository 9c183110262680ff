-- From the tally and the three largest offers to the verdict in cells. Assumes nothing.
use mathlib.Core.Bool.{Bool, true, false, cond}
use mathlib.Core.List.{List, ◌∷◌, map}
use mathlib.Core.Logic.{◌⊎◌, inl, inr}
use mathlib.Core.Path.{◌≡◌, refl, sym, ap, ◌∙◌}
use Prim.Native.Nat.{ℕ, ◌-◌, ◌≤◌, ◌<◌}
use native.Mathlib.Nat.{le_refl, le_trans, le_of_eq, eq-zero-or-pos}
use native.Mathlib.Omega.{arith}
use lib.Dec.{ltb, eqb}
use lib.IntN.{ℤ, pos}
use lib.ListN.{length, get_or-replicate, length-map}
use Rattle.rules_number.specs.Over.{listed}
use Rattle.rules_number.proofs.OverLaws.{listed_length, listed_same}
use Rattle.path.specs.declared.constraint.Top.{Top}
use Rattle.rules_path.specs.Paths.{Path, binds, demand, supply, withholdable, share, offer, offers, at, top, sellers, named, left, is_non_competitive, Withheld, amount_of}
use Rattle.rules_path.specs.Verdicts.{finding_number, verdict_of, not_binding}
use Rattle.rules_path.specs.declared.Finding.TheVariants as finding
use Rattle.rules_path.proofs.PathLaws.{seller_of_offer, withheld_le_supply, sellers_possible}
use Rattle.rules_path.proofs.TopLaws.{mask_bound}
use Rattle.rules_state.specs.Intervals.{outputs_in}
use Rattle.rules_state.specs.States.{cell_of}
use Rattle.rules_state.specs.Verdicts.{verdict_cells}
use Rattle.path.specs.Tallies.{Tallied, sold_of, tally_of, top_of, withheld_cells, SoundOver, Sold, Held, Within}
use Rattle.path.proofs.SellerLaws.{within}
use Rattle.path.proofs.TallyLaws.{Added, demand_room, supply_room, withholdable_le}

pub withheld_length : (l : List Withheld) → length (withheld_cells l) ≡ 16
withheld_length l = simp length-map (listed_length (λ p. amount_of p l) 16)

number_of : (b : Bool) → cond b 1 0 ≡ finding_number (cond b finding.NonCompetitive finding.Competitive)
number_of true = refl
number_of false = refl

-- a constraint that doesn't bind
pub not_bound : (d : Path) → binds d ≡ false → verdict_cells not_binding ≡ verdict_cells (verdict_of d)
unfolding verdict_of
not_bound d e = rw e

module _ (shadow : ℤ) (by : List ℕ) (factors outputs : List ℤ) (resources c : ℕ) (sound : SoundOver factors outputs resources c) where
  -- the constraint, and the same as the tally has it
  abbrev judged : Path
  judged = sold_of shadow by factors outputs resources c

  abbrev tallied : Path
  tallied = sold_of (pos 0) by factors outputs resources c

  module _ (t : Tallied) (t-is : t ≡ tally_of tallied) where
    pub offers_are : t.offers ≡ offers judged
    unfolding offers offer withholdable share
    offers_are =
        ap (λ (x : Tallied). x.offers) t-is
        ∙ listed_same _ _ 16 (λ p h. ap (λ (x : ℕ). cond (eqb x 1) (withholdable tallied p) 0) (sym (get_or-replicate {A = ℕ} 16 p 1 0 h)))

    -- no offer is above what 64 resources can withhold
    pub offers_held : Held t.offers
    unfolding withholdable share
    offers_held p = rw offers_are (go (eq-zero-or-pos (at (offers judged) p)))
      where
        go : (at (offers judged) p ≡ 0) ⊎ (0 < at (offers judged) p) → at (offers judged) p ≤ 64000000000000
        go (inl e) = omega arith
        go (inr l) =
            le_trans (seller_of_offer judged p l).1
            (le_trans (withholdable_le factors (outputs_in outputs 1) (outputs_in outputs 2) (outputs_in outputs 3) by c resources sound resources p (le_refl resources)) (omega (arith, sound.few)))

    pub offers_within : (ports : ℕ) → Sold by resources ports → Within t.offers ports
    offers_within ports h = rw t-is (within factors (outputs_in outputs 1) (outputs_in outputs 2) (outputs_in outputs 3) by resources c ports h)

    added : Added factors (outputs_in outputs 1) (outputs_in outputs 2) (outputs_in outputs 3) by c resources t.demand t.supply t.offers
    added = rw t-is (record { demand_is = refl; supply_is = refl; withholdable_is = refl })

    pub demand_few : t.demand ≤ 64000000000000
    demand_few = omega (arith, sound.few, demand_room factors (outputs_in outputs 1) (outputs_in outputs 2) (outputs_in outputs 3) by c resources sound resources t.demand t.supply t.offers (le_refl resources) added)

    pub supply_few : t.supply ≤ 64000000000000
    supply_few = omega (arith, sound.few, supply_room factors (outputs_in outputs 1) (outputs_in outputs 2) (outputs_in outputs 3) by c resources sound resources t.demand t.supply t.offers (le_refl resources) added)

    module _ (r : Top) (r-is : r ≡ top_of (top 3 t.offers 16)) where
      sellers_are : r ≡ top_of (sellers judged)
      unfolding sellers
      sellers_are = r-is ∙ ap (λ (x : List ℕ). top_of (top 3 x 16)) offers_are

      -- no more is withheld than is supplied
      pub total_fits : r.total ≤ t.supply
      unfolding supply
      total_fits =
          le_trans (le_of_eq (ap (λ (x : Top). x.total) sellers_are))
          (le_trans (withheld_le_supply judged (sellers judged) (sellers_possible judged)) (le_of_eq (sym (ap (λ (x : Tallied). x.supply) t-is))))

      pub named_few : r.named ≤ 98304
      named_few = rw r-is (mask_bound 3 t.offers)

      small : (n : ℕ) → n ≤ 64000000000000 → pos n ≡ cell_of n
      small n h = ap pos (omega arith)

      pub judgement : binds judged ≡ true → (b : Bool) → ltb (t.supply - r.total) t.demand ≡ b
          → pos (cond b 1 0) ∷ pos t.demand ∷ pos (t.supply - r.total) ∷ pos r.named ∷ withheld_cells (top 3 t.offers 16) ≡ verdict_cells (verdict_of judged)
      unfolding verdict_cells verdict_of is_non_competitive left named sellers demand supply
      judgement bound b e =
          rw (small t.demand demand_few, small (t.supply - r.total) (omega (arith, supply_few)), small r.named (omega (arith, named_few)), sym e)
          (rw (r-is, offers_are, t-is, bound)
          (ap (λ (n : ℕ). pos n ∷ cell_of (demand judged) ∷ cell_of (left judged) ∷ cell_of (named judged) ∷ map cell_of (listed (λ p. amount_of p (sellers judged)) 16))
          (number_of (ltb (left judged) (demand judged)))))
