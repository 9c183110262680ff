-- The market of an accepted opening judges each constraint as the opening's own numbers do: portfolios that are not declared are net buyers. Assumes nothing.
use mathlib.Core.Bool.{cond}
use mathlib.Core.List.{List}
use mathlib.Core.Logic.{◌↔◌, ⊎_elim}
use mathlib.Core.Path.{◌≡◌, refl, sym, ap, ap₂, ◌∙◌}
use Prim.Native.Nat.{ℕ, ◌-◌, ◌*◌, ◌≤◌, ◌<◌}
use native.Mathlib.Nat.{le_trans, le_of_eq}
use lib.Dec.{eqb}
use lib.ListN.{get_or, get_or-eq_default}
use Rattle.rules_number.specs.Order.{nat_of}
use Rattle.rules_number.specs.Over.{listed}
use Rattle.rules_number.proofs.OverLaws.{le_or_lt, sum_same, listed_at, listed_length}
use Rattle.rules_number.proofs.CellLaws.{cell_listed, cell_past}
use Rattle.rules_interval.specs.Intervals.{available_at, floor_at, factor_at}
use Rattle.rules_interval.specs.declared.Interval.{Interval}
use Rattle.rules_path.specs.Paths.{Path, effectiveness, at, demand, supply, share, withholdable, offer, offers, total, mask, amount_of, sellers, named, left, is_non_competitive, Withheld, NonCompetitive}
use Rattle.rules_path.specs.Verdicts.{verdict_of}
use Rattle.rules_path.specs.Judgements.{path_in}
use Rattle.rules_path.proofs.PathLaws.{non_competitive}
use Rattle.rules_opening.specs.Openings.{resource_at, seller_at, opening_refusal, market_of}
use Rattle.rules_opening.specs.declared.Opening.{Opening}
use Rattle.rules_hour.specs.Demand3.{path_from}
use Rattle.rules_hour.proofs.AcceptedOpening.{few}
use Rattle.rules_hour.proofs.TopPadding.{top_padded}

-- ---- the market of an opening
module _ (o : Opening) where
  -- a resource's portfolio, a declared portfolio's mark, and any other's
  pub market_portfolio : (r : ℕ) → r < o.resources → get_or (market_of o).portfolio r 0 ≡ nat_of (resource_at o r).portfolio
  unfolding market_of
  market_portfolio r h = cell_listed 64 0 0 (λ i. nat_of (resource_at o i).portfolio) o.resources r h

  pub market_seller : (p : ℕ) → p < o.portfolios → get_or (market_of o).seller p 0 ≡ nat_of (seller_at o p)
  unfolding market_of
  market_seller p h = cell_listed 16 0 0 (λ i. nat_of (seller_at o i)) o.portfolios p h

  pub market_buyer : (p : ℕ) → o.portfolios ≤ p → get_or (market_of o).seller p 0 ≡ 0
  unfolding market_of
  market_buyer p h =
      cell_past 16 0 (listed (λ i. nat_of (seller_at o i)) o.portfolios) p (le_trans (le_of_eq (listed_length (λ i. nat_of (seller_at o i)) o.portfolios)) h)

-- ---- what a path offers
-- of a portfolio that there is, and of any other
offers_at_lem : (d : Path) (p : ℕ) → p < d.portfolios → at (offers d) p ≡ offer d p
unfolding offers
offers_at_lem d p h = listed_at (offer d) 0 d.portfolios p h

offers_past : (d : Path) (p : ℕ) → d.portfolios ≤ p → at (offers d) p ≡ 0
unfolding offers
offers_past d p h = get_or-eq_default (offers d) 0 (le_trans (le_of_eq (listed_length (offer d) d.portfolios)) h)

-- ---- a constraint on the opening's own numbers, and on the hour's market
-- one verdict: demand, left, the sellers named and what each withholds
pub record SameNumbers (d e : Path) : Type 0 where
  pub demanded : demand d ≡ demand e
  pub supplied : supply d ≡ supply e
  pub able : (p : ℕ) → withholdable d p ≡ withholdable e p
  pub left_over : left d ≡ left e
  pub sellers_named_lem : named d ≡ named e
  pub withheld : (p : ℕ) → amount_of p (sellers d) ≡ amount_of p (sellers e)
  pub finding : is_non_competitive d ≡ is_non_competitive e
  pub verdict : verdict_of d ≡ verdict_of e

module _ (o : Opening) (v : Interval) (c : ℕ) where
  -- demand, supply and what a portfolio can withhold are the same
  demand_in : demand (path_from o v c) ≡ demand (path_in (market_of o) v c)
  unfolding demand market_of
  demand_in = refl

  supply_in : supply (path_from o v c) ≡ supply (path_in (market_of o) v c)
  unfolding supply market_of
  supply_in = refl

  share_in : (p r : ℕ) → r < o.resources → share (path_from o v c) p r ≡ share (path_in (market_of o) v c) p r
  unfolding share
  share_in p r h =
      ap (λ (x : ℕ). cond (eqb x p) (effectiveness (factor_at v r c) * (nat_of (available_at v r) - nat_of (floor_at v r))) 0) (sym (market_portfolio o r h))

  withholdable_in : (p : ℕ) → withholdable (path_from o v c) p ≡ withholdable (path_in (market_of o) v c) p
  unfolding withholdable market_of
  withholdable_in p = sum_same (share (path_from o v c) p) (share (path_in (market_of o) v c) p) o.resources (share_in p)

  -- so is what a declared portfolio offers, and any other offers 0
  offer_in : (p : ℕ) → p < o.portfolios → offer (path_from o v c) p ≡ offer (path_in (market_of o) v c) p
  unfolding offer
  offer_in p h = ap₂ (λ (x y : ℕ). cond (eqb x 1) y 0) (sym (market_seller o p h)) (withholdable_in p)

  buyer_offers : (p : ℕ) → o.portfolios ≤ p → offer (path_in (market_of o) v c) p ≡ 0
  unfolding offer
  buyer_offers p h = ap (λ (x : ℕ). cond (eqb x 1) (withholdable (path_in (market_of o) v c) p) 0) (market_buyer o p h)

  none_past : (p : ℕ) → o.portfolios ≤ p → at (offers (path_in (market_of o) v c)) p ≡ 0
  none_past p h = ⊎_elim (offers_past (path_in (market_of o) v c) p) (λ l. offers_at_lem (path_in (market_of o) v c) p l ∙ buyer_offers p h) (le_or_lt 16 p)

  module _ (accepted : opening_refusal o ≡ 0) where
    offers_in : (p : ℕ) → at (offers (path_from o v c)) p ≡ at (offers (path_in (market_of o) v c)) p
    offers_in p =
        ⊎_elim (λ h. offers_past (path_from o v c) p h ∙ sym (none_past p h))
        (λ h. offers_at_lem (path_from o v c) p h ∙ offer_in p h ∙ sym (offers_at_lem (path_in (market_of o) v c) p (le_trans h (few o accepted).0))) (le_or_lt o.portfolios p)

    sellers_in : sellers (path_from o v c) ≡ sellers (path_in (market_of o) v c)
    unfolding sellers
    sellers_in = top_padded o.portfolios 16 (few o accepted).0 3 (offers (path_from o v c)) (offers (path_in (market_of o) v c)) offers_in none_past

    left_in : left (path_from o v c) ≡ left (path_in (market_of o) v c)
    unfolding left
    left_in = ap₂ (λ (x : ℕ) (l : List Withheld). x - total l) supply_in sellers_in

    finding_in : is_non_competitive (path_from o v c) ≡ is_non_competitive (path_in (market_of o) v c)
    unfolding is_non_competitive
    finding_in = rw (left_in, demand_in)

    verdict_in_lem : verdict_of (path_from o v c) ≡ verdict_of (path_in (market_of o) v c)
    unfolding verdict_of named
    verdict_in_lem = rw (finding_in, demand_in, left_in, sellers_in)

    -- The verdict on the hour's market, its demand, left, sellers named and withheld, is that on the opening's own numbers.
    pub same_verdict_numbers : SameNumbers (path_from o v c) (path_in (market_of o) v c)
    unfolding named
    same_verdict_numbers = record {
      demanded = demand_in;
      supplied = supply_in;
      able = withholdable_in;
      left_over = left_in;
      sellers_named_lem = ap mask sellers_in;
      withheld = λ p. ap (amount_of p) sellers_in;
      finding = finding_in;
      verdict = verdict_in_lem;
    }

    -- A constraint is non-competitive in the market exactly when it is in the opening's own numbers.
    pub market_non_competitive : NonCompetitive (path_from o v c) ↔ NonCompetitive (path_in (market_of o) v c)
    market_non_competitive =
        let own = non_competitive (path_from o v c) in
        let market = non_competitive (path_in (market_of o) v c) in
        ((λ h. market.0 (sym finding_in ∙ own.1 h)), λ h. own.0 (finding_in ∙ market.1 h))
