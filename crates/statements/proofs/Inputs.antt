-- Refusals 1 to 3, 9 to 11, 23 and 24, exactly, of every opening that is read from a text and of every opening, bid and join in numbers: nothing is assumed of them. Assumes nothing.
use mathlib.Core.List.{List}
use mathlib.Core.Path.{◌≡◌, sym, subst}
use Prim.Native.Nat.{ℕ, ◌<◌}
use lib.IntN.{ℤ}
use lib.ListN.{length}
use lib.Signed.{◌≤ℤ◌}
use Rattle.rules_curve.specs.Curves.{bid_refusal, default_refusal}
use Rattle.rules_cost.specs.Costs.{cost_refusal}
use Rattle.rules_opening.specs.Conditions.{EachFull}
use Rattle.rules_opening.specs.Openings.{opening_refusal}
use Rattle.rules_opening.specs.Resources.{resource_refusal}
use Rattle.rules_opening.specs.declared.Opening.{Opening}
use Rattle.rules_opening.specs.declared.Source.TheVariants as source
use Rattle.rules_text.specs.Numbers.{Line, lines}
use Rattle.rules_text.specs.Tables.{found}
use Rattle.rules_parts.specs.Parts.{read_opening}
use Rattle.rules_parts.proofs.ExactTexts.{full_in_text}
use Rattle.rules_parts.proofs.Meaning.{opening_meant}
use Rattle.rules_library.specs.Slices.{raw_bid}
use Rattle.rules_library.proofs.ExactBids.{eleven_steps}
use Rattle.rules_state.specs.Openings.{opening_in}
use Rattle.rules_state.proofs.ExactNumbers.{full_in_numbers}
use Rattle.rules_contract.specs.ContractUnits.{contract_refusal}
use Rattle.statements.proofs.Contracts.{JoinSays, join_refused}
use Rattle.statements.proofs.Refusals.{BidPrices, DefaultPrices, CurveSays, edge, m, PMax, bid, pack}
use Rattle.statements.proofs.RefusedOpenings.{ResourceSays, OpeningSays, resource, resource_of_costs, resource_of_pack, opening}

-- an opening, and in any month each resource that is read of it: its bid, its pack, and both with its costs
pub record ExactlySays (o : Opening) : Type 0 where
  pub whole : OpeningSays o (opening_refusal o)
  pub bids : (k : ℕ) → k < o.resources → k < 64 → (month : ℕ) → let x = (resource o k).bid in CurveSays 10 x (BidPrices x month) (bid_refusal month x)
  pub packs : (k : ℕ) → k < o.resources → k < 64 → let x = (resource o k).pack in CurveSays 11 x (DefaultPrices x) (default_refusal x)
  pub from_costs_lem : (k : ℕ) → k < o.resources → k < 64 → (month : ℕ) → let x = resource o k in x.source ≡ source.Costs
      → ResourceSays (bid_refusal month x.bid) (cost_refusal x.costs) ((m x.costs 0 ≤ℤ x.bid.start) × (edge x.bid x.bid.count ≤ℤ PMax x.costs)) (resource_refusal month x)
  pub from_pack : (k : ℕ) → k < o.resources → k < 64 → (month : ℕ) → let x = resource o k in x.source ≡ source.Pack
      → ResourceSays (bid_refusal month x.bid) (default_refusal x.pack) ((x.pack.start ≤ℤ x.bid.start) × (edge x.bid x.bid.count ≤ℤ edge x.pack x.pack.count))
      (resource_refusal month x)

says : (o : Opening) → EachFull o → ExactlySays o
says o full = record {
  whole = opening o held;
  bids = λ k l low. bid (resource o k).bid (held k l low).0;
  packs = λ k l low. pack (resource o k).pack (held k l low).1;
  from_costs_lem = λ k l low month. resource_of_costs month (resource o k) (held k l low);
  from_pack = λ k l low month. resource_of_pack month (resource o k) (held k l low);
}
  where
    held : (k : ℕ) → k < o.resources → k < 64 → (length (resource o k).bid.steps ≡ 11) × (length (resource o k).pack.steps ≡ 11)
    held k l low = ((full k l low).bid, (full k l low).pack)

-- whatever is read from a text as an opening
pub opening_in_text : (n : ℕ) (t : List ℕ) (a : Opening) (n' : ℕ) (ls : List Line) → read_opening n (lines t) ≡ found a n' ls → ExactlySays a
opening_in_text n t a n' ls h = let x = opening_meant n t a n' ls h in subst ExactlySays (sym x.value) (says _ (full_in_text x.o))

-- whatever numbers an opening is handed in
pub opening_in_numbers : (month : ℤ) (portfolios : ℕ) (sellers : List ℤ) (resources : ℕ) (blocks : List ℤ) → ExactlySays (opening_in month portfolios sellers resources blocks)
opening_in_numbers month portfolios sellers resources blocks = says _ (full_in_numbers month portfolios sellers resources blocks)

-- and a bid
pub bid_in_numbers : (start : ℤ) (count : ℕ) (steps : List ℤ) (month : ℕ) → let x = raw_bid start count steps in CurveSays 10 x (BidPrices x month) (bid_refusal month x)
bid_in_numbers start count steps = bid (raw_bid start count steps) (eleven_steps steps)

-- and two parts that are joined
pub join_in_numbers : (proxy-start : ℤ) (proxy-count : ℕ) (proxy-steps : List ℤ) (above-start : ℤ) (above-count : ℕ) (above-steps : List ℤ)
    → let a = raw_bid proxy-start proxy-count proxy-steps in let b = raw_bid above-start above-count above-steps in JoinSays a b (contract_refusal a b)
join_in_numbers start count steps start' count' steps' = join_refused (raw_bid start count steps) (raw_bid start' count' steps') (eleven_steps steps) (eleven_steps steps')
