-- Paper 02, 2.9, in full: two default curves joined for a reliability contract unit; 23 and 24. Assumes nothing.
use mathlib.Core.List.{List, [], ◌∷◌, ◌++◌, map}
use mathlib.Core.Logic.{◌⊎◌, ◌↔◌}
use mathlib.Core.Path.{◌≡◌, refl, sym, ap, ◌∙◌}
use Prim.Native.Nat.{ℕ, ◌+◌, ◌≤◌, ◌<◌}
use lib.IntN.{ℤ, pos}
use lib.ListN.{length, replicate}
use lib.Signed.{◌≤ℤ◌}
use Rattle.rules_number.specs.Over.{padded}
use Rattle.rules_curve.specs.Conditions as rules
use Rattle.rules_curve.specs.Conditions.{Counted, Edged, DefaultPriced}
use Rattle.rules_curve.specs.Curves.{steps_of, end_of, price_at, curve_of, no_pack, pack_unless, unless_refused, default_refusal}
use Rattle.rules_curve.specs.Demands.{First}
use Rattle.rules_curve.specs.declared.RawCurve.{RawCurve}
use Rattle.rules_curve.specs.declared.Curve.{Curve}
use Rattle.rules_curve.specs.declared.Step.{Step}
use Rattle.rules_curve.proofs.Answered.{blank_is, refused_alone, packed_alone}
use Rattle.rules_opening.specs.Openings.{resource_at, opening_refusal}
use Rattle.rules_opening.specs.declared.Opening.{Opening}
use Rattle.rules_opening.specs.declared.Source.TheVariants as source
use Rattle.rules_hour.specs.Demand3.{default_of}
use Rattle.rules_contract.specs.ContractUnits.{joined_raw, contract_refusal, joined_pack, joined_curve}
use Rattle.rules_contract.specs.Meaning.{IsJoined}
use Rattle.rules_contract.proofs.Exactly.{contract_exactly}
use Rattle.rules_contract.proofs.Joins.{joined_passes, is_joined, least_steps, joined_only}
use Rattle.rules_contract.proofs.Units.{contract_unit}
use Rattle.statements.proofs.Checks.{Nothing}
use Rattle.statements.proofs.Curves.{end, Good, NeverFalls, rises, never_falls, sound_default}
use Rattle.statements.proofs.Refusals.{edge, Steps, Edges, DefaultPrices, steps_are, edges_are, prices_are, edge_is}
use Rattle.statements.proofs.Told.{◌says◌, Item, demands, told, taken, only}

-- ---- the number r of a join: "Each part passes a default curve's checks first. It adds 23, the second part doesn't start at the first one's last end; 24, over 11 steps
-- together; both after 3."
module _ (proxy above : RawCurve) where
  abbrev BothSteps : Type 0
  BothSteps = Steps proxy 11 × Steps above 11

  abbrev BothEdges : Type 0
  BothEdges = Edges proxy × Edges above

  abbrev BothPrices : Type 0
  BothPrices = DefaultPrices proxy × DefaultPrices above

  abbrev Meet : Type 0
  Meet = edge proxy proxy.count ≡ above.start

  abbrev Together : Type 0
  Together = proxy.count + above.count ≤ 11

  pub record JoinSays (r : ℕ) : Type 0 where
    pub one : (r ≡ 1) ↔ (BothSteps → ⊥)
    pub two : (r ≡ 2) ↔ (BothSteps × (BothEdges → ⊥))
    pub three : (r ≡ 3) ↔ (BothSteps × (BothEdges × (BothPrices → ⊥)))
    pub twenty_three : (r ≡ 23) ↔ (BothSteps × (BothEdges × (BothPrices × (Meet → ⊥))))
    pub twenty_four : (r ≡ 24) ↔ (BothSteps × (BothEdges × (BothPrices × (Meet × (Together → ⊥)))))
    pub none : (r ≡ 0) ↔ (BothSteps × (BothEdges × (BothPrices × (Meet × Together))))
    pub no_other : (r ≡ 0) ⊎ ((1 ≤ r) × (r ≤ 24))

-- ---- a quantity of a curve, and its price there
abbrev In : Curve → ℕ → Type 0
In c q = (c.start ≤ q) × (q < end c)

abbrev P : Curve → ℕ → ℤ
P c q = price_at (steps_of c) q

abbrev Ends : Curve → List ℕ
Ends c = map (λ s. s.end) (steps_of c)

-- prices g are nowhere below those of a part
abbrev NowhereBelow : (ℕ → ℤ) → Curve → Type 0
NowhereBelow g part = (q : ℕ) → In part q → P part q ≤ℤ g q

-- c is the join of the proxy curve and the default curve above it
pub record Joins (proxy above c : Curve) : Type 0 where
  -- "proxy prices up to its contract capacity and default prices above it": all quantities of both, and each step of both
  pub starts : c.start ≡ proxy.start
  pub capacity : above.start ≡ end proxy
  pub ends : end c ≡ end above
  pub steps : Ends c ≡ Ends proxy ++ Ends above
  -- "raise each price to the largest before it"
  pub good : Good 11 c
  pub never_falls : (q r : ℕ) → In c q → In c r → q ≤ r → P c q ≤ℤ P c r
  -- "No price of either part is lowered"
  pub proxy_kept : NowhereBelow (P c) proxy
  pub above_kept : NowhereBelow (P c) above
  -- "every other never-falling curve that is nowhere below the joined parts is nowhere below ours": any prices by quantity, and any steps that reach as far
  pub least : (g : ℕ → ℤ) → ((q r : ℕ) → In c q → In c r → q ≤ r → g q ≤ℤ g r) → NowhereBelow g proxy → NowhereBelow g above → NowhereBelow g c
  pub least_curve : (p : ℕ) (l : List Step) → NeverFalls l → p ≤ c.start → end c ≤ end_of p l → NowhereBelow (price_at l) proxy → NowhereBelow (price_at l) above → NowhereBelow (price_at l) c

-- ---- from the theorems
joins : (proxy above c : Curve) → IsJoined proxy above c → Joins proxy above c
joins proxy above c j = record {
  starts = j.starts;
  capacity = j.capacity;
  ends = j.ends;
  steps = j.edges;
  good = (j.sound.few, (rises c.start (steps_of c)).0 j.sound.rising, (never_falls (steps_of c)).0 j.sound.never_falling_lem);
  never_falls = j.never_falls;
  proxy_kept = j.proxy_kept;
  above_kept = j.above_kept;
  least = j.least;
  least_curve = λ p l up. least_steps proxy above c j p l ((never_falls l).1 up);
}

-- there is one joined curve
pub join_only : (proxy above c d : Curve) → Joins proxy above c → Joins proxy above d → (c.start ≡ d.start) × (steps_of c ≡ steps_of d)
join_only proxy above c d x y = joined_only proxy above c d (back c x) (back d y)
  where
    back : (c : Curve) → Joins proxy above c → IsJoined proxy above c
    back c j = record {
      starts = j.starts;
      capacity = j.capacity;
      ends = j.ends;
      edges = j.steps;
      sound = sound_default c j.good;
      never_falls = j.never_falls;
      proxy_kept = j.proxy_kept;
      above_kept = j.above_kept;
      least = j.least;
    }

module _ (a b : RawCurve) (full-a : length a.steps ≡ 11) (full-b : length b.steps ≡ 11) where
  both_steps : (Counted 11 a × Counted 11 b) ↔ BothSteps a b
  both_steps = ((λ h. ((steps_are a 11).0 h.0, (steps_are b 11).0 h.1)), λ h. ((steps_are a 11).1 h.0, (steps_are b 11).1 h.1))

  both_edges : (Edged a × Edged b) ↔ BothEdges a b
  both_edges = ((λ h. ((edges_are a).0 h.0, (edges_are b).0 h.1)), λ h. ((edges_are a).1 h.0, (edges_are b).1 h.1))

  both_prices : (DefaultPriced a × DefaultPriced b) ↔ BothPrices a b
  both_prices = ((λ h. ((prices_are a _ _).0 h.0, (prices_are b _ _).0 h.1)), λ h. ((prices_are a _ _).1 h.0, (prices_are b _ _).1 h.1))

  meet : (rules.edge a a.count ≡ b.start) ↔ Meet a b
  meet = ((λ e. edge_is a a.count ∙ e), λ e. sym (edge_is a a.count) ∙ e)

  together : Together a b ↔ Together a b
  together = ((λ h. h), λ h. h)

  abbrev items : List Item
  items = (1 says both_steps) ∷ (2 says both_edges) ∷ (3 says both_prices) ∷ (23 says meet) ∷ (24 says together) ∷ []

  pub join_refused : JoinSays a b (contract_refusal a b)
  join_refused =
      let r = contract_refusal a b in
      let e : (n : ℕ) → (r ≡ n) ↔ First n (demands items) = contract_exactly a b full-a full-b in
      record {
        one = told items r e 1 refl;
        two = told items r e 2 refl;
        three = told items r e 3 refl;
        twenty_three = told items r e 23 refl;
        twenty_four = told items r e 24 refl;
        none = taken items r e;
        no_other = only items r e 1 24 refl;
      }

  -- the curve of an accepted join
  pub joined : contract_refusal a b ≡ 0 → Joins (curve_of a) (curve_of b) (curve_of (joined_raw a b))
  joined e = joins (curve_of a) (curve_of b) (curve_of (joined_raw a b)) (is_joined a b full-a full-b e)

  -- "The joined curve serves as a default curve in opening": none of 1 to 3 applies to it
  pub serves : contract_refusal a b ≡ 0 → default_refusal (joined_raw a b) ≡ 0
  serves = joined_passes a b full-a full-b

  -- and demand 3 is about it: the default curve of a resource of an accepted opening whose pack is what a join handed back
  pub in_hour : (o : Opening) (r : ℕ) → opening_refusal o ≡ 0 → r < o.resources → (resource_at o r).source ≡ source.Pack → (resource_at o r).pack ≡ joined_pack a b
      → (contract_refusal a b ≡ 0) × Joins (curve_of a) (curve_of b) (default_of o r)
  in_hour o r accepted l s p =
      let u = contract_unit o [] r a b full-a full-b accepted l (record { packed = s; pack = p }) in
      (u.taken, joins (curve_of a) (curve_of b) (default_of o r) u.default)

-- what is handed back: "A refusal returns its number alone"
pub join_hands_back : (a b : RawCurve)
    → (contract_refusal a b ≡ 0 → (joined_pack a b ≡ joined_raw a b) × (joined_curve a b ≡ curve_of (joined_raw a b)))
    × (0 < contract_refusal a b → (joined_pack a b ≡ record { start = pos 0; count = 0; steps = replicate 11 (record { end = pos 0; price = pos 0 }) }) × (joined_curve a b ≡ Nothing))
unfolding no_pack padded
join_hands_back a b = (
  (λ e. (ap (λ (n : ℕ). pack_unless n (joined_raw a b)) e, ap (λ (n : ℕ). unless_refused n (curve_of (joined_raw a b))) e)),
  λ some. (packed_alone (contract_refusal a b) (joined_raw a b) some, refused_alone (contract_refusal a b) (curve_of (joined_raw a b)) some ∙ blank_is),
)
