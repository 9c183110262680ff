-- The joined curve passes a default curve's checks, and is the least never-falling one nowhere below its parts (paper 02, 2.9). Assumes nothing.
use mathlib.Core.List.{List, [], ◌∷◌, ◌++◌, map, map-append, map-map}
use mathlib.Core.Path.{◌≡◌, refl, sym, ap, ap₂, subst, ◌∙◌}
use Prim.Native.Nat.{ℕ, suc, ◌+◌, ◌≤◌, ◌<◌}
use native.Mathlib.Nat.{le_refl}
use native.Mathlib.Omega.{arith}
use lib.IntN.{ℤ, pos, neg_ℤ}
use lib.ListN.{length, get_or, drop, length-map, length-take, get_or-map}
use lib.Signed.{◌≤ℤ◌, ◌<ℤ◌}
use Rattle.rules_number.specs.Least.{IsHighest}
use Rattle.rules_number.specs.Order.{nat_of}
use Rattle.rules_number.specs.Over.{highest_to}
use Rattle.rules_number.proofs.HighestLaws.{highest_is_highest}
use Rattle.rules_number.proofs.Kit.{var, le_of, eq_by, ≤ℤ_trans}
use Rattle.rules_number.proofs.ListedLaws.{listed_is}
use Rattle.rules_number.proofs.OverLaws.{padded_length, padded_used, highest_ge, highest_bound}
use Rattle.rules_curve.specs.Conditions.{no_step, price, edge, Counted, Edged, DefaultPriced, default_demands}
use Rattle.rules_curve.specs.Curves.{most_steps, blank_step, lowest_default, highest_default, step_to, steps_of, step_of, end_of, price_at, raw_steps, curve_of, default_refusal}
use Rattle.rules_curve.specs.Demands.{Between}
use Rattle.rules_curve.specs.Meaning.{Rising, NeverFalling}
use Rattle.rules_curve.specs.declared.RawStep.{RawStep}
use Rattle.rules_curve.specs.declared.RawCurve.{RawCurve}
use Rattle.rules_curve.specs.declared.Step.{Step}
use Rattle.rules_curve.specs.declared.Curve.{Curve}
use Rattle.rules_curve.proofs.Answered.{same_steps, same_start, raw_end}
use Rattle.rules_curve.proofs.ChainLaws.{map_listed}
use Rattle.rules_curve.proofs.CheckLaws.{default_checked}
use Rattle.rules_curve.proofs.Exactly.{default_first}
use Rattle.rules_curve.proofs.FirstLaws.{accepted_exactly}
use Rattle.rules_curve.proofs.PriceLaws.{price_here, price_later, rising_end}
use Rattle.rules_contract.specs.ContractUnits.{joined_steps, step_price, raised_step, raised, joined_raw, contract_refusal, joined_curve}
use Rattle.rules_contract.specs.Meaning.{end_in, Within, price_in, ends_of, NowhereBelow, NeverFalls, IsJoined}
use Rattle.rules_contract.proofs.Exactly.{contract_accepted}
use Rattle.rules_contract.proofs.JoinLaws.{by_part, first_at, second_at, joined_count, joined_price, edge_first, edge_second}
use Rattle.rules_contract.proofs.StepLaws.{Holds, edges_up, held, lower_edge, within, price_of_lem, price_mono}

-- ---- where the steps end
end_of_lem : RawStep → ℕ
end_of_lem s = nat_of s.end

same_ends : (l : List RawStep) → map end_of_lem (raised l) ≡ map end_of_lem l
unfolding raised raised_step end_of_lem
same_ends l =
    map_listed end_of_lem (raised_step l) (length l)
    ∙ sym (listed_is 0 (map end_of_lem l) (λ i. end_of_lem (get_or l i no_step)) (length l) (length-map l end_of_lem) (λ i h. get_or-map end_of_lem l i no_step))

ends_are : (c : RawCurve) → ends_of (curve_of c) ≡ map end_of_lem (raw_steps c)
unfolding end_of_lem
ends_are c = ap (map (λ s. s.end)) (same_steps c) ∙ map-map (λ s. s.end) step_of (raw_steps c)

module _ (a b : RawCurve) (full-a : length a.steps ≡ most_steps) (full-b : length b.steps ≡ most_steps) (accepted : contract_refusal a b ≡ 0) where
  -- ---- what the parts are like
  parts_counted : Counted 11 a × Counted 11 b
  parts_counted = ((contract_accepted a b full-a full-b).0 accepted).0

  parts_edged : Edged a × Edged b
  parts_edged = ((contract_accepted a b full-a full-b).0 accepted).1.0

  parts_priced : DefaultPriced a × DefaultPriced b
  parts_priced = ((contract_accepted a b full-a full-b).0 accepted).1.1.0

  met : edge a a.count ≡ b.start
  met = ((contract_accepted a b full-a full-b).0 accepted).1.1.1.0

  together : a.count + b.count ≤ 11
  together = ((contract_accepted a b full-a full-b).0 accepted).1.1.1.1.0

  room_a : a.count ≤ length a.steps
  room_a = omega (arith, parts_counted.0.at_most)

  room_b : b.count ≤ length b.steps
  room_b = omega (arith, parts_counted.1.at_most)

  abbrev join : RawCurve
  join = joined_raw a b

  abbrev prices : ℕ → ℤ
  prices = step_price (joined_steps a b)

  count : join.count ≡ a.count + b.count
  count = joined_count a b room_a room_b

  first_edge : (i : ℕ) → i ≤ a.count → edge join i ≡ edge a i
  first_edge = edge_first a b room_a room_b

  second_edge : (i : ℕ) → i ≤ b.count → edge join (a.count + i) ≡ edge b i
  second_edge = edge_second a b room_a room_b met

  next_edge : (i : ℕ) → i < b.count → edge join (suc (a.count + i)) ≡ edge b (suc i)
  next_edge i h = let e : suc (a.count + i) ≡ a.count + suc i = omega arith in ap (edge join) e ∙ second_edge (suc i) h

  first_price : (i : ℕ) → i < a.count → prices i ≡ price a i
  first_price i h = ap (λ (s : RawStep). s.price) (first_at a b room_a room_b i h)

  second_price : (i : ℕ) → i < b.count → prices (a.count + i) ≡ price b i
  second_price i h = ap (λ (s : RawStep). s.price) (second_at a b room_a room_b i h)

  largest : (i : ℕ) → i < join.count → price join i ≡ highest_to prices i
  largest i h = joined_price a b room_a room_b i (omega (arith, count))

  -- "raise each price to the largest before it"
  pub price_is_largest : (i : ℕ) → i < join.count → IsHighest prices i (price join i)
  price_is_largest i h = rw (largest i h) (highest_is_highest prices i)

  -- ---- "The joined curve serves as a default curve in opening": none of 1 to 3 applies to it
  joined_full : length join.steps ≡ most_steps
  unfolding joined_raw
  joined_full = padded_length most_steps no_step (raised (joined_steps a b)) (few count)
    where
      few : join.count ≡ a.count + b.count → length (raised (joined_steps a b)) ≤ most_steps
      few e = omega (arith, together)

  joined_counted : Counted 11 join
  joined_counted = record { at_least = omega (arith, count, parts_counted.0.at_least); at_most = omega (arith, count, together) }

  joined_edged : Edged join
  joined_edged = record {
    within = λ i h.
        by_part (λ i. Between (pos 0) (pos 1000000) (edge join i)) a.count (suc b.count)
        (λ i h. rw (first_edge i (omega arith)) (parts_edged.0.within i (omega arith)))
        (λ i h. rw (second_edge i (omega arith)) (parts_edged.1.within i (omega arith)))
        i (omega (arith, count));
    rising = λ i h.
        by_part (λ i. edge join i <ℤ edge join (suc i)) a.count b.count
        (λ i h. rw (first_edge i (omega arith), first_edge (suc i) h) (parts_edged.0.rising i h))
        (λ i h. rw (second_edge i (omega arith), next_edge i h) (parts_edged.1.rising i h))
        i (omega (arith, count));
  }

  abbrev InRange : ℤ → Type 0
  InRange = Between (neg_ℤ (pos 1000000000)) (pos 1000000000)

  in_range_lem : (i : ℕ) → i < a.count + b.count → InRange (prices i)
  in_range_lem =
      by_part (λ i. InRange (prices i)) a.count b.count (λ i h. subst InRange (sym (first_price i h)) (parts_priced.0.within i h))
      (λ i h. subst InRange (sym (second_price i h)) (parts_priced.1.within i h))

  joined_priced : DefaultPriced join
  joined_priced = record {
    within = λ i h. subst InRange (sym (largest i h)) (highest_bound InRange prices i (λ j l. in_range_lem j (omega (arith, count))));
    never_falling_lem = λ i h. rw (largest i (omega arith), largest (suc i) h) (highest_ge prices i);
  }

  pub joined_passes : default_refusal join ≡ 0
  joined_passes = (accepted_exactly (default_demands join) (default_refusal join) (default_first join joined_full)).1 (joined_counted, (joined_edged, (joined_priced, tt)))

  -- it fills a curve's eleven steps
  pub joined_room : length (joined_curve a b).steps ≡ most_steps
  unfolding curve_of
  joined_room =
      rw accepted
      (padded_length most_steps blank_step (map step_of (raw_steps join)) (omega (arith, length-map (raw_steps join) step_of, length-take join.count join.steps, joined_counted.at_most)))

  -- ---- the price of a quantity
  room : join.count ≤ length join.steps
  room = omega (arith, joined_full, joined_counted.at_most)

  -- a step of either part holds what the join's holds, at no lower price
  kept : (part : RawCurve) → Edged part → part.count ≤ length part.steps → (i j q : ℕ) → Holds part i q → Holds join j q → prices j ≡ price part i
      → price_in (curve_of part) q ≤ℤ price_in (curve_of join) q
  kept part e few i j q h k same =
      rw (price_of_lem part few e i q h, ← same, price_of_lem join room joined_edged j q k) ((price_is_largest j k.among).at_least_each j (le_refl j))

  first_kept : NowhereBelow (price_in (curve_of join)) (curve_of a)
  first_kept q w =
      let h = held a room_a q w in
      let i = h.at in
      let l = h.holds.among in
      kept a parts_edged.0 room_a i i q h.holds
      (record { among = omega (arith, count); from = rw (first_edge i (omega arith)) h.holds.from; to = rw (first_edge (suc i) l) h.holds.to }) (first_price i l)

  second_kept : NowhereBelow (price_in (curve_of join)) (curve_of b)
  second_kept q w =
      let h = held b room_b q w in
      let i = h.at in
      let l = h.holds.among in
      kept b parts_edged.1 room_b i (a.count + i) q h.holds
      (record { among = omega (arith, count); from = rw (second_edge i (omega arith)) h.holds.from; to = rw (next_edge i l) h.holds.to }) (second_price i l)

  -- what is nowhere below the parts is at least the price of each step at that step's lower edge
  at_edge : (g : ℕ → ℤ) → NowhereBelow g (curve_of a) → NowhereBelow g (curve_of b) → (i : ℕ) → i < a.count + b.count → prices i ≤ℤ g (nat_of (edge join i))
  at_edge g x y =
      by_part (λ i. prices i ≤ℤ g (nat_of (edge join i))) a.count b.count
      (λ i h. rw (first_price i h, first_edge i (omega arith)) (of a parts_edged.0 room_a x i h))
      (λ i h. rw (second_price i h, second_edge i (omega arith)) (of b parts_edged.1 room_b y i h))
    where
      of : (part : RawCurve) → Edged part → part.count ≤ length part.steps → NowhereBelow g (curve_of part) → (i : ℕ) → i < part.count → price part i ≤ℤ g (nat_of (edge part i))
      of part e few above i h =
          let l = lower_edge part few e i h in
          rw (price_of_lem part few e i (nat_of (edge part i)) l) at (above (nat_of (edge part i)) (within part few e i (nat_of (edge part i)) l))

  least : (g : ℕ → ℤ) → NeverFalls g (curve_of join) → NowhereBelow g (curve_of a) → NowhereBelow g (curve_of b) → NowhereBelow g (curve_of join)
  least g up x y q w =
      let h = held join room q w in
      let i = h.at in
      let l = h.holds.among in
      rw (h.priced, largest i l)
      (highest_bound (λ z. z ≤ℤ g q) prices i
      (λ j k. let m = lower_edge join room joined_edged j (omega arith) in
      ≤ℤ_trans (at_edge g x y j (omega (arith, count)))
      (up (nat_of (edge join j)) q (within join room joined_edged j (nat_of (edge join j)) m) w (omega (arith, edges_up join joined_edged j i k (omega arith), h.holds.from)))))

  pub is_joined : IsJoined (curve_of a) (curve_of b) (curve_of join)
  unfolding joined_raw
  is_joined =
      let sound = default_checked lowest_default highest_default join joined_passes in
      record {
        starts = same_start join ∙ sym (same_start a);
        capacity = same_start b ∙ sym (raw_end a room_a ∙ ap nat_of met);
        ends = raw_end join room ∙ ap nat_of (ap (edge join) count ∙ second_edge b.count (le_refl b.count)) ∙ sym (raw_end b room_b);
        edges =
            ends_are join ∙ ap (map end_of_lem) (padded_used most_steps no_step (raised (joined_steps a b))) ∙ same_ends (joined_steps a b) ∙ map-append end_of_lem (raw_steps a) (raw_steps b)
            ∙ ap₂ (λ (x y : List ℕ). x ++ y) (sym (ends_are a)) (sym (ends_are b));
        sound = sound;
        never_falls = λ q r v w h. price_mono (curve_of join).start (steps_of (curve_of join)) q r sound.never_falling_lem v.0 h w.1;
        proxy_kept = first_kept;
        above_kept = second_kept;
        least = least;
      }

-- ---- "every other never-falling curve": of any number of steps, from any start to any end past ours
pub least_steps : (proxy above c : Curve) → IsJoined proxy above c → (p : ℕ) (l : List Step) → NeverFalling l → p ≤ c.start → end_in c ≤ end_of p l
    → NowhereBelow (price_at l) proxy → NowhereBelow (price_at l) above → NowhereBelow (price_at l) c
least_steps proxy above c j p l up h k x y =
    j.least (price_at l) (λ q r v w n. let a = v.0 in let b = w.1 in price_mono p l q r up (omega arith) n (omega arith)) x y

-- ---- there is one joined curve
same_list : (p : ℕ) (l m : List Step) → map (λ s. s.end) l ≡ map (λ s. s.end) m → Rising p l → ((q : ℕ) → p ≤ q → q < end_of p l → price_at l q ≡ price_at m q) → l ≡ m
same_list p [] [] e r h = refl
same_list p [] (t ∷ m) e r h = let n = ap length e in absurd (omega arith)
same_list p (s ∷ l) [] e r h = let n = ap length e in absurd (omega arith)
same_list p (s ∷ l) (t ∷ m) e r h =
    let one : s.end ≡ t.end = ap (λ (k : List ℕ). get_or k 0 0) e in
    let up = rising_end s.end l r.1 in
    let first : s.price ≡ t.price = sym (price_here s l p r.0) ∙ h p (le_refl p) (omega (arith, r.0)) ∙ price_here t m p (subst (λ (n : ℕ). p < n) one r.0) in
    let rest : l ≡ m = same_list s.end l m (ap (λ (k : List ℕ). drop 1 k) e) r.1 (λ q x y. sym (price_later s l q x) ∙ h q (omega (arith, r.0)) y ∙ price_later t m q (subst (λ (n : ℕ). n ≤ q) one x)) in
    ap₂ (λ (x : Step) (y : List Step). x ∷ y) (ap₂ step_to one first) rest

pub joined_only : (proxy above c d : Curve) → IsJoined proxy above c → IsJoined proxy above d → (c.start ≡ d.start) × (steps_of c ≡ steps_of d)
joined_only proxy above c d x y =
    let starts : c.start ≡ d.start = x.starts ∙ sym y.starts in
    let ends : end_in c ≡ end_in d = x.ends ∙ sym y.ends in
    (starts, same_list c.start (steps_of c) (steps_of d) (x.edges ∙ sym y.edges) x.sound.rising (λ q h k. equal starts ends q (h, k)))
  where
    over : (e f : Curve) → e.start ≡ f.start → end_in e ≡ end_in f → (q : ℕ) → Within e q → Within f q
    over e f s n q w = (subst (λ (p : ℕ). p ≤ q) s w.0, subst (λ (p : ℕ). q < p) n w.1)

    below : (e f : Curve) → e.start ≡ f.start → end_in e ≡ end_in f → IsJoined proxy above e → IsJoined proxy above f → (q : ℕ) → Within e q → price_in e q ≤ℤ price_in f q
    below e f s n i j q w = i.least (price_in f) (λ k r v u m. j.never_falls k r (over e f s n k v) (over e f s n r u) m) j.proxy_kept j.above_kept q w

    equal : c.start ≡ d.start → end_in c ≡ end_in d → (q : ℕ) → Within c q → price_in c q ≡ price_in d q
    equal s n q w = eq_by (var (price_in c q)) (var (price_in d q)) (omega (arith, le_of (below c d s n x y q w), le_of (below d c (sym s) (sym n) y x q (over c d s n q w))))
