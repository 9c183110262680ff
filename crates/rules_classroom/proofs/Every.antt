-- "every bid with start 0, ends among 100, 200, 300 and prices among 0, 10000, 20000, never falling" is listed (paper 02, 2.12). Assumes nothing.
use mathlib.Core.List.Memᴰ
use mathlib.Core.List.{List, [], ◌∷◌, ◌++◌, map, flat_map, zip_with, Memᴰ}
use mathlib.Core.Logic.{⊎_elim}
use mathlib.Core.Path.{◌≡◌, refl, sym, ap, subst, ◌∙◌}
use Prim.Native.Nat.{ℕ, zero, suc, ◌<◌, ◌≤◌}
use native.Mathlib.Omega.{arith}
use lib.IntN.{ℤ, pos}
use lib.ListN.{length, get_or, take, length-map, length-take}
use lib.Signed.{◌<ℤ◌, ◌≤ℤ◌}
use Rattle.rules_number.proofs.Kit.{var, lit, le_of, lt_of, lt_by, ≤ℤ_trans}
use Rattle.rules_curve.specs.Conditions.{no_step, bid_demands}
use Rattle.rules_curve.specs.Curves.{most_steps, raw_steps, raw_with, bid_refusal}
use Rattle.rules_curve.specs.declared.RawStep.{RawStep}
use Rattle.rules_curve.specs.declared.RawCurve.{RawCurve}
use Rattle.rules_curve.proofs.Exactly.{bid_first, bid_prices}
use Rattle.rules_curve.proofs.FirstLaws.{accepted_exactly}
use Rattle.rules_classroom.specs.Classroom.{drill_ends, drill_prices, rising, never_falling, bid_step, bid_of, bids_of, classroom_bids, classroom_bid}
use Rattle.rules_classroom.specs.Meaning.{Drill, ends_in, prices_in, blanked, IsListed}
use Rattle.rules_classroom.proofs.Listed.{thirty_seven}

-- what holds of each used step by number holds of all their ends, or prices
used_all : (f : RawStep → ℤ) (P : ℤ → Type 0) (n : ℕ) (l : List RawStep) → n ≤ length l → ((i : ℕ) → i < n → P (f (get_or l i no_step))) → (x : ℤ) → Memᴰ x (map f (take n l)) → P x
used_all f P zero l h k x m = absurd (Memᴰ.not-nil m)
used_all f P (suc n) [] h k x m = absurd (omega arith)
used_all f P (suc n) (s ∷ l) h k x m =
    ⊎_elim (λ q. subst P (sym q) (k 0 (omega arith))) (λ i. used_all f P n l (omega arith) (λ j g. k (suc j) (omega arith)) x i) (Memᴰ.cases_cons m)

-- ---- numbers that rise, or never fall: R holds of each and every later one
module _ (R : ℤ → ℤ → Type 0) where
  abbrev pub Each : List ℤ → Type 0
  Each [] = Unit {0}
  Each (x ∷ l) = ((y : ℤ) → Memᴰ y l → R x y) × Each l

  -- it does where it holds of each and the next
  each_used : ((x y z : ℤ) → R x y → R y z → R x z) → (f : RawStep → ℤ) (n : ℕ) (l : List RawStep) → n ≤ length l → ((i : ℕ) → suc i < n → R (f (get_or l i no_step)) (f (get_or l (suc i) no_step))) → Each (map f (take n l))
  each_used trans f zero l h k = tt
  each_used trans f (suc n) [] h k = absurd (omega arith)
  each_used trans f (suc n) (s ∷ l) h k = (used_all f (R (f s)) n l (omega arith) above, each_used trans f n l (omega arith) (λ i m. k (suc i) (omega arith)))
    where
      above : (i : ℕ) → i < n → R (f s) (f (get_or l i no_step))
      above zero m = k 0 (omega arith)
      above (suc i) m = trans (f s) (f (get_or l i no_step)) (f (get_or l (suc i) no_step)) (above i (omega arith)) (k (suc i) (omega arith))

<-trans : (x y z : ℤ) → x <ℤ y → y <ℤ z → x <ℤ z
<-trans x y z h k = lt_by (var x) (var z) (omega (arith, lt_of h, lt_of k))

<-≤ : (x y z : ℤ) → x <ℤ y → y ≤ℤ z → x <ℤ z
<-≤ x y z h k = lt_by (var x) (var z) (omega (arith, lt_of h, le_of k))

abbrev Rises : List ℤ → Type 0
Rises l = Each ◌<ℤ◌ l

abbrev NeverFalls : List ℤ → Type 0
NeverFalls l = Each ◌≤ℤ◌ l

-- ---- every list of numbers of l that rises, and every one that never falls, is made
-- one that is above the first stands among the others
later : (x y : ℤ) (l : List ℤ) → x <ℤ y → Memᴰ y (x ∷ l) → Memᴰ y l
later x y l h m = ⊎_elim (λ q. absurd (same q)) (λ i. i) (Memᴰ.cases_cons m)
  where
    same : y ≡ x → ⊥
    same q = let z = lt_of (subst (λ (t : ℤ). x <ℤ t) q h) in omega arith

pub rising_all : (l es : List ℤ) → Rises l → ((e : ℤ) → Memᴰ e es → Memᴰ e l) → Rises es → Memᴰ es (rising (length es) l)
rising_all [] [] s m r = Memᴰ.head refl
rising_all (x ∷ l) [] s m r = Memᴰ.head refl
rising_all [] (e ∷ t) s m r = absurd (Memᴰ.not-nil (m e (Memᴰ.head refl)))
rising_all (x ∷ l) (e ∷ t) s m r =
    ⊎_elim
    (λ q. Memᴰ.cast (ap (λ (z : ℤ). z ∷ t) q) (Memᴰ.append_left (rising (suc (length t)) l) (Memᴰ.map (λ k. x ∷ k)
    (rising_all l t s.1 (λ y i. later x y l (subst (λ (z : ℤ). z <ℤ y) q (r.0 y i)) (m y (Memᴰ.tail i))) r.1))))
    (λ i. Memᴰ.append_right (map (λ k. x ∷ k) (rising (length t) l)) (rising_all l (e ∷ t) s.1
    (λ y j. ⊎_elim (λ q. Memᴰ.cast q i) (λ k. later x y l (<-trans x e y (s.0 e i) (r.0 y k)) (m y j)) (Memᴰ.cases_cons j)) r))
    (Memᴰ.cases_cons (m e (Memᴰ.head refl)))

pub falling_all : (ps l : List ℤ) → Rises l → ((p : ℤ) → Memᴰ p ps → Memᴰ p l) → NeverFalls ps → Memᴰ ps (never_falling (length ps) l)
falling_all [] l s m r = Memᴰ.head refl
falling_all (e ∷ t) [] s m r = absurd (Memᴰ.not-nil (m e (Memᴰ.head refl)))
falling_all (e ∷ t) (x ∷ l) s m r =
    ⊎_elim
    (λ q. Memᴰ.cast (ap (λ (z : ℤ). z ∷ t) q) (Memᴰ.append_left (never_falling (suc (length t)) l) (Memᴰ.map (λ k. x ∷ k)
    (falling_all t (x ∷ l) s (λ y i. m y (Memᴰ.tail i)) r.1))))
    (λ i. Memᴰ.append_right (map (λ k. x ∷ k) (never_falling (length t) (x ∷ l))) (falling_all (e ∷ t) l s.1
    (λ y j. ⊎_elim (λ q. Memᴰ.cast q i) (λ k. later x y l (<-≤ x e y (s.0 e i) (r.0 y k)) (m y j)) (Memᴰ.cases_cons j)) r))
    (Memᴰ.cases_cons (m e (Memᴰ.head refl)))

-- ---- and every bid of such ends and prices
flat_all : {A B : Type 0} (f : A → List B) {a : A} {b : B} (l : List A) → Memᴰ a l → Memᴰ b (f a) → Memᴰ b (flat_map f l)
unfolding flat_map
flat_all f [] m n = absurd (Memᴰ.not-nil m)
flat_all {A} {B} f {a} {b} (x ∷ l) m n =
    ⊎_elim (λ q. Memᴰ.append_left (flat_map f l) (subst (λ (z : A). Memᴰ b (f z)) q n)) (λ i. Memᴰ.append_right (f x) (flat_all f l i n)) (Memᴰ.cases_cons m)

-- three numbers that rise, as the ends and the prices of the drills do
rises : (x y z : ℤ) → x <ℤ y → y <ℤ z → Rises (x ∷ y ∷ z ∷ [])
rises x y z h k = each_used ◌<ℤ◌ <-trans (λ s. s.end) 3 (bid_step x x ∷ bid_step y y ∷ bid_step z z ∷ []) (omega arith) next
  where
    next : (i : ℕ) → suc i < 3 → (get_or (bid_step x x ∷ bid_step y y ∷ bid_step z z ∷ []) i no_step).end <ℤ (get_or (bid_step x x ∷ bid_step y y ∷ bid_step z z ∷ []) (suc i) no_step).end
    next zero m = h
    next (suc zero) m = k
    next (suc (suc i)) m = absurd (omega arith)

pub listed_by : (es ps : List ℤ) → 1 ≤ length es → length es ≡ length ps → ((e : ℤ) → Memᴰ e es → Memᴰ e drill_ends) → Rises es
    → ((p : ℤ) → Memᴰ p ps → Memᴰ p drill_prices) → NeverFalls ps → Memᴰ (bid_of es ps) classroom_bids
unfolding classroom_bids
listed_by es ps some same a r b c =
    go (length es) some (rising_all drill_ends es (rises _ _ _ (lt_by (lit 100) (lit 200) (omega arith)) (lt_by (lit 200) (lit 300) (omega arith))) a r)
    (subst (λ (n : ℕ). Memᴰ ps (never_falling n drill_prices)) (sym same)
    (falling_all ps drill_prices (rises _ _ _ (lt_by (lit 0) (lit 10000) (omega arith)) (lt_by (lit 10000) (lit 20000) (omega arith))) b c))
  where
    of : (n : ℕ) → Memᴰ es (rising n drill_ends) → Memᴰ ps (never_falling n drill_prices) → Memᴰ (bid_of es ps) (bids_of n)
    of n m k = flat_all (λ es. map (bid_of es) (never_falling n drill_prices)) (rising n drill_ends) m (Memᴰ.map (bid_of es) k)

    -- of four steps there is none
    go : (n : ℕ) → 1 ≤ n → Memᴰ es (rising n drill_ends) → Memᴰ ps (never_falling n drill_prices) → Memᴰ (bid_of es ps) (bids_of 1 ++ bids_of 2 ++ bids_of 3)
    go zero h m k = absurd (omega arith)
    go (suc zero) h m k = Memᴰ.append_left (bids_of 3) (Memᴰ.append_left (bids_of 2) (of 1 m k))
    go (suc (suc zero)) h m k = Memᴰ.append_left (bids_of 3) (Memᴰ.append_right (bids_of 1) (of 2 m k))
    go (suc (suc (suc zero))) h m k = Memᴰ.append_right (bids_of 1 ++ bids_of 2) (of 3 m k)
    go (suc (suc (suc (suc n)))) h m k = absurd (Memᴰ.not-nil m)

-- ---- a bid that was read
steps_again : (l : List RawStep) → zip_with bid_step (map (λ s. s.end) l) (map (λ s. s.price) l) ≡ l
unfolding zip_with
steps_again [] = refl
steps_again (s ∷ l) = ap (λ (t : List RawStep). s ∷ t) (steps_again l)

-- a bid with blank steps past its count is the one made of its ends and prices
pub bid_again : (b : RawCurve) → b.start ≡ pos 0 → b.count ≤ length b.steps → blanked b ≡ bid_of (ends_in b) (prices_in b)
bid_again b s few =
    let n : b.count ≡ length (raw_steps b) = omega (arith, length-take b.count b.steps) in
    by_parts s n ∙ ap (raw_with (pos 0)) (sym (steps_again (raw_steps b)))
  where
    by_parts : b.start ≡ pos 0 → b.count ≡ length (raw_steps b) → blanked b ≡ raw_with (pos 0) (raw_steps b)
    by_parts s n = cc

-- a member of a list stands at some place
place : {A : Type 0} (d : A) {x : A} (l : List A) → Memᴰ x l → (k : ℕ) × (k < length l) × (get_or l k d ≡ x)
place d [] m = absurd (Memᴰ.not-nil m)
place {A} d {x} (y ∷ l) m = ⊎_elim (λ q. (0, omega arith, sym q)) (λ i. next_place (place d l i)) (Memᴰ.cases_cons m)
  where
    next_place : (k : ℕ) × (k < length l) × (get_or l k d ≡ x) → (k : ℕ) × (k < length (y ∷ l)) × (get_or (y ∷ l) k d ≡ x)
    next_place r = (suc r.0, omega (arith, r.1), r.2)

at_place : (b c : RawCurve) → Memᴰ c classroom_bids → blanked b ≡ c → IsListed b
unfolding classroom_bid
at_place b c m e =
    let k = place _ classroom_bids m in
    record { at = k.0; among = subst (λ (x : ℕ). k.0 < x) thirty_seven k.1; same = e ∙ sym k.2 }

-- every such bid, accepted in some month, is listed
pub listed_all : (month : ℕ) (b : RawCurve) → length b.steps ≡ most_steps → bid_refusal month b ≡ 0 → Drill b → IsListed b
listed_all month b full e d =
    let met = (accepted_exactly (bid_demands month b) (bid_refusal month b) (bid_first b full month)).0 e in
    let few : b.count ≤ length b.steps = omega (arith, met.0.at_most) in
    let n : length (raw_steps b) ≡ b.count = omega (arith, length-take b.count b.steps) in
    let ends : length (ends_in b) ≡ length (raw_steps b) = length-map (raw_steps b) (λ s. s.end) in
    let found = listed_by (ends_in b) (prices_in b) (omega (arith, met.0.at_least)) (ends ∙ sym (length-map (raw_steps b) (λ s. s.price)))
    (used_all (λ s. s.end) (λ x. Memᴰ x drill_ends) b.count b.steps few d.ends)
    (each_used ◌<ℤ◌ <-trans (λ s. s.end) b.count b.steps few (λ i h. met.1.0.rising (suc i) h))
    (used_all (λ s. s.price) (λ x. Memᴰ x drill_prices) b.count b.steps few d.prices)
    (each_used ◌≤ℤ◌ (λ x y z. ≤ℤ_trans) (λ s. s.price) b.count b.steps few ((bid_prices month b).1 met.1.1.0).never_falling_lem) in
    at_place b (bid_of (ends_in b) (prices_in b)) found (bid_again b d.starts few)
