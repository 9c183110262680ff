-- Sets of net sellers as numbers and as lists, and what their full withholding comes to. Assumes nothing.
use mathlib.Core.Bool.{Bool, true, false, not, ◌||◌, cond}
use mathlib.Core.List.{List, [], ◌∷◌}
use mathlib.Core.Logic.{◌↔◌, inl, inr, ⊎_elim}
use mathlib.Core.Path.{◌≡◌, refl, sym, ap, ◌∙◌, subst}
use Prim.Native.Nat.{ℕ, zero, suc, ◌+◌, ◌*◌, ◌^◌, ◌≤◌, ◌<◌, zero-le}
use native.Mathlib.Nat.{le_refl, one-mul, zero-mul}
use native.Mathlib.Omega.{arith}
use borrow.Author.Tests.{ltb-true, lt-ltb, eqb-true, eq-eqb, ne_eqb}
use lib.Count.{ones}
use lib.Dec.{ltb, eqb}
use lib.IntN.{pos}
use lib.ListN.{length}
use lib.Signed.{◌<ℤ◌}
use Rattle.rules_number.specs.Over.{sum_to}
use Rattle.rules_number.proofs.ExactLaws.{all_exactly, iff_then}
use Rattle.rules_number.proofs.OverLaws.{sum_same, all_at, all_of, never, last_or_before, le_or_lt}
use Rattle.rules_number.proofs.SumLaws.{sum_mono}
use Rattle.rules_number.proofs.TestLaws.{above_exactly}
use Rattle.rules_interval.specs.Intervals.{shadow_at}
use Rattle.rules_interval.specs.declared.Interval.{Interval}
use Rattle.rules_path.specs.Judgements.{path_in}
use Rattle.rules_path.specs.Paths.{Path, at, binds, demand, supply, withholdable, Withheld, Absent, NetSeller, Possible, total, mask}
use Rattle.rules_path.specs.Verdicts.{bit}
use Rattle.rules_path.specs.declared.Market.{Market}
use Rattle.rules_path.proofs.BitLaws.{add_bit_same, add_bit_other}
use Rattle.rules_path.proofs.MaskLaws.{mask_absent}
use Rattle.rules_path.proofs.TopLaws.{On, Distinct}
use Rattle.rules_mask.specs.Masks.{is_in, is_within, set_of}
use Rattle.rules_mask.proofs.SetLaws.{bit_two, in_or_not, within_exactly, low_bits}
use Rattle.rules_mask.proofs.SizeLaws.{set_bit, set_past, set_below, set_ones, set_of_members}
use Rattle.rules_pivotal.specs.Meaning.{OfNetSellers, full_of, Short, Works}
use Rattle.rules_pivotal.specs.Pivotals.{net_sellers, withheld_by, leaves_short, is_short, works_in}

-- ---- a set of net sellers is one within all of them
module _ (m : Market) where
  sells : ℕ → Bool
  sells p = eqb (at m.seller p) 1

  pub within_sellers : (s : ℕ) → (is_within (net_sellers m) s ≡ true) ↔ OfNetSellers m s
  unfolding net_sellers sells
  within_sellers s = iff_then (within_exactly (net_sellers m) s) there back
    where
      known : (p : ℕ) → bit p (set_of sells 16) ≡ 1 → (p < 16) × (at m.seller p ≡ 1)
      known p e = ⊎_elim (λ l. absurd (omega (arith, set_past sells 16 p l))) (λ l. (l, yes l (sells p) refl)) (le_or_lt 16 p)
        where
          yes : p < 16 → (t : Bool) → sells p ≡ t → at m.seller p ≡ 1
          yes l true x = eqb-true _ _ x
          yes l false x = let z : bit p (set_of sells 16) ≡ 0 = set_bit sells 16 p l ∙ rw x in absurd (omega arith)

      there : ((p : ℕ) → bit p s ≤ bit p (set_of sells 16)) → OfNetSellers m s
      there each p e = known p (omega (arith, each p, bit_two p (set_of sells 16)))

      back : OfNetSellers m s → (p : ℕ) → bit p s ≤ bit p (set_of sells 16)
      back of p = ⊎_elim (λ e. one e (of p e)) (λ e. omega arith) (in_or_not p s)
        where
          one : bit p s ≡ 1 → (p < 16) × (at m.seller p ≡ 1) → bit p s ≤ bit p (set_of sells 16)
          one e k = let z : bit p (set_of sells 16) ≡ 1 = set_bit sells 16 p k.0 ∙ ap (λ (t : Bool). cond {A = ℕ} t 1 0) (eq-eqb _ _ k.1) in omega arith

  pub all_of_sellers : OfNetSellers m (net_sellers m)
  all_of_sellers = (within_sellers (net_sellers m)).0 (Rattle.rules_mask.proofs.SizeLaws.within_self (net_sellers m))

  -- none has a member past the sixteenth
  pub sellers_below : (s : ℕ) → OfNetSellers m s → s < 2 ^ 16
  sellers_below s of = low_bits 16 s (λ p l. ⊎_elim (λ e. absurd (omega (arith, (of p e).0))) (λ e. e) (in_or_not p s))

  -- how many they are
  pub net_ones : ones (net_sellers m) ≤ 16
  unfolding net_sellers sells
  net_ones = lib.Count.ones-le 16 (set_of sells 16) (set_below sells 16)

-- ---- full withholding
abbrev part : Path → ℕ → ℕ → ℕ
part d s p = cond (is_in p s) (withholdable d p) 0

part_is : (d : Path) (s p : ℕ) → bit p s * withholdable d p ≡ part d s p
part_is d s p =
    ⊎_elim (λ e. ap (λ (x : ℕ). x * withholdable d p) e ∙ one-mul (withholdable d p) ∙ sym (ap (λ (t : Bool). cond t (withholdable d p) 0) (eq-eqb (bit p s) 1 e)))
    (λ e. ap (λ (x : ℕ). x * withholdable d p) e ∙ zero-mul (withholdable d p) ∙ sym (ap (λ (t : Bool). cond t (withholdable d p) 0) (ne_eqb (bit p s) 1 (λ z. omega arith))))
    (in_or_not p s)

pub full_is : (d : Path) (s : ℕ) → d.portfolios ≡ 16 → full_of d s ≡ withheld_by d s
unfolding withheld_by
full_is d s e = sum_same (λ p. bit p s * withholdable d p) (part d s) 16 (λ p l. part_is d s p) ∙ ap (sum_to (part d s)) (sym e)

-- it grows with the set
part_mono : (d : Path) (s t p : ℕ) → bit p s ≤ bit p t → part d s p ≤ part d t p
part_mono d s t p h =
    ⊎_elim (λ e. let z : bit p t ≡ 1 = omega (arith, bit_two p t) in rw (eq-eqb (bit p s) 1 e, eq-eqb (bit p t) 1 z) (le_refl (withholdable d p)))
    (λ e. rw (ne_eqb (bit p s) 1 (λ z. omega arith)) zero-le) (in_or_not p s)

pub withheld_mono : (d : Path) (m s : ℕ) → is_within m s ≡ true → withheld_by d s ≤ withheld_by d m
unfolding withheld_by
withheld_mono d m s e = sum_mono (part d s) (part d m) (λ p. part_mono d s m p ((within_exactly m s).0 e p)) d.portfolios

-- ---- short
pub short_exactly : (d : Path) (w : ℕ) → (leaves_short d w ≡ true) ↔ (pos 0 <ℤ d.shadow → supply d < demand d + w)
unfolding leaves_short
short_exactly d w = go (binds d) refl
  where
    go : (t : Bool) → binds d ≡ t → ((not t || ltb (supply d) (demand d + w)) ≡ true) ↔ (pos 0 <ℤ d.shadow → supply d < demand d + w)
    go true e = ((λ x b. ltb-true _ _ x), λ h. lt-ltb _ _ (h ((above_exactly d.shadow).0 e)))
    go false e = ((λ x b. never (sym e ∙ (above_exactly d.shadow).1 b)), λ h. refl)

pub short_mono : (d : Path) (w x : ℕ) → w ≤ x → leaves_short d w ≡ true → leaves_short d x ≡ true
short_mono d w x l e = (short_exactly d x).1 (λ b. omega (arith, (short_exactly d w).0 e b))

-- "leaves every binding constraint of an interval short"
pub works_exactly : (m : Market) (v : Interval) (s : ℕ) → (works_in m v s ≡ true) ↔ Works m v s
unfolding works_in
works_exactly m v s =
    iff_then (all_exactly (λ c. is_short (path_in m v c) s) (λ c. pos 0 <ℤ shadow_at v c → Short (path_in m v c) s) v.constraints each)
    (λ h c b. h c b.0 b.1) (λ h c l b. h c (l, b))
  where
    each : (c : ℕ) → (is_short (path_in m v c) s ≡ true) ↔ (pos 0 <ℤ shadow_at v c → Short (path_in m v c) s)
    each c =
        let d = path_in m v c in
        iff_then (short_exactly d (withheld_by d s)) (λ h b. rw (full_is d s refl) (h b)) (λ h b. rw (full_is d s refl) at (h b))

-- where one set works, so does each that has its members
pub works_mono : (m : Market) (v : Interval) (s t : ℕ) → is_within t s ≡ true → works_in m v s ≡ true → works_in m v t ≡ true
unfolding works_in
works_mono m v s t e w =
    all_of (λ c. is_short (path_in m v c) t) v.constraints
    (λ c l. short_mono (path_in m v c) (withheld_by (path_in m v c) s) (withheld_by (path_in m v c) t) (withheld_mono (path_in m v c) t s e) (all_at (λ x. is_short (path_in m v x) s) v.constraints w c l))

-- ---- a set as a list of its members, each withholding all that it can
module _ (d : Path) (s : ℕ) where
  unfoldable pub members_to : ℕ → List Withheld
  members_to zero = []
  members_to (suc n) = cond (is_in n s) (record { who = n; amount = withholdable d n } ∷ members_to n) (members_to n)

  members_absent : (n p : ℕ) → n ≤ p → Absent p (members_to n)
  unfolding members_to Absent
  members_absent zero p h = tt
  members_absent (suc n) p h = go (is_in n s) (members_absent n p (omega arith))
    where
      go : (t : Bool) → Absent p (members_to n) → Absent p (cond t (record { who = n; amount = withholdable d n } ∷ members_to n) (members_to n))
      go true a = ((λ e. omega arith), a)
      go false a = a

  pub members_possible : ((p : ℕ) → bit p s ≡ 1 → NetSeller d p) → (n : ℕ) → Possible d (members_to n)
  unfolding members_to Possible
  members_possible of zero = tt
  members_possible of (suc n) = go (is_in n s) refl (members_possible of n)
    where
      go : (t : Bool) → is_in n s ≡ t → Possible d (members_to n) → Possible d (cond t (record { who = n; amount = withholdable d n } ∷ members_to n) (members_to n))
      go true e h = (of n (eqb-true _ _ e), le_refl (withholdable d n), members_absent n n (le_refl n), h)
      go false e h = h

  pub members_total : (n : ℕ) → total (members_to n) ≡ sum_to (part d s) n
  unfolding members_to total sum_to
  members_total zero = refl
  members_total (suc n) = go (is_in n s) (members_total n)
    where
      go : (t : Bool) → total (members_to n) ≡ sum_to (part d s) n → total (cond t (record { who = n; amount = withholdable d n } ∷ members_to n) (members_to n)) ≡ sum_to (part d s) n + cond t (withholdable d n) 0
      go true h = omega (arith, h)
      go false h = omega (arith, h)

  pub members_length : (n : ℕ) → length (members_to n) ≡ sum_to (λ p. cond (is_in p s) 1 0) n
  unfolding members_to sum_to
  members_length zero = refl
  members_length (suc n) = go (is_in n s) (members_length n)
    where
      go : (t : Bool) → length (members_to n) ≡ sum_to (λ p. cond (is_in p s) 1 0) n → length (cond t (record { who = n; amount = withholdable d n } ∷ members_to n) (members_to n)) ≡ sum_to (λ p. cond (is_in p s) 1 0) n + cond t 1 0
      go true h = omega (arith, h)
      go false h = omega (arith, h)

  -- as many as the ones of the number
  pub members_ones : (n : ℕ) → s < 2 ^ n → length (members_to n) ≡ ones s
  members_ones n h = members_length n ∙ sym (set_ones (λ p. is_in p s) n) ∙ ap ones (set_of_members n s h)

-- ---- and a list of sellers as a set
module _ (d : Path) where
  -- a member more adds what it can withhold
  sum_insert : (q m n : ℕ) → bit q m ≡ 0 → q < n → sum_to (part d (2 ^ q + m)) n ≡ withholdable d q + sum_to (part d m) n
  unfolding sum_to
  sum_insert q m zero z h = absurd (omega arith)
  sum_insert q m (suc n) z h = ⊎_elim here (λ l. before l (sum_insert q m n z l)) (last_or_before q n h)
    where
      others : (k : ℕ) → k ≤ q → sum_to (part d (2 ^ q + m)) k ≡ sum_to (part d m) k
      others k l = sum_same (part d (2 ^ q + m)) (part d m) k (λ p j. ap (λ (x : ℕ). cond (eqb x 1) (withholdable d p) 0) (add_bit_other p q m z (λ e. omega arith)))

      here : q ≡ n → sum_to (part d (2 ^ q + m)) n + part d (2 ^ q + m) n ≡ withholdable d q + (sum_to (part d m) n + part d m n)
      here e =
          let a : part d (2 ^ q + m) n ≡ withholdable d q = rw (← e) (ap (λ (t : Bool). cond t (withholdable d q) 0) (eq-eqb _ _ (add_bit_same q m z))) in
          let b : part d m n ≡ 0 = rw (← e) (ap (λ (t : Bool). cond t (withholdable d q) 0) (ne_eqb (bit q m) 1 (λ x. omega arith))) in
          omega (arith, others n (omega arith))

      before : q < n → sum_to (part d (2 ^ q + m)) n ≡ withholdable d q + sum_to (part d m) n → sum_to (part d (2 ^ q + m)) n + part d (2 ^ q + m) n ≡ withholdable d q + (sum_to (part d m) n + part d m n)
      before l ih =
          let a : part d (2 ^ q + m) n ≡ part d m n = ap (λ (x : ℕ). cond (eqb x 1) (withholdable d n) 0) (add_bit_other n q m z (λ e. omega arith)) in
          omega arith

  pub possible_distinct : (l : List Withheld) → Possible d l → Distinct l
  unfolding Possible Distinct
  possible_distinct [] h = tt
  possible_distinct (x ∷ l) h = (h.2, possible_distinct l h.3)

  pub possible_on : (l : List Withheld) → Possible d l → (p : ℕ) → On p l → NetSeller d p
  unfolding Possible On
  possible_on [] h p o = absurd o
  possible_on (x ∷ l) h p (inl e) = subst (NetSeller d) e h.0
  possible_on (x ∷ l) h p (inr o) = possible_on l h.3 p o

  -- the set withholds no less than the list
  pub total_by : (l : List Withheld) → Possible d l → total l ≤ withheld_by d (mask l)
  unfolding Possible total mask withheld_by
  total_by [] h = zero-le
  total_by (x ∷ l) h =
      let off = mask_absent x.who l (possible_distinct l h.3) h.2 in
      omega (arith, sum_insert x.who (mask l) d.portfolios off h.0.0, h.1, total_by l h.3)
