-- Paper 02, 2.2, in full: the bid for the hour after every list of interval calls and passes on a freshly opened hour. Assumes nothing.
use mathlib.Core.List.Memᴰ
use mathlib.Core.List.{List, [], ◌∷◌, ◌++◌}
use mathlib.Core.Logic.{◌↔◌, ◌⊎◌, inl, inr, ⊎_elim}
use mathlib.Core.Path.{◌≡◌, refl, sym, ap, ◌∙◌}
use Prim.Native.Nat.{ℕ, suc, ◌≤◌, ◌<◌}
use lib.IntN.{ℤ}
use lib.ListN.{length}
use lib.Signed.{◌≤ℤ◌}
use Rattle.rules_number.specs.Least.{IsLeast}
use Rattle.rules_curve.specs.Curves.{steps_of, end_of, price_at}
use Rattle.rules_curve.specs.declared.Step.{Step}
use Rattle.rules_mitigation.specs.Mitigation.{blank_mitigated, used_steps}
use Rattle.rules_mitigation.specs.declared.Mitigated.{Mitigated}
use Rattle.rules_opening.specs.Openings.{opening_refusal}
use Rattle.rules_opening.specs.declared.Opening.{Opening}
use Rattle.rules_hour.specs.Hours.{curve_in, hour_refusal}
use Rattle.rules_pass.specs.Calls.{Request, interval, pass}
use Rattle.rules_hour_bid.specs.HourBids.{hour_bid_refusal, hour_bid_in, hour_bid_of}
use Rattle.rules_hour_bid.specs.Meaning.{joining, prefixes_from}
use Rattle.rules_hour_bid.proofs.HourBidIs.{twenty_exactly, zero_exactly, hour_bid, hour_bid_only, fourth_curve, hour_bid_twenty, refused_bid, given_bid}
use Rattle.statements.proofs.Curves.{Rises, Differ, rises, differ}
use Rattle.statements.proofs.Demand3.{bid}
use Rattle.statements.proofs.Passes.{hour, Intervals, intervals_are}

-- the lists of calls that end with each interval that returns 0, after the calls `before`
abbrev Ending : Opening → List Request → List Request → List (List Request)
Ending o before [] = []
Ending o before (interval v ∷ calls) = joining (hour_refusal (hour o before).hour v) (before ++ (interval v ∷ [])) (Ending o (before ++ (interval v ∷ [])) calls)
Ending o before (pass v ∷ calls) = Ending o (before ++ (pass v ∷ [])) calls

-- x is the lowest of four numbers: at most each, and one of them
abbrev LowestOf : ℤ → ℤ → ℤ → ℤ → ℤ → Type 0
LowestOf a b c d x = (x ≤ℤ a) × (x ≤ℤ b) × (x ≤ℤ c) × (x ≤ℤ d) × ((x ≡ a) ⊎ ((x ≡ b) ⊎ ((x ≡ c) ⊎ (x ≡ d))))

module _ (o : Opening) (calls : List Request) (r : ℕ) where
  -- the price of quantity q in the hour's curve after these calls
  abbrev P : List Request → ℕ → ℤ
  P c q = price_at (used_steps (curve_in (hour o c).hour r)) q

  -- "It takes, at each quantity, the lowest of the four intervals' curves (34.1.5.3), neighbours with one price merged."
  abbrev Takes : List Request → List Request → List Request → List Request → ℕ → List Step → Type 0
  Takes first second third fourth p l =
      (p ≡ (bid o r).start) × (end_of p l ≡ end_of (bid o r).start (steps_of (bid o r))) × Rises p l × Differ l
      × ((q : ℕ) → (bid o r).start ≤ q → q < end_of (bid o r).start (steps_of (bid o r)) → LowestOf (P first q) (P second q) (P third q) (P fourth q) (price_at l q))

  -- of the curve that is given
  pub record HourBidIs (given : Mitigated) : Type 0 where
    pub first : List Request
    pub second : List Request
    pub third : List Request
    pub fourth : List Request
    pub four : Ending o [] calls ≡ first ∷ second ∷ third ∷ fourth ∷ []
    -- this curve, and no other
    pub takes : (p : ℕ) (l : List Step) → ((p ≡ given.start) × (l ≡ used_steps given)) ↔ Takes first second third fourth p l
    -- "while cuts carry on, this is the fourth curve. Room of 19 steps must be enough", 20 since a default curve may have 11.
    pub fourth_curve : given ≡ curve_in (hour o fourth).hour r
    pub twenty_steps : given.count ≤ 20

  abbrev pub HourBidSays : Type 0
  HourBidSays = HourBidIs (hour_bid_of (hour o calls) r)

-- ---- from the theorems
ending_is : (o : Opening) (calls before : List Request) → prefixes_from o before calls ≡ Ending o before calls
unfolding prefixes_from
ending_is o [] before = refl
ending_is o (interval v ∷ calls) before =
    ap (joining (hour_refusal (hour o before).hour v) (before ++ (interval v ∷ []))) (ending_is o calls (before ++ (interval v ∷ [])))
ending_is o (pass v ∷ calls) before = ending_is o calls (before ++ (pass v ∷ []))

lowest_is : (a b c d x : ℤ) → IsLeast a (b ∷ c ∷ d ∷ []) x ↔ LowestOf a b c d x
lowest_is a b c d x = (
  (λ h. (
    h.at_most_first,
    h.at_most_each b (Memᴰ.head refl),
    h.at_most_each c (Memᴰ.tail (Memᴰ.head refl)),
    h.at_most_each d (Memᴰ.tail (Memᴰ.tail (Memᴰ.head refl))),
    ⊎_elim inl
        (λ m. inr (⊎_elim inl (λ n. inr (⊎_elim inl (λ k. inr (⊎_elim (λ e. e) (λ j. absurd (Memᴰ.not-nil j)) (Memᴰ.cases_cons k))) (Memᴰ.cases_cons n))) (Memᴰ.cases_cons m))) h.attained,
  )),
  λ h. record {
    at_most_first = h.0;
    at_most_each = λ y m.
        ⊎_elim (λ e. rw e h.1)
        (λ n. ⊎_elim (λ e. rw e h.2) (λ k. ⊎_elim (λ e. rw e h.3) (λ j. absurd (Memᴰ.not-nil j)) (Memᴰ.cases_cons k)) (Memᴰ.cases_cons n)) (Memᴰ.cases_cons m);
    attained =
        ⊎_elim inl
        (λ z. inr (⊎_elim Memᴰ.head (λ y. Memᴰ.tail (⊎_elim Memᴰ.head (λ w. Memᴰ.tail (Memᴰ.head w)) y)) z)) h.4;
  },
)

module _ (o : Opening) (opened : opening_refusal o ≡ 0) (calls : List Request) where
  -- "20, fewer than four intervals accepted, the only check"; a refusal hands back the blank curve
  pub twenty : ((hour_bid_refusal (hour o calls) ≡ 20) ↔ (length (Intervals o calls) < 4)) × ((hour_bid_refusal (hour o calls) ≡ 0) ↔ (length (Intervals o calls) ≡ 4))
      × ((r n : ℕ) → hour_bid_refusal (hour o calls) ≡ suc n → hour_bid_of (hour o calls) r ≡ blank_mitigated)
  twenty = rw (← intervals_are o opened calls) (twenty_exactly o opened calls, zero_exactly o opened calls, λ r n e. refused_bid (hour o calls) r n e)

  pub hour_bid_says : (r : ℕ) → r < o.resources → hour_bid_refusal (hour o calls) ≡ 0 → HourBidSays o calls r
  hour_bid_says r l full =
      let h = hour_bid o opened calls r l full in
      let same = given_bid (hour o calls) r full in
      let low : (q : ℕ) (x : ℤ) → IsLeast (P o calls r h.first q) (P o calls r h.second q ∷ P o calls r h.third q ∷ P o calls r h.fourth q ∷ []) x ↔ LowestOf (P o calls r h.first q) (P o calls r h.second q) (P o calls r h.third q) (P o calls r h.fourth q) x
      = λ q x. lowest_is (P o calls r h.first q) (P o calls r h.second q) (P o calls r h.third q) (P o calls r h.fourth q) x in
      record {
        first = h.first;
        second = h.second;
        third = h.third;
        fourth = h.fourth;
        four = sym (ending_is o calls []) ∙ h.four;
        takes = λ p k. (
          (λ e. rw (e.0, e.1, same) (
            h.lowest.starts,
            h.lowest.ends,
            (rises (hour_bid_in (hour o calls) r).start (used_steps (hour_bid_in (hour o calls) r))).0 h.lowest.rising,
            (differ (used_steps (hour_bid_in (hour o calls) r))).0 h.lowest.apart,
            λ q a b. (low q (price_at (used_steps (hour_bid_in (hour o calls) r)) q)).0 (h.lowest.price q (record { from_start = a; below_end = b })),
          )),
          λ t. rw same
              (hour_bid_only o opened calls r l full p k
              (record {
                first = h.first;
                second = h.second;
                third = h.third;
                fourth = h.fourth;
                four = h.four;
                lowest = record {
                  price = λ q i. (low q (price_at k q)).1 (t.4 q i.from_start i.below_end);
                  starts = t.0;
                  ends = t.1;
                  rising = (rises p k).1 t.2;
                  apart = (differ k).1 t.3;
                };
              })),
        );
        fourth_curve = same ∙ fourth_curve o opened calls r l full h.first h.second h.third h.fourth h.four;
        twenty_steps = rw same (hour_bid_twenty o opened calls r l full);
      }
