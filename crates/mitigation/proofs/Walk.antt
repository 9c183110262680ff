-- The walk along a bid and its default curve: what the loop of `divided` keeps, and one lemma for each way through its body.
use mathlib.Core.Bool.{false}
use mathlib.Core.List.{List, [], ◌∷◌, ◌++◌, append_assoc, append-nil}
use mathlib.Core.Path.{◌≡◌, refl, ap, sym, ◌∙◌}
use Prim.Native.Nat.{ℕ, zero, suc, ◌+◌, ◌-◌, ◌<◌, ◌≤◌}
use native.Mathlib.Omega.{arith}
use native.Mathlib.Nat.{sub-zero}
use native.Mathlib.Numerals.{add-one}
use lib.IntN.{ℤ}
use lib.ListN.{length, drop, get_or, set, replicate, length-append, drop_of_length-le}
use lib.Seq.{drop-cons}
use Rattle.rules_number.specs.Order.{eq_z}
use Rattle.rules_number.specs.Over.{padded}
use Rattle.rules_number.proofs.OverLaws.{padded_more}
use Rattle.rules_curve.specs.Curves.{step_to, blank_step}
use Rattle.rules_mitigation.specs.Mitigation.{most_mitigated_steps, segments_n, segments, joined, joined_after, mitigated_of}
use Rattle.rules_mitigation.proofs.SegmentLaws.{segments_skip, segments_default, segments_bid, joined_same, joined_other}
use Rattle.rules_curve.specs.declared.Step.{Step}
use Rattle.rules_mitigation.specs.declared.Mitigated.{Mitigated}

-- what is left of the segments from the bid's step i and the default curve's step j on
abbrev pub rest_of : (ℤ → ℤ → ℤ) → List Step → List Step → ℕ → ℕ → ℕ → List Step
rest_of f bs ds at i j = segments_n f ((length bs - i) + (length ds - j)) at (drop i bs) (drop j ds)

-- a turn of the walk: what is left before it, by what is left after it
module _ (f : ℤ → ℤ → ℤ) (bs ds : List Step) (at i j : ℕ) where
  module _ (e b d : Step) (hi : i < length bs) (hj : j < length ds) (eb : get_or bs i e ≡ b) (ed : get_or ds j e ≡ d) where
    one : (length bs - i) + (length ds - j) ≡ suc ((length bs - i) + (length ds - (j + 1)))
    one = omega arith

    one' : (length bs - i) + (length ds - j) ≡ suc ((length bs - (i + 1)) + (length ds - j))
    one' = omega arith

    opened : drop i bs ≡ b ∷ drop (i + 1) bs
    opened = rw (add-one, ← eb) (drop-cons bs i e hi)

    opened' : drop j ds ≡ d ∷ drop (j + 1) ds
    opened' = rw (add-one, ← ed) (drop-cons ds j e hj)

    pub rest_skip : d.end ≤ at → rest_of f bs ds at i j ≡ rest_of f bs ds at i (j + 1)
    rest_skip h = rw (one, opened, opened') (segments_skip f _ at _ _ _ _ h)

    pub rest_default : at < d.end → d.end < b.end → rest_of f bs ds at i j ≡ step_to d.end (f b.price d.price) ∷ rest_of f bs ds d.end i (j + 1)
    rest_default h k = rw (one, opened, opened') (segments_default f _ at _ _ _ _ h k)

    pub rest_bid : at < d.end → b.end ≤ d.end → rest_of f bs ds at i j ≡ step_to b.end (f b.price d.price) ∷ rest_of f bs ds b.end (i + 1) j
    rest_bid h k = rw (one', opened, opened') (segments_bid f _ at _ _ _ _ h k)

  -- nothing is left past the bid, nor past the default curve
  pub rest_bid_end : length bs ≤ i → rest_of f bs ds at i j ≡ []
  unfolding segments_n
  rest_bid_end h = nothing ((length bs - i) + (length ds - j))
    where
      none : drop i bs ≡ []
      none = drop_of_length-le bs h

      nothing : (m : ℕ) → segments_n f m at (drop i bs) (drop j ds) ≡ []
      nothing zero = refl
      nothing (suc m) = rw none

  pub rest_default_end : length ds ≤ j → rest_of f bs ds at i j ≡ []
  unfolding segments_n
  rest_default_end h = nothing ((length bs - i) + (length ds - j)) (drop i bs)
    where
      none : drop j ds ≡ []
      none = drop_of_length-le ds h

      nothing : (m : ℕ) (l : List Step) → segments_n f m at l (drop j ds) ≡ []
      nothing zero l = refl
      nothing (suc m) [] = refl
      nothing (suc m) (x ∷ l) = rw none

pub record Walked (f : ℤ → ℤ → ℤ) (bs ds : List Step) (start : ℕ) (steps : List Step) (at i j n : ℕ) : Type 0 where
  pub done : List Step
  pub counted : length done ≡ n
  pub few : n ≤ i + j
  pub in_bid : i ≤ length bs
  pub in_default : j ≤ length ds
  pub held : steps ≡ padded most_mitigated_steps blank_step done
  pub left : done ++ rest_of f bs ds at i j ≡ segments f start bs ds

module _ (f : ℤ → ℤ → ℤ) (bs ds : List Step) (start : ℕ) where
  pub walked_start : Walked f bs ds start (replicate most_mitigated_steps blank_step) start 0 0 0
  unfolding padded
  walked_start = record { done = []; counted = refl; few = omega arith; in_bid = omega arith; in_default = omega arith; held = refl; left = rw (sub-zero, sub-zero) }

  module _ (steps : List Step) (at i j n : ℕ) (e b d : Step) (w : Walked f bs ds start steps at i j n) (hi : i < length bs) (hj : j < length ds) (eb : get_or bs i e ≡ b) (ed : get_or ds j e ≡ d) where
    pub walked_skip : d.end ≤ at → Walked f bs ds start steps at i (j + 1) n
    walked_skip h = record {
      done = w.done;
      counted = w.counted;
      few = omega arith;
      in_bid = omega arith;
      in_default = omega arith;
      held = w.held;
      left = ap (λ (l : List Step). w.done ++ l) (sym (rest_skip f bs ds at i j e b d hi hj eb ed h)) ∙ w.left;
    }

    module _ (few : n < most_mitigated_steps) (p : ℤ) (is : p ≡ f b.price d.price) (h : at < d.end) where
      pub walked_default : d.end < b.end → Walked f bs ds start (set steps n (step_to d.end p)) d.end i (j + 1) (n + 1)
      walked_default k = record {
        done = w.done ++ (step_to d.end p ∷ []);
        counted = length-append w.done _ ∙ ap (λ (m : ℕ). m + 1) w.counted;
        few = omega arith;
        in_bid = omega arith;
        in_default = omega arith;
        held = rw w.held (padded_more most_mitigated_steps blank_step w.done n _ w.counted few);
        left = append_assoc w.done _ _ ∙ rw is (ap (λ (l : List Step). w.done ++ l) (sym (rest_default f bs ds at i j e b d hi hj eb ed h k)) ∙ w.left);
      }

      pub walked_bid : b.end ≤ d.end → Walked f bs ds start (set steps n (step_to b.end p)) b.end (i + 1) j (n + 1)
      walked_bid k = record {
        done = w.done ++ (step_to b.end p ∷ []);
        counted = length-append w.done _ ∙ ap (λ (m : ℕ). m + 1) w.counted;
        few = omega arith;
        in_bid = omega arith;
        in_default = omega arith;
        held = rw w.held (padded_more most_mitigated_steps blank_step w.done n _ w.counted few);
        left = append_assoc w.done _ _ ∙ rw is (ap (λ (l : List Step). w.done ++ l) (sym (rest_bid f bs ds at i j e b d hi hj eb ed h k)) ∙ w.left);
      }

  module _ (steps : List Step) (at i j n : ℕ) (w : Walked f bs ds start steps at i j n) where
    ended : (w.done ≡ segments f start bs ds) → ◌≡◌ {A = Mitigated} (record { start = start; count = n; steps = steps }) (mitigated_of start (segments f start bs ds))
    ended x = rw (← x, w.held, ← w.counted)

    pub walked_bid_end : length bs ≤ i → ◌≡◌ {A = Mitigated} (record { start = start; count = n; steps = steps }) (mitigated_of start (segments f start bs ds))
    walked_bid_end h = ended (sym (append-nil w.done) ∙ ap (λ (l : List Step). w.done ++ l) (sym (rest_bid_end f bs ds at i j h)) ∙ w.left)

    pub walked_default_end : length ds ≤ j → ◌≡◌ {A = Mitigated} (record { start = start; count = n; steps = steps }) (mitigated_of start (segments f start bs ds))
    walked_default_end h = ended (sym (append-nil w.done) ∙ ap (λ (l : List Step). w.done ++ l) (sym (rest_default_end f bs ds at i j h)) ∙ w.left)

-- ---- joining
pub record Joining (l : List Step) (steps : List Step) (last : Step) (i n : ℕ) : Type 0 where
  pub done : List Step
  pub counted : length done ≡ n
  pub few : n < i
  pub within : i ≤ length l
  pub held : steps ≡ padded most_mitigated_steps blank_step done
  pub left : done ++ joined_after last (drop i l) ≡ joined l

pub joining_start : (l : List Step) (e last : Step) → 0 < length l → get_or l 0 e ≡ last → Joining l (replicate most_mitigated_steps blank_step) last 1 0
unfolding joined padded
joining_start [] e last h x = absurd (omega arith)
joining_start (s ∷ l) e last h x = record { done = []; counted = refl; few = omega arith; within = omega arith; held = refl; left = rw x }

module _ (l steps : List Step) (last : Step) (i n : ℕ) (w : Joining l steps last i n) where
  module _ (e s : Step) (h : i < length l) (es : get_or l i e ≡ s) where
    next : drop i l ≡ s ∷ drop (i + 1) l
    next = rw (add-one, ← es) (drop-cons l i e h)

    pub joining_same : last.price ≡ s.price → Joining l steps s (i + 1) n
    joining_same x = record {
      done = w.done;
      counted = w.counted;
      few = omega arith;
      within = omega arith;
      held = w.held;
      left = ap (λ (t : List Step). w.done ++ t) (sym (rw next (joined_same last s _ x))) ∙ w.left;
    }

    pub joining_other : eq_z last.price s.price ≡ false → n < most_mitigated_steps → Joining l (set steps n last) s (i + 1) (n + 1)
    joining_other x few = record {
      done = w.done ++ (last ∷ []);
      counted = length-append w.done _ ∙ ap (λ (m : ℕ). m + 1) w.counted;
      few = omega arith;
      within = omega arith;
      held = rw w.held (padded_more most_mitigated_steps blank_step w.done n _ w.counted few);
      left = append_assoc w.done _ _ ∙ ap (λ (t : List Step). w.done ++ t) (sym (rw next (joined_other last s _ x))) ∙ w.left;
    }

  pub joining_end : (start : ℕ) → length l ≤ i → n < most_mitigated_steps → ◌≡◌ {A = Mitigated} (record { start = start; count = n + 1; steps = set steps n last }) (mitigated_of start (joined l))
  unfolding joined_after
  joining_end start h few = rw (← whole, w.held, padded_more most_mitigated_steps blank_step w.done n last w.counted few, counts)
    where
      whole : w.done ++ (last ∷ []) ≡ joined l
      whole = ap (λ (t : List Step). w.done ++ joined_after last t) (sym (drop_of_length-le l h)) ∙ w.left

      counts : n + 1 ≡ length (w.done ++ (last ∷ []))
      counts = omega (arith, length-append w.done (last ∷ []), w.counted)

pub joined_none : (l : List Step) → length l ≡ 0 → joined l ≡ []
unfolding joined
joined_none [] e = refl
joined_none (s ∷ l) e = absurd (omega arith)
