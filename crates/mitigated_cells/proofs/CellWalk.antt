-- The walk along the bid and the default curve of a row of cells: what the loop of `put_steps` keeps, and one lemma for each way through its body. Assumes nothing.
use mathlib.Core.Bool.{false}
use mathlib.Core.List.{List, [], ◌∷◌}
use mathlib.Core.Logic.{inl}
use mathlib.Core.Path.{◌≡◌, refl, ap, ◌∙◌}
use Prim.Native.Nat.{ℕ, ◌+◌, ◌<◌, ◌≤◌, min}
use native.Mathlib.Omega.{arith}
use native.Mathlib.Nat.{sub-zero}
use lib.IntN.{ℤ}
use lib.ListN.{length, get_or, set, length-set, length-take}
use Rattle.rules_number.specs.Order.{nat_of, eq_z}
use Rattle.rules_number.proofs.OverLaws.{listed_at, listed_length, taken_at}
use Rattle.rules_curve.specs.Curves.{most_steps, most_bid_steps, step_to, blank_step, steps_of, bid_steps}
use Rattle.rules_curve.specs.declared.Step.{Step}
use Rattle.rules_curve.proofs.CheckLaws.{bid_at_lem}
use Rattle.rules_mitigation.specs.Mitigation.{segments, joined}
use Rattle.mitigation.proofs.Walk.{rest_of, rest_skip, rest_default, rest_bid}
use Rattle.rules_library.specs.Slices.{cell_at}
use Rattle.rules_state.specs.States.{curve_in_cells}
use Rattle.mitigated_cells.proofs.PutLaws.{Reached, put_next, Ended, put_ended}

-- ---- a curve in cells
abbrev pub step_in : List ℤ → ℕ → ℕ → Step
step_in st from k = step_to (nat_of (cell_at st (from + 2 + k))) (cell_at st (from + 2 + most_steps + k))

module _ (st : List ℤ) (from : ℕ) where
  steps_length : length (curve_in_cells st from).steps ≡ most_steps
  unfolding curve_in_cells
  steps_length = listed_length (step_in st from) most_steps

  steps_at : (k : ℕ) → k < most_steps → get_or (curve_in_cells st from).steps k blank_step ≡ step_in st from k
  unfolding curve_in_cells
  steps_at k h = listed_at (step_in st from) blank_step most_steps k h

  pub start_is : (curve_in_cells st from).start ≡ nat_of (cell_at st (from + 1))
  unfolding curve_in_cells
  start_is = refl

  -- how many steps it uses, and those
  pub used_length : length (steps_of (curve_in_cells st from)) ≡ min (nat_of (cell_at st from)) most_steps
  unfolding curve_in_cells
  used_length = omega (arith, length-take (nat_of (cell_at st from)) (curve_in_cells st from).steps, steps_length)

  pub used_at : (k : ℕ) → k < length (steps_of (curve_in_cells st from)) → get_or (steps_of (curve_in_cells st from)) k blank_step ≡ step_in st from k
  used_at k h = taken_at (curve_in_cells st from).count (curve_in_cells st from).steps k blank_step h ∙ steps_at k (omega (arith, used_length))

  -- the same of a bid
  pub bid_length : length (bid_steps (curve_in_cells st from)) ≡ min (nat_of (cell_at st from)) most_bid_steps
  bid_length = omega (arith, length-take most_bid_steps (steps_of (curve_in_cells st from)), used_length)

  pub bid_step_at : (k : ℕ) → k < length (bid_steps (curve_in_cells st from)) → get_or (bid_steps (curve_in_cells st from)) k blank_step ≡ step_in st from k
  bid_step_at k h = bid_at_lem (curve_in_cells st from) k h ∙ steps_at k (omega (arith, bid_length))

-- ---- the walk
pub record Walking (f : ℤ → ℤ → ℤ) (bs ds : List Step) (start : ℕ) (s₀ now : List Step) (at : ℕ) (last : ℤ) (i j n : ℕ) : Type 0 where
  pub few : n ≤ i + j
  pub in_bid : i ≤ length bs
  pub in_default : j ≤ length ds
  pub long : length now ≡ length s₀
  pub reached : Reached (joined (segments f start bs ds)) s₀ now last n (rest_of f bs ds at i j)

module _ (f : ℤ → ℤ → ℤ) (bs ds : List Step) (start : ℕ) (s₀ : List Step) where
  pub walking_start : (last : ℤ) → Walking f bs ds start s₀ s₀ start last 0 0 0
  walking_start last = record {
    few = omega arith;
    in_bid = omega arith;
    in_default = omega arith;
    long = refl;
    reached = inl (record { none = refl; same = refl; left = rw (sub-zero (length bs), sub-zero (length ds)) });
  }

  module _ (now : List Step) (at : ℕ) (last : ℤ) (i j n : ℕ) (w : Walking f bs ds start s₀ now at last i j n) where
    pub walking_ended : rest_of f bs ds at i j ≡ [] → Ended (joined (segments f start bs ds)) s₀ now n
    walking_ended e = put_ended (rw e at w.reached)

    module _ (b d : Step) (hi : i < length bs) (hj : j < length ds) (eb : get_or bs i blank_step ≡ b) (ed : get_or ds j blank_step ≡ d) where
      pub walking_skip : d.end ≤ at → Walking f bs ds start s₀ now at last i (j + 1) n
      walking_skip h = record {
        few = omega (arith, w.few);
        in_bid = w.in_bid;
        in_default = omega arith;
        long = w.long;
        reached = rw (rest_skip f bs ds at i j blank_step b d hi hj eb ed h) at w.reached;
      }

      module _ (k to : ℕ) (p : ℤ) (is : p ≡ f b.price d.price) (h : at < d.end)
          (now' : List Step) (put : now' ≡ set now k (step_to to p))
          (first : n ≡ 0 → k ≡ 0) (same : 0 < n → last ≡ p → k + 1 ≡ n) (other : 0 < n → eq_z last p ≡ false → k ≡ n) (most : k ≤ n) where
        pub walking_default : d.end < b.end → to ≡ d.end → Walking f bs ds start s₀ now' to p i (j + 1) (k + 1)
        walking_default l e =
            let r : rest_of f bs ds at i j ≡ step_to to p ∷ rest_of f bs ds to i (j + 1) = rw (e, is) (rest_default f bs ds at i j blank_step b d hi hj eb ed h l) in
            record {
              few = omega (arith, w.few);
              in_bid = w.in_bid;
              in_default = omega arith;
              long = ap length put ∙ length-set now k (step_to to p) ∙ w.long;
              reached = rw put (put_next (step_to to p) (rest_of f bs ds to i (j + 1)) k (rw r at w.reached) first same other);
            }

        pub walking_bid : b.end ≤ d.end → to ≡ b.end → Walking f bs ds start s₀ now' to p (i + 1) j (k + 1)
        walking_bid l e =
            let r : rest_of f bs ds at i j ≡ step_to to p ∷ rest_of f bs ds to (i + 1) j = rw (e, is) (rest_bid f bs ds at i j blank_step b d hi hj eb ed h l) in
            record {
              few = omega (arith, w.few);
              in_bid = omega arith;
              in_default = w.in_default;
              long = ap length put ∙ length-set now k (step_to to p) ∙ w.long;
              reached = rw put (put_next (step_to to p) (rest_of f bs ds to (i + 1) j) k (rw r at w.reached) first same other);
            }
