-- Which number an opening is refused with. Assumes nothing.
use mathlib.Core.Bool.{true, false, ◌&&◌}
use mathlib.Core.Logic.{⊎_elim}
use mathlib.Core.Path.{◌≡◌, ap, ◌∙◌}
use Prim.Native.Nat.{ℕ, zero, suc, ◌+◌, ◌≤◌, ◌<◌}
use native.Mathlib.Numerals.{add-one}
use native.Mathlib.Omega.{arith}
use borrow.Author.Tests.{leb-true}
use lib.Dec.{leb}
use lib.IntN.{pos}
use Rattle.rules_number.specs.Order.{in_range, nat_of}
use Rattle.rules_number.proofs.OverLaws.{both, last_or_before}
use Rattle.rules_curve.specs.Refusals.{◌then◌, each_to}
use Rattle.rules_opening.specs.Openings.{resource_at, counts_good, sellers_good, owners_good, opening_refusal}
use Rattle.rules_opening.specs.declared.Opening.{Opening}
use Rattle.rules_opening.specs.Resources.{resource_refusal}
use Rattle.rules_opening.proofs.ResourceLaws.{then_first}

-- a loop's turn, and its early end
module _ (f : ℕ → ℕ) where
  pub each_next : (i : ℕ) → each_to f i ≡ 0 → f i ≡ 0 → each_to f (i + 1) ≡ 0
  unfolding each_to
  each_next i a b = rw (add-one i, a, b)

  pub each_stops : (n i : ℕ) → i < n → each_to f i ≡ 0 → 0 < f i → each_to f n ≡ f i
  unfolding each_to
  each_stops zero i l a h = absurd (omega arith)
  each_stops (suc n) i l a h = ⊎_elim (λ e. rw (← e, a)) (λ k. let s = each_stops n i k a h in ap (λ (m : ℕ). m then f n) s ∙ then_first (f i) (f n) h) (last_or_before i n l)

-- ---- the number
module _ (o : Opening) where
  -- the first refusal of a resource
  abbrev pub each_refusal : ℕ
  each_refusal = each_to (λ k. resource_refusal (nat_of o.month) (resource_at o k)) o.resources

  pub refused_counts : counts_good o ≡ false → opening_refusal o ≡ 9
  unfolding opening_refusal
  refused_counts a = rw a

  pub refused_sellers : counts_good o ≡ true → sellers_good o ≡ false → opening_refusal o ≡ 10
  unfolding opening_refusal
  refused_sellers a b = rw (a, b)

  pub refused_owners : counts_good o ≡ true → sellers_good o ≡ true → owners_good o ≡ false → opening_refusal o ≡ 10
  unfolding opening_refusal
  refused_owners a b c = rw (a, b, c)

  pub each_left : counts_good o ≡ true → sellers_good o ≡ true → owners_good o ≡ true → opening_refusal o ≡ each_refusal
  unfolding opening_refusal
  each_left a b c = rw (a, b, c)

  -- the counts that pass leave room
  pub in_room : counts_good o ≡ true → (o.portfolios ≤ 16) × (o.resources ≤ 64)
  in_room e =
      let p = leb 1 o.portfolios && leb o.portfolios 16 in
      let r = leb 1 o.resources && leb o.resources 64 in
      let b = both p r (both (in_range (pos 1) (pos 1200) o.month) (p && r) e).1 in
      (leb-true o.portfolios 16 (both (leb 1 o.portfolios) (leb o.portfolios 16) b.0).1, leb-true o.resources 64 (both (leb 1 o.resources) (leb o.resources 64) b.1).1)
