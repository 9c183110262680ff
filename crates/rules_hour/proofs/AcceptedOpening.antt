-- What an accepted opening is like: its counts, its bids and default curves, and the rows and floor prices of its fresh hour.
use mathlib.Core.Bool.{true, ◌&&◌}
use mathlib.Core.Path.{◌≡◌, refl, ap, subst, ◌∙◌}
use Prim.Native.Nat.{ℕ, zero, suc, ◌≤◌, ◌<◌}
use native.Mathlib.Omega.{arith}
use borrow.Author.Tests.{leb-true}
use lib.Dec.{leb}
use lib.IntN.{pos}
use lib.ListN.{length, replicate, get_or}
use lib.Signed.{◌≤ℤ◌, ◌<ℤ◌}
use Rattle.rules_number.specs.Order.{in_range, nat_of}
use Rattle.rules_number.proofs.OverLaws.{both, all_at}
use Rattle.rules_number.proofs.ExactLaws.{le_z_exactly, lt_z_exactly, and_exactly}
use Rattle.rules_curve.specs.Refusals.{unless, ◌then◌, each_to}
use Rattle.rules_curve.specs.Curves.{bid_refusal, lowest_bid, highest_bid, lowest_default, highest_default, default_refusal, curve_of, pack_unless}
use Rattle.rules_curve.specs.declared.RawCurve.{RawCurve}
use Rattle.rules_curve.proofs.Answered.{packed_taken}
use Rattle.rules_curve.specs.Meaning.{Sound, SoundBid}
use Rattle.rules_curve.proofs.CheckLaws.{then_both, unless_holds, each_at, bid_checked, default_checked}
use Rattle.rules_mitigation.specs.Meaning.{Inside}
use Rattle.rules_cost.proofs.DefaultCurve.{cost_sound}
use Rattle.rules_hour.specs.Hours.{uncut, fresh_standing, blank_hour, no_row, row_at, floor_in}
use Rattle.rules_opening.specs.Openings.{resource_at, counts_good, is_known, sellers_good, owners_good, members_good, opening_refusal, blank_market}
use Rattle.rules_hour.specs.Opened.{fresh_hour, hour_unless, opened_hour}
use Rattle.rules_hour.specs.Demand3.{submitted, default_of}
use Rattle.rules_opening.specs.declared.Source.{Source}
use Rattle.rules_opening.specs.declared.Source.TheVariants as source
use Rattle.rules_opening.specs.declared.Resource.{Resource}
use Rattle.rules_opening.specs.declared.Opening.{Opening}
use Rattle.rules_number.proofs.CellLaws.{cell_listed}
use Rattle.rules_opening.specs.Resources.{blank_row, default_by, lies_inside, resource_refusal, row_of, source_refusal}

-- a default curve that passes its checks is sound
default_sound_by : (s : Source) (x : Resource) → source_refusal s x ≡ 0 → Sound (default_by s x)
default_sound_by source.Costs x e = cost_sound x.costs e
default_sound_by source.Pack x e = default_checked lowest_default highest_default x.pack e

-- a curve made for a pack was not refused, and is the resource's default curve
packed_by : (s : Source) (x : Resource) (n : ℕ) (c : RawCurve) → source_refusal s x ≡ 0 → s ≡ source.Pack → x.pack ≡ pack_unless n c → (n ≡ 0) × (default_by s x ≡ curve_of c)
packed_by s x n c passes is e =
    let taken = packed_taken n c (subst (λ (k : RawCurve). default_refusal k ≡ 0) e (rw is at passes)) in
    (taken, rw is (ap curve_of (e ∙ ap (λ (k : ℕ). pack_unless k c) taken)))

-- "A refusal returns its number alone": an opening that is refused hands back the hour of no resources
pub refused_opening : (o : Opening) → 0 < opening_refusal o → opened_hour o ≡ record { market = blank_market; rows = replicate 64 blank_row; standing = record { accepted = 0; floors = replicate 64 uncut } }
unfolding opened_hour blank_hour fresh_standing
refused_opening o some = go (opening_refusal o) some
  where
    go : (n : ℕ) → 0 < n → hour_unless n (fresh_hour o) ≡ record { market = blank_market; rows = replicate 64 blank_row; standing = record { accepted = 0; floors = replicate 64 uncut } }
    go zero h = absurd (omega arith)
    go (suc n) h = refl

module _ (o : Opening) (accepted : opening_refusal o ≡ 0) where
  -- opening hands back the fresh hour
  pub opened_hour_lem : opened_hour o ≡ fresh_hour o
  unfolding opened_hour
  opened_hour_lem = rw accepted

  -- 9, 10 and every resource's check let it pass
  pub checks : (counts_good o ≡ true) × (members_good o ≡ true) × (each_to (λ r. resource_refusal (nat_of o.month) (resource_at o r)) o.resources ≡ 0)
  unfolding opening_refusal
  checks =
      let x = then_both (unless (counts_good o) 9 then unless (members_good o) 10) (each_to (λ r. resource_refusal (nat_of o.month) (resource_at o r)) o.resources) accepted in
      let y = then_both (unless (counts_good o) 9) (unless (members_good o) 10) x.0 in
      (unless_holds (counts_good o) 8 y.0, unless_holds (members_good o) 9 y.1, x.1)

  -- at most 16 portfolios, and one to 64 resources
  pub few : (o.portfolios ≤ 16) × (0 < o.resources) × (o.resources ≤ 64)
  few =
      let counts = both (leb 1 o.portfolios && leb o.portfolios 16) (leb 1 o.resources && leb o.resources 64) (both (in_range (pos 1) (pos 1200) o.month) _ checks.0).1 in
      let p = both (leb 1 o.portfolios) (leb o.portfolios 16) counts.0 in
      let r = both (leb 1 o.resources) (leb o.resources 64) counts.1 in
      (leb-true _ _ p.1, leb-true _ _ r.0, leb-true _ _ r.1)

  -- each resource's portfolio is a declared one
  pub owner_known : (r : ℕ) → r < o.resources → (pos 0 ≤ℤ (resource_at o r).portfolio) × ((resource_at o r).portfolio <ℤ pos o.portfolios)
  unfolding owners_good
  owner_known r l =
      let x = (resource_at o r).portfolio in
      let known = all_at (λ i. is_known o.portfolios (resource_at o i).portfolio) o.resources (both (sellers_good o) (owners_good o) checks.1).1 r l in
      (and_exactly _ _ (le_z_exactly (pos 0) x) (lt_z_exactly x (pos o.portfolios))).0 known

  module _ (r : ℕ) (l : r < o.resources) where
    -- bid, costs or pack, and 11 let it pass
    pub resource_checks : (bid_refusal (nat_of o.month) (resource_at o r).bid ≡ 0)
        × (source_refusal (resource_at o r).source (resource_at o r) ≡ 0) × (lies_inside (submitted o r) (default_of o r) ≡ true)
    unfolding resource_refusal
    resource_checks =
        let x = resource_at o r in
        let first = bid_refusal (nat_of o.month) x.bid in
        let second = source_refusal x.source x in
        let third = unless (lies_inside (submitted o r) (default_of o r)) 11 in
        let good : resource_refusal (nat_of o.month) x ≡ 0 = each_at (λ i. resource_refusal (nat_of o.month) (resource_at o i)) o.resources checks.2 r l in
        let y = then_both (first then second) third good in
        let z = then_both first second y.0 in
        (z.0, z.1, unless_holds (lies_inside (submitted o r) (default_of o r)) 10 y.1)

    -- the submitted bid has at most ten steps, rises and never falls
    pub bid_sound : SoundBid (submitted o r)
    bid_sound = bid_checked lowest_bid (highest_bid (nat_of o.month)) (resource_at o r).bid resource_checks.0

    -- so does its default curve
    pub default_sound : Sound (default_of o r)
    default_sound = default_sound_by (resource_at o r).source (resource_at o r) resource_checks.1

    pub packed_default : (n : ℕ) (c : RawCurve) → (resource_at o r).source ≡ source.Pack → (resource_at o r).pack ≡ pack_unless n c → (n ≡ 0) × (default_of o r ≡ curve_of c)
    packed_default n c = packed_by (resource_at o r).source (resource_at o r) n c resource_checks.1

    -- the bid reaches nowhere outside it
    pub bid_inside : Inside (submitted o r) (default_of o r)
    unfolding lies_inside
    bid_inside =
        let b = both _ _ resource_checks.2 in
        record { begins = leb-true _ _ b.0; ends = leb-true _ _ b.1 }

-- ---- the fresh hour
-- no floor price is cut yet
pub none_cut : (n r : ℕ) → get_or (replicate n uncut) r uncut ≡ uncut
none_cut zero r = refl
none_cut (suc n) zero = refl
none_cut (suc n) (suc r) = none_cut n r

module _ (o : Opening) where
  -- a row for each resource
  pub fresh_row : (r : ℕ) → r < o.resources → row_at (fresh_hour o) r ≡ row_of (resource_at o r)
  unfolding fresh_hour row_of
  fresh_row r l = cell_listed 64 blank_row no_row (λ i. row_of (resource_at o i)) o.resources r l

  -- a floor price for each, none yet
  pub fresh_room : opening_refusal o ≡ 0 → o.resources ≤ length (fresh_hour o).standing.floors
  unfolding fresh_hour fresh_standing
  fresh_room accepted = (few o accepted).2

  pub fresh_floor : (r : ℕ) → r < o.resources → floor_in (fresh_hour o) r ≡ uncut
  unfolding fresh_hour fresh_standing
  fresh_floor r l = none_cut 64 r
