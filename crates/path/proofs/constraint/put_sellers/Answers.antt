use mathlib.Core.List.{List, [], map}
use mathlib.Core.Path.{◌≡◌, refl, sym, ap, ◌∙◌}
use Prim.Native.Nat.{ℕ, ◌≤◌, ◌<◌, ◌+◌, ◌-◌, ◌*◌, ◌^◌}
use native.Mathlib.Omega.{arith}
use lib.IntN.{ℤ, pos}
use lib.ListN.{length, set, replicate, length-set, length-map}
use lib.Pow.{pow_mono}
use lib.Seq.{sets}
use mir.Facts.{to_z_pos}
use mir.Syntax.{w64}
use mir.Val.{to_z}
use Rattle.rules_path.specs.Paths.{at, largest, top, total, mask}
use Rattle.rules_path.proofs.LargestLaws.{struck_le}
use Rattle.rules_path.proofs.TopLaws.{stored, stored_all, total_taken, mask_taken, stored_taken, stopped, total_bound, mask_bound}
use Rattle.rules_state.specs.States.{cell_of}
use Rattle.path.specs.Tallies.{Clear, top_of, withheld_cells}
use Rattle.path.proofs.CellLaws.{set_in, map_set}
use Rattle.path.proofs.constraint.put_sellers.Invariants.{Held-so-far}
use Rattle.path.proofs.constraint.put_sellers.Goals as goal
use Rattle.path.proofs.constraint.put_sellers.Goals.{Else-amount-eq0}

module _ (w₀ w : List ℕ) (ports t m : ℕ) (before out : List ℤ) (from k : ℕ) (h : Held-so-far w₀ w ports t m before out from k) where
  -- none is left
  finished : top k w 16 ≡ [] → (record { total = t; named = m } ≡ top_of (top 3 w₀ 16)) × (out ≡ sets before from (withheld_cells (top 3 w₀ 16)))
  unfolding total mask stored
  finished e =
      let x : t ≡ total (top 3 w₀ 16) = omega (arith, rw e at h.sum) in
      let y : m ≡ mask (top 3 w₀ 16) = omega (arith, rw e at h.bits) in
      let z : h.v ≡ stored (top 3 w₀ 16) (replicate 16 0) = rw e at h.cells in
      (rw (x, y), h.put ∙ ap (λ (l : List ℕ). sets before from (map cell_of l)) (z ∙ stored_all 3 w₀ 16 16))

  -- one more is put
  put_one : (p : ℕ) → p < 16 → (a : ℕ) → a < 9223372036854775807 → set out (from + p) (pos a) ≡ sets before from (map cell_of (set h.v p a))
  put_one p l a b =
      let e : pos a ≡ cell_of a = ap pos (omega arith) in
      let n : length (map cell_of h.v) ≡ 16 = simp length-map h.sixteen in
      ap (λ (o : List ℤ). set o (from + p) (pos a)) h.put ∙ set_in before from (map cell_of h.v) p (pos a) (omega arith)
      ∙ ap (sets before from) (ap (set (map cell_of h.v) p) e ∙ sym (map_set cell_of h.v p a))

pub loop-turn-init : goal.loop-turn-init
unfolding Clear
loop-turn-init c =
    record {
      v = replicate 16 0;
      few = omega arith;
      sum = omega arith;
      bits = omega arith;
      cells = refl;
      none = c.requires.1;
      sixteen = refl;
      put = c.requires.2;
    }

pub returns-then-amount-eq0 : goal.returns-then-amount-eq0
returns-then-amount-eq0 c =
    let l = c.loop-turn in
    let r = finished _ _ _ _ _ _ _ _ _ l.invariant (stopped l.w 16 _ c.largest_of-p.ensures.0 (3 - l.turn) c.if-amount-eq0.true) in
    record { top = r.0; cells = r.1 }

-- what one seller adds
module _ (c : Else-amount-eq0) where
  here : c.largest_of-p.result ≡ largest c.loop-turn.w 16
  here = c.largest_of-p.ensures.0

  turns : 0 < 3 - c.loop-turn.turn
  turns = omega arith

  some : 0 < at c.loop-turn.w c.largest_of-p.result
  some = omega arith

  of-total : total (top (3 - c.loop-turn.turn) c.loop-turn.w 16) ≡ at c.loop-turn.w c.largest_of-p.result + total (top ((3 - c.loop-turn.turn) - 1) (set c.loop-turn.w c.largest_of-p.result 0) 16)
  of-total = total_taken c.loop-turn.w 16 c.largest_of-p.result here (3 - c.loop-turn.turn) turns some

  of_mask : mask (top (3 - c.loop-turn.turn) c.loop-turn.w 16) ≡ 2 ^ c.largest_of-p.result + mask (top ((3 - c.loop-turn.turn) - 1) (set c.loop-turn.w c.largest_of-p.result 0) 16)
  of_mask = mask_taken c.loop-turn.w 16 c.largest_of-p.result here (3 - c.loop-turn.turn) turns some

  total-few : total (top 3 c.args.w.now 16) ≤ 3 * 64000000000000
  total-few = total_bound 64000000000000 3 c.args.w.now 16 c.requires.0

  bit-few : 2 ^ c.largest_of-p.result ≤ 2 ^ 15
  bit-few = pow_mono {i = c.largest_of-p.result} {j = 15} (omega (arith, c.largest_of-p.ensures.1))

  amount-few : at c.loop-turn.w c.largest_of-p.result ≤ 192000000000000
  amount-few = omega (arith, of-total, total-few, c.loop-turn.invariant.sum)

  kept : (b : ℕ) → b ≡ 2 ^ c.largest_of-p.result
      → Held-so-far c.args.w.now (set c.loop-turn.w c.largest_of-p.result 0) c.args.ports (c.loop-turn.total + at c.loop-turn.w c.largest_of-p.result) (c.loop-turn.named + b) c.args.verdicts.now
      (set c.loop-turn.verdicts (c.args.at + c.largest_of-p.result) (to_z w64 (at c.loop-turn.w c.largest_of-p.result))) c.args.at (3 - (c.loop-turn.turn + 1))
  kept b b-is =
      let l = c.loop-turn in
      let p = c.largest_of-p.result in
      let e : 3 - (l.turn + 1) ≡ (3 - l.turn) - 1 = omega arith in
      rw e (record {
        v = set l.invariant.v p (at l.w p);
        few = omega (arith, l.invariant.few);
        sum = omega (arith, l.invariant.sum, of-total);
        bits = omega (arith, l.invariant.bits, of_mask, b-is);
        cells = sym (stored_taken l.w 16 p here (3 - l.turn) l.invariant.v turns some) ∙ l.invariant.cells;
        none = λ q h. omega (arith, struck_le l.w p q, l.invariant.none q h);
        sixteen = length-set l.invariant.v p (at l.w p) ∙ l.invariant.sixteen;
        put =
            ap (set l.verdicts (c.args.at + p)) (to_z_pos w64 {n = at l.w p} (omega (arith, amount-few)))
            ∙ put_one c.args.w.now l.w c.args.ports l.total l.named c.args.verdicts.now l.verdicts c.args.at (3 - l.turn) l.invariant p c.largest_of-p.ensures.1 (at l.w p) (omega (arith, amount-few));
      })

pub overflow_add-total : goal.overflow_add-total
overflow_add-total c =
    let p = (goal.at.overflow_add-total c).Else-amount-eq0 in
    omega (arith, c.loop-turn.invariant.sum, of-total p, total-few p)

pub overflow_add-named : goal.overflow_add-named
overflow_add-named c =
    let p = (goal.at.overflow_add-named c).Else-amount-eq0 in
    omega (arith, c.loop-turn.invariant.bits, of_mask p, bit-few p, mask_bound 3 c.args.w.now)

pub overflow_cast-verdicts : goal.overflow_cast-verdicts
overflow_cast-verdicts c = record { sfits = omega (arith, amount-few (goal.at.overflow_cast-verdicts c).Else-amount-eq0) }

pub loop-turn-preserved : goal.loop-turn-preserved
loop-turn-preserved c =
    let p = (goal.at.loop-turn-preserved c).Else-amount-eq0 in
    kept p _ (omega (arith, bit-few p))

pub returns : goal.returns
unfolding top
returns c =
    let l = c.loop-turn in
    let z : (3 - l.turn) ≡ 0 = omega arith in
    let r = finished _ _ _ _ _ _ _ _ _ l.invariant (rw z) in
    record { top = r.0; cells = r.1 }
