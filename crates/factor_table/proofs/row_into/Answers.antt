-- `factor_table::row_into` meets its contract. Assumes nothing.
use Rattle.std.specs.Prelude.{None, Option, Some}
use Rattle.std.proofs.Common.{◌≡◌, ℕ, ◌+◌, ◌≤◌, true, List, [], length, drop, set, ℤ, sym, ap, ◌∙◌, to_z, of_z, w64, length-drop, arith, rules}
use lib.Seq.{drop-drop}
use Rattle.rules_number.specs.Order.{nat_of}
use Rattle.rules_text.specs.Numbers.{Line, Row, lines, row}
use Rattle.rules_text.specs.Tables.{cell, if_suits}
use Rattle.rules_text.specs.Offsets.{line_at}
use Rattle.rules_text.proofs.LineLaws.{line, line_at_lem, lines_few}
use Rattle.rules_text.proofs.TableLaws.{ends}
use Rattle.rules_text.proofs.UsedLaws.{used_none, used_next, used_count}
use Rattle.rules_parts.specs.Parts.{place, is_factor, factor_cell, with_factors}
use Rattle.factor_table.specs.Factors.{as_factor, factors_of}
use Rattle.factor_table.specs.declared.Factor.{Factor}
use Rattle.factor_table.proofs.FactorLaws.{Reads, reads_start, stored, Goes, goes, up, Taken, taken, not_taken, suits_of, stands, own_resource}
use Rattle.factor_table.proofs.row_into.Goals as goal

-- the factor that a turn has read
module _ (s : List ℕ) (at r m : ℕ) (before : List ℤ) (count c next : ℕ) (cells : List ℤ) where
  -- the rows of the resource
  abbrev all : List Row
  all = factors_of m r (r + 1) (lines (drop at s))

  -- what the turn asks of its line
  abbrev asked : Option Row
  asked = if_suits (is_factor (r + 1) m (place m r c)) (row 3 (line (drop next s)))

  abbrev past : ℕ
  past = next + length (line (drop next s))

  -- as it is read
  abbrev answer : Option Factor
  answer = as_factor (next + length (line_at s next)) (if_suits (is_factor (r + 1) m (place m r c)) (row 3 (line_at s next)))

  answers : answer ≡ as_factor past asked
  answers = ap (λ (t : Line). as_factor (next + length t) (if_suits (is_factor (r + 1) m (place m r c)) (row 3 t))) (line_at_lem s next)

  module _ (h : Reads (r + 1) m count r c cells (drop next s) (length all) (with_factors before all) (lines (drop at s))) where
    -- none more
    none_more : None ≡ answer → (count ≡ length all) × (cells ≡ with_factors before all)
    none_more e =
        let i = not_taken past asked (e ∙ answers) in
        let d = ends 2 (is_factor (r + 1) m) (up (r + 1) m) (cell 2) count (place m r c) [] (drop next s) _ _ _ h.lines i in
        (d.count, stored (r + 1) m count r c cells (drop next s) _ _ _ h i)

    -- one factor more
    module _ (f : Factor) (e : Some f ≡ answer) where
      found : Taken past asked f
      found = taken past asked f (e ∙ answers)

      is_factor_lem : is_factor (r + 1) m (place m r c) found.x ≡ true
      is_factor_lem = (suits_of (is_factor (r + 1) m (place m r c)) (row 3 (line (drop next s))) found.x found.is).1

      inside : f.constraint + 1 ≤ m
      inside =
          let b = (stands (r + 1) m (place m r c) found.x is_factor_lem).constraint in
          let k = found.constraint in
          omega arith

      turn : (b : List ℤ) → b ≡ set cells (factor_cell r f.constraint) f.value
          → Goes (r + 1) m count r c cells (drop next s) (length all) (with_factors before all) (lines (drop at s)) h r (f.constraint + 1) b (drop f.next s)
      turn b i =
          let k = found in
          let own = own_resource r m c k.x is_factor_lem in
          let v = f.value in
          let stored = ap (λ (i : ℕ). set cells (factor_cell i f.constraint) v) (sym own)
          ∙ ap (λ (i : ℕ). set cells (factor_cell (nat_of (cell 0 k.x)) i) v) k.constraint
          ∙ ap (set cells (factor_cell (nat_of (cell 0 k.x)) (nat_of (cell 1 k.x)))) k.value in
          goes (r + 1) m count r c cells (drop next s) _ _ _ h k.x k.is
          r (f.constraint + 1) (sym own) (ap (λ (i : ℕ). i + 1) k.constraint) inside b
          (i ∙ stored)
          (drop f.next s)
          (ap (λ (n : ℕ). drop n s) k.after ∙ sym (drop-drop (length (line (drop next s))) next s))

pub loop-f-init : goal.loop-f-init
loop-f-init c = let a = c.args in (reads_start (a.r + 1) a.m a.r a.cells.now (drop a.at a.s.now), used_none a.s.now 0 a.at)

pub returns : goal.returns
returns c =
    let a = c.args in
    let l = c.loop-f in
    let d = none_more a.s.now a.at a.r a.m a.cells.now l.count l.c l.next l.cells l.invariant.0 c.in_default.ensures in
    record { count = d.0; cells = d.1; offset = used_count l.invariant.1 }

pub overflow_add-count : goal.overflow_add-count
overflow_add-count c =
    let a = c.args in
    let l = c.loop-f in
    let v : to_z w64 (of_z w64 c.in-Some.f.value) ≡ c.in-Some.f.value = search rules in
    let t = turn a.s.now a.at a.r a.m a.cells.now l.count l.c l.next l.cells l.invariant.0 c.in-Some.f c.in-Some.ensures c.put_factor.new.cells
    (c.put_factor.ensures ∙ ap (set l.cells (factor_cell a.r c.in-Some.f.constraint)) v) in
    let k = t.below in
    let f = lines_few (drop a.at a.s.now) in
    let d = length-drop a.at a.s.now in
    omega (arith, c.well_formed)

pub overflow_add-c : goal.overflow_add-c
overflow_add-c c =
    let a = c.args in
    let l = c.loop-f in
    let k = inside a.s.now a.at a.r a.m a.cells.now l.count l.c l.next l.cells l.invariant.0 c.in-Some.f c.in-Some.ensures in
    omega (arith, c.ranges.m)

pub loop-f-smaller : goal.loop-f-smaller
loop-f-smaller c =
    let a = c.args in
    let l = c.loop-f in
    let v : to_z w64 (of_z w64 c.in-Some.f.value) ≡ c.in-Some.f.value = search rules in
    let t = turn a.s.now a.at a.r a.m a.cells.now l.count l.c l.next l.cells l.invariant.0 c.in-Some.f c.in-Some.ensures c.put_factor.new.cells
    (c.put_factor.ensures ∙ ap (set l.cells (factor_cell a.r c.in-Some.f.constraint)) v) in
    t.fewer

pub loop-f-preserved : goal.loop-f-preserved
loop-f-preserved c =
    let a = c.args in
    let l = c.loop-f in
    let v : to_z w64 (of_z w64 c.in-Some.f.value) ≡ c.in-Some.f.value = search rules in
    let t = turn a.s.now a.at a.r a.m a.cells.now l.count l.c l.next l.cells l.invariant.0 c.in-Some.f c.in-Some.ensures c.put_factor.new.cells
    (c.put_factor.ensures ∙ ap (set l.cells (factor_cell a.r c.in-Some.f.constraint)) v) in
    let k = found a.s.now a.at a.r a.m a.cells.now l.count l.c l.next l.cells l.invariant.0 c.in-Some.f c.in-Some.ensures in
    (t.again, used_next l.invariant.1 k.after)
