-- `factor_table::factor_at` meets its contract. Assumes nothing.
use Rattle.std.specs.Prelude.{None, Option, Some}
use Rattle.std.proofs.Common.{◌≡◌, ℕ, ◌+◌, ◌<◌, ◌≤◌, Bool, true, false, ◌&&◌, leb, ltb, List, length, ℤ, pos, refl, sym, ap, ◌∙◌, arith, rules, to_z, of_z, w64}
use borrow.Author.Tests.{le-leb, lt-leb, le-ltb, lt-ltb}
use lib.IntN.{nat_abs}
use lib.Signed.{lt_z}
use Rattle.rules_number.specs.Order.{nat_of}
use Rattle.rules_text.specs.declared.Row as source
use Rattle.rules_text.specs.Numbers.{Row, row}
use Rattle.rules_text.specs.Tables.{cell, has_id, if_suits}
use Rattle.rules_text.specs.Offsets.{line_at, as_row, id_row_at}
use Rattle.rules_text.proofs.RowLaws.{Held, held, not_held}
use Rattle.rules_parts.specs.Parts.{is_declared, place, is_factor}
use Rattle.rules_parts.proofs.DeclaredLaws.{declared_negative, declared_natural}
use Rattle.factor_table.specs.Factors.{as_factor}
use Rattle.factor_table.specs.declared.Factor.{Factor}
use Rattle.factor_table.proofs.FactorLaws.{row_of_lem, other_row, suits_of, suited, unsuited, same_resource, and-false, natural}
use Rattle.factor_table.proofs.factor_at.Goals as goal

-- a factor by its fields
by_fields : {c c' e e' : ℕ} {v v' : ℤ} → c ≡ c' → v ≡ v' → e ≡ e'
    → ◌≡◌ {A = Option Factor} (Some (record { constraint = c; value = v; next = e })) (Some (record { constraint = c'; value = v'; next = e' }))
by_fields a v e = cc

-- where the line ends, its values, and what is asked of it
module _ (s : List ℕ) (at r m c : ℕ) where
  abbrev end : ℕ
  end = at + length (line_at s at)

  abbrev line_of : Option Row
  line_of = row 3 (line_at s at)

  abbrev suits : Row → Bool
  suits = is_factor (r + 1) m (place m r c)

  answers : id_row_at 3 r s at ≡ as_row 3 end (if_suits (has_id r) line_of)
  answers = row_of_lem 3 (if_suits (has_id r)) s at 3 refl

  no_line : None ≡ id_row_at 3 r s at → None ≡ as_factor end (if_suits suits line_of)
  no_line f = ap (as_factor end) (sym (other_row r m c line_of (not_held 3 end (if_suits (has_id r) line_of) (f ∙ answers))))

  module _ (w : source.Row 3) (e : Some w ≡ id_row_at 3 r s at) where
    there : Held 3 end (if_suits (has_id r) line_of) w
    there = held 3 end (if_suits (has_id r) line_of) w (e ∙ answers)

    abbrev second : ℤ
    second = cell 1 w.v

    -- the line is a factor where its constraint is one of m that comes at c or after it
    abbrev constraint : ℤ
    constraint = cell 1 there.x

    second_is : second ≡ constraint
    second_is = there.cells 1 (omega arith)

    stands_there : line_of ≡ Some there.x
    stands_there = (suits_of (has_id r) line_of there.x there.is).0

    suits_is : suits there.x ≡ (is_declared m constraint && leb c (nat_of constraint))
    suits_is = same_resource r m c there.x (suits_of (has_id r) line_of there.x there.is).1

    refused : (is_declared m constraint && leb c (nat_of constraint)) ≡ false → None ≡ as_factor end (if_suits suits line_of)
    refused f = ap (as_factor end) (sym (unsuited suits line_of there.x stands_there (suits_is ∙ f)))

    below_zero : lt_z second (pos 0) ≡ true → None ≡ as_factor end (if_suits suits line_of)
    below_zero t =
        let n = declared_negative m constraint (ap (λ (z : ℤ). lt_z z (pos 0)) (sym second_is) ∙ t) in
        refused (ap (λ (t : Bool). t && leb c (nat_of constraint)) (sym n))

    module _ (t : lt_z second (pos 0) ≡ false) where
      not_negative : lt_z constraint (pos 0) ≡ false
      not_negative = ap (λ (z : ℤ). lt_z z (pos 0)) (sym second_is) ∙ t

      constraint_is : nat_abs second ≡ nat_of constraint
      constraint_is = ap nat_abs second_is ∙ natural constraint not_negative

      declared_is : ltb (nat_of constraint) m ≡ is_declared m constraint
      declared_is = ap (λ (k : ℕ). ltb k m) (sym (natural constraint not_negative)) ∙ declared_natural m constraint not_negative

      early : nat_abs second < c → None ≡ as_factor end (if_suits suits line_of)
      early l =
          let k = constraint_is in
          refused (and-false (is_declared m constraint) (leb c (nat_of constraint)) (lt-leb c (nat_of constraint) (omega arith)))

      past : m ≤ nat_abs second → None ≡ as_factor end (if_suits suits line_of)
      past l =
          let k = constraint_is in
          let d = sym declared_is ∙ le-ltb (nat_of constraint) m (omega arith) in
          refused (ap (λ (t : Bool). t && leb c (nat_of constraint)) d)

      taken : nat_abs second < m → c ≤ nat_abs second
          → ◌≡◌ {A = Option Factor} (Some (record { constraint = nat_abs second; value = cell 2 w.v; next = w.next })) (as_factor end (if_suits suits line_of))
      taken l u =
          let k = constraint_is in
          let d = sym declared_is ∙ lt-ltb (nat_of constraint) m (omega arith) in
          let t = ap (λ (t : Bool). t && leb c (nat_of constraint)) d ∙ le-leb c (nat_of constraint) (omega arith) in
          by_fields k (there.cells 2 (omega arith)) there.after ∙ ap (as_factor end) (sym (suited suits line_of there.x stands_there (suits_is ∙ t)))

pub returns-in_err-row : goal.returns-in_err-row
returns-in_err-row c = let a = c.args in cc (no_line a.s.now a.at a.r a.m a.c c.in_err-row.ensures)

pub returns-then-y-lt0 : goal.returns-then-y-lt0
returns-then-y-lt0 c =
    let a = c.args in
    let w = c.in_ok-row.row in
    let second : to_z w64 (of_z w64 (cell 1 w.v)) ≡ cell 1 w.v = search rules in
    below_zero a.s.now a.at a.r a.m a.c w c.in_ok-row.ensures (rw second at c.if-y-lt0.true)

pub returns-then-constraint-c : goal.returns-then-constraint-c
returns-then-constraint-c c =
    let a = c.args in
    let w = c.in_ok-row.row in
    let second : to_z w64 (of_z w64 (cell 1 w.v)) ≡ cell 1 w.v = search rules in
    early a.s.now a.at a.r a.m a.c w c.in_ok-row.ensures (rw second at c.if-y-lt0.false) (rw second at c.if-constraint-c.true)

pub returns-then-m-constraint : goal.returns-then-m-constraint
returns-then-m-constraint c =
    let a = c.args in
    let w = c.in_ok-row.row in
    let second : to_z w64 (of_z w64 (cell 1 w.v)) ≡ cell 1 w.v = search rules in
    past a.s.now a.at a.r a.m a.c w c.in_ok-row.ensures (rw second at c.if-y-lt0.false) (rw second at c.if-m-constraint.true)

pub returns : goal.returns
returns c =
    let a = c.args in
    let w = c.in_ok-row.row in
    let second : to_z w64 (of_z w64 (cell 1 w.v)) ≡ cell 1 w.v = search rules in
    let third : to_z w64 (of_z w64 (cell 2 w.v)) ≡ cell 2 w.v = search rules in
    rw (second, third) (taken a.s.now a.at a.r a.m a.c w c.in_ok-row.ensures (rw second at c.if-y-lt0.false) (rw second at c.if-m-constraint.false) (rw second at c.if-constraint-c.false))
