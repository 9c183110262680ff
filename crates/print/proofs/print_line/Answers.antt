-- Goals of `print::print_line` that the search leaves. Assumes nothing.
use Rattle.std.specs.Prelude.{Some}
use Rattle.std.proofs.Common.{◌≡◌, ℕ, ◌+◌, ◌≤◌, ◌<◌, List, [], ◌∷◌, length, sym, ap, ◌∙◌, arith, rules, false}
use Rattle.std.proofs.lemmas.List.Edits.{sets}
use Rattle.std.specs.Int.Signed.{lt_z}
use Rattle.std.proofs.Math.ListN.{get_or}
use Rattle.std.proofs.Math.IntN.{ℤ, pos, nat_abs}
use mir.Syntax.{w64}
use mir.Val.{SFits}
use mathlib.Core.Path.{ap₂}
use borrow.Author.Tests.{le-leb}
use Rattle.rules_number.proofs.Kit.{rd, came}
use Rattle.rules_text.specs.Numbers.{Row}
use Rattle.rules_text.specs.Printing.{line_text, printed, printed_to}
use Rattle.rules_text.proofs.PrintLaws.{prints, line_few}
use Rattle.print.proofs.DigitLaws.{own_size, all_four, all_five}
use Rattle.print.proofs.print_line.Goals as goal

abbrev at-index : Row → ℕ → ℤ
at-index v i = get_or v i (pos 0)

-- what is put is the values: the first two are small
module _ (v : Row) (read : (i : ℕ) → i < length v → rd (at-index v i) ≡ at-index v i) (m n : ℕ) (e : m ≡ nat_abs (rd (at-index v 0))) (f : n ≡ nat_abs (rd (at-index v 1)))
    (g : lt_z (rd (at-index v 0)) (pos 0) ≡ false) (h : lt_z (rd (at-index v 1)) (pos 0) ≡ false) where
  first : 4 ≤ length v → (l : Row) → (pos m ∷ pos n ∷ rd (at-index v 2) ∷ rd (at-index v 3) ∷ l) ≡ (at-index v 0 ∷ at-index v 1 ∷ at-index v 2 ∷ at-index v 3 ∷ l)
  first k l =
      ap₂ (λ (i j : ℤ). i ∷ j ∷ rd (at-index v 2) ∷ rd (at-index v 3) ∷ l) (ap pos e ∙ own_size (rd (at-index v 0)) g ∙ read 0 (omega arith)) (ap pos f ∙ own_size (rd (at-index v 1)) h ∙ read 1 (omega arith))
      ∙ ap₂ (λ (i j : ℤ). at-index v 0 ∷ at-index v 1 ∷ i ∷ j ∷ l) (read 2 (omega arith)) (read 3 (omega arith))

  same-four : length v ≡ 4 → (pos m ∷ pos n ∷ rd (at-index v 2) ∷ rd (at-index v 3) ∷ []) ≡ v
  same-four k = first (omega arith) [] ∙ sym (all_four v k)

  same-five : length v ≡ 5 → (pos m ∷ pos n ∷ rd (at-index v 2) ∷ rd (at-index v 3) ∷ rd (at-index v 4) ∷ []) ≡ v
  same-five k =
      first (omega arith) (rd (at-index v 4) ∷ [])
      ∙ ap (λ (i : ℤ). at-index v 0 ∷ at-index v 1 ∷ at-index v 2 ∷ at-index v 3 ∷ i ∷ []) (read 4 (omega arith))
      ∙ sym (all_five v k)

-- a line that was put
puts : (out : List ℕ) (at : ℕ) (v l : Row) (put : List ℕ) (r : ℕ) → length v ≤ 5 → at + 105 ≤ length out → l ≡ v → put ≡ sets out at (line_text l) → r ≡ at + length (line_text l)
    → (put ≡ printed out at (line_text v)) × (Some r ≡ printed_to out at (line_text v))
puts out at v l put r n room e f g =
    prints out at (line_text v) put r (le-leb (at + length (line_text v)) (length out) (omega (arith, line_few v)))
    (f ∙ ap (λ (x : Row). sets out at (line_text x)) e) (g ∙ ap (λ (x : Row). at + length (line_text x)) e)

pub returns-in-len4 : goal.returns-in-len4
returns-in-len4 c =
    let a = c.args in
    let v = a.v.now in
    let h = c.has_head.ensures in
    let t = c.if-has_head.true in
    let read : (i : ℕ) → i < length v → rd (at-index v i) ≡ at-index v i = λ i k. let f : SFits w64 (get_or v i (pos 0)) = search rules in came (get_or v i (pos 0)) f.sfits in
    let e = same-four v read c.unsigned_abs.result c.unsigned_abs-in-len4.result c.unsigned_abs.ensures.value c.unsigned_abs-in-len4.ensures.value (h.pos_value t).0 (h.pos_value_2 t).0 (omega arith) in
    let p = puts a.out.now a.at v _ c.put_step.new.out c.put_step.result (omega arith) (h.at_bound t) e c.put_step.ensures.0 c.put_step.ensures.1 in
    record { out_after = p.0; value = p.1 }

pub returns-in-len5 : goal.returns-in-len5
returns-in-len5 c =
    let a = c.args in
    let v = a.v.now in
    let h = c.has_head-then-v-lt6.ensures in
    let t = c.if-has_head-2.true in
    let read : (i : ℕ) → i < length v → rd (at-index v i) ≡ at-index v i = λ i k. let f : SFits w64 (get_or v i (pos 0)) = search rules in came (get_or v i (pos 0)) f.sfits in
    let e = same-five v read c.unsigned_abs-in-len5.result c.unsigned_abs-in-len5-2.result c.unsigned_abs-in-len5.ensures.value c.unsigned_abs-in-len5-2.ensures.value (h.pos_value t).0 (h.pos_value_2 t).0 (omega arith) in
    let p = puts a.out.now a.at v _ c.put_five.new.out c.put_five.result (omega arith) (h.at_bound t) e c.put_five.ensures.0 c.put_five.ensures.1 in
    record { out_after = p.0; value = p.1 }
