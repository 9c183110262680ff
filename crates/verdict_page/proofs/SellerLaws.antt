-- Laws of the sellers that are printed from the cells of a verdict, one after the other. Assumes nothing.
use Rattle.std.specs.Prelude.{None, Some}
use Prim.Native.Nat.{ℕ, suc, ◌+◌, ◌-◌, ◌*◌, ◌%◌, ◌^◌, ◌≤◌, ◌<◌}
use mathlib.Core.Bool.{Bool, true}
use mathlib.Core.List.{List, [], ◌∷◌, ◌++◌, map}
use mathlib.Core.Path.{◌≡◌, refl, sym, ap, subst, ◌∙◌}
use native.Mathlib.Omega.{arith}
use lib.Count.{ones, ones-le}
use lib.IntN.{ℤ, pos}
use lib.Signed.{mag}
use Rattle.rules_number.specs.Order.{nat_of}
use Rattle.rules_number.proofs.OverLaws.{listed_at}
use Rattle.rules_path.specs.Verdicts.{not_binding, is_named}
use Rattle.rules_path.specs.declared.Finding.{Finding}
use Rattle.rules_path.specs.declared.Finding.TheVariants.{Competitive, NonCompetitive, NotBinding}
use Rattle.rules_text.specs.Numbers.{Row}
use Rattle.rules_text.specs.Printing.{group_text, line_text}
use Rattle.rules_path.proofs.BitLaws.{bit_zero}
use Rattle.rules_page.specs.Pages.{Put, printable, unless_not_binding, shown, weight_of, seller_row, sellers_named, seller_rows}
use Rattle.rules_page.specs.Weights.{leads, by_weight}
use Rattle.page.proofs.PageLaws.{Putting, putting_start, putting_next, putting_done}
use Rattle.verdict_page.specs.Orders.{weight_in, is_left}
use Rattle.verdict_page.proofs.OrderLaws.{none_led, rest_none, led, order_none, order_next, struck_out, one_fewer, one_fewer_low}
use Rattle.rules_library.specs.Slices.{cell_at}
use Rattle.rules_state.specs.Layout.{verdict_width, most_portfolios}
use Rattle.rules_state.specs.States.{wholes_in}
use Rattle.rules_state.specs.Verdicts.{finding_by, verdict_in}
use Rattle.verdict_page.specs.Shown.{shown_whole, withheld_in}
use Rattle.verdict_page.proofs.ShownLaws.{cell_printable}

-- ---- amounts
pub amount_at_lem : (l : List ℤ) (c p : ℕ) → p < 16 → mag (cell_at l (verdict_width * c + 4 + p)) < 2 ^ 63 → nat_of (cell_at l (verdict_width * c + 4 + p)) ≡ weight_in (withheld_in l c) p
unfolding wholes_in
amount_at_lem l c p h m =
    sym (ap printable (listed_at (λ k. nat_of (cell_at l (verdict_width * c + 4 + k))) 0 most_portfolios p h) ∙ cell_printable (cell_at l (verdict_width * c + 4 + p)) m)

pub printable_twice : (n : ℕ) → printable (printable n) ≡ printable n
printable_twice n = omega arith

-- ---- the sellers left, after n of them are put
abbrev pub seller_in : List ℕ → ℕ → Row
seller_in w p = pos p ∷ pos (weight_in w p) ∷ []

abbrev pub left_rows : List ℕ → ℕ → ℕ → List Row
left_rows w left n = map (seller_in w) (by_weight (16 - n) (weight_in w) (is_left left))

none_named : (w : ℕ → ℕ) (named : ℕ) → named ≡ 0 → by_weight 16 w (is_left named) ≡ []
none_named w named e =
    order_none w (is_left named) (sym (rest_none w named 0 0 (omega arith) (omega arith) (λ j h. bit_zero j)) ∙ none_led w (is_left named)) 16

all_left : (f : Finding) (d k n : ℕ) (w : List ℕ)
    → sellers_named (unless_not_binding f (record { finding = f; demand = d; left = k; named = n % 4294967296; withheld = w })) ≡ left_rows w (shown_whole f n % 4294967296) 0
unfolding sellers_named is_named
all_left Competitive d k n w = refl
all_left NonCompetitive d k n w = refl
all_left NotBinding d k n w =
    ap (map (seller_row not_binding)) (none_named (weight_of not_binding) 0 refl) ∙ sym (ap (map (seller_in w)) (none_named (weight_in w) (0 % 4294967296) refl))

-- all that are named for constraint c are left at first
pub sellers_left : (l : List ℤ) (c named : ℕ) → named ≡ shown_whole (finding_by (cell_at l (verdict_width * c))) (nat_of (cell_at l (verdict_width * c + 3))) % 4294967296
    → seller_rows (verdict_in l c) ≡ left_rows (withheld_in l c) named 0
unfolding shown verdict_in
sellers_left l c named e =
    all_left (finding_by (cell_at l (verdict_width * c))) _ _ (nat_of (cell_at l (verdict_width * c + 3))) (withheld_in l c) ∙ ap (λ (k : ℕ). left_rows (withheld_in l c) k 0) (sym e)

module _ (w : List ℕ) (i c left n : ℕ) where
  -- the next one is put, and its bit taken away
  left_next : (p : ℕ) → leads (weight_in w) (is_left left) 16 ≡ Some p → n < 16 → (one : ℕ) → one ≡ 2 ^ p
      → group_text i c (left_rows w left n) ≡ line_text (pos i ∷ pos c ∷ seller_in w p) ++ group_text i c (left_rows w (left - one) (n + 1))
  unfolding group_text
  left_next p e m one o =
      let k : 16 - n ≡ suc (16 - (n + 1)) = omega arith in
      let s : is_left (left - one) ≡ _ = ap (λ (x : ℕ). is_left (left - x)) o ∙ struck_out p left (led (weight_in w) (is_left left) p e).1 in
      ap (λ (x : List ℕ). group_text i c (map (seller_in w) x))
      (ap (λ (j : ℕ). by_weight j (weight_in w) (is_left left)) k ∙ order_next (weight_in w) (is_left left) p e (16 - (n + 1)) ∙ ap (λ (r : ℕ → Bool). p ∷ by_weight (16 - (n + 1)) (weight_in w) r) (sym s))

  left_none : leads (weight_in w) (is_left left) 16 ≡ None → group_text i c (left_rows w left n) ≡ []
  unfolding group_text
  left_none e = ap (λ (x : List ℕ). group_text i c (map (seller_in w) x)) (order_none (weight_in w) (is_left left) e (16 - n))

-- n sellers are put, of the 16 that there may be
abbrev few_put : ℕ → ℕ → Type 0
few_put left n = ones (left % 65536) + n ≤ 16

none_put : (left : ℕ) → few_put left 0
none_put left = omega (arith, ones-le 16 (left % 65536) (omega arith))

-- one fewer is left without the next
module _ (left n p one : ℕ) (e : one ≡ 2 ^ p) (h : is_left left p ≡ true) where
  still_left : (all : ℕ) → ones left + n ≡ all → ones (left - one) + (n + 1) ≡ all
  still_left all sum = rw e (omega (arith, sum, one_fewer p left h))

  few_still : p < 16 → few_put left n → (n < 16) × few_put (left - one) (n + 1)
  few_still l few = rw e (omega (arith, few, one_fewer_low p left l h), omega (arith, few, one_fewer_low p left l h))

-- ---- the loop of put_named: of all ones, those that are left are still to be put
module _ (out : List ℕ) (at : ℕ) (text w : List ℕ) (i c all : ℕ) where
  pub record Named (now : List ℕ) (q left : ℕ) : Type 0 where
    pub put : Putting out at text now q (group_text i c (left_rows w left (all - ones left)))
    pub few : few_put left (all - ones left)
    pub so_far : q ≤ at + 84 * (all - ones left)
    pub fewer : ones left ≤ all

  pub named_start : (left : ℕ) → all ≡ ones left → text ≡ group_text i c (left_rows w left 0) → Named out at left
  named_start left e f =
      let z : 0 ≡ all - ones left = omega (arith, e) in
      record {
        put = subst (λ (n : ℕ). Putting out at text out at (group_text i c (left_rows w left n))) z (subst (λ (x : List ℕ). Putting out at text out at x) f (putting_start out at text));
        few = subst (few_put left) z (none_put left);
        so_far = omega arith;
        fewer = omega (arith, e);
      }

  module _ (now : List ℕ) (q left : ℕ) (h : Named now q left) where
    pub named_done : leads (weight_in w) (is_left left) 16 ≡ None → Put 1344 out at text now q
    named_done e =
        let d = putting_done h.put (left_none w i c left (all - ones left) e) in
        record { buffer = d.0; next = d.1; few = omega (arith, h.so_far, h.few) }

    module _ (p : ℕ) (e : leads (weight_in w) (is_left left) 16 ≡ Some p) where
      still : (one : ℕ) → one ≡ 2 ^ p → let n = all - ones left in (n < 16) × few_put (left - one) (n + 1) × (ones (left - one) + (n + 1) ≡ all)
      still one o =
          let l = led (weight_in w) (is_left left) p e in
          let n = all - ones left in
          let f = few_still left n p one o l.1 l.0 h.few in
          (f.0, f.1, still_left left n p one o l.1 all (omega (arith, h.fewer)))

      pub named_room : q + 84 ≤ at + 1344
      named_room = omega (arith, h.so_far, (still (2 ^ p) refl).0)

      pub named_next : (next : List ℕ) (r one : ℕ) → one ≡ 2 ^ p → Put 84 now q (line_text (pos i ∷ pos c ∷ seller_in w p)) next r → Named next r (left - one)
      named_next next r one o x =
          let n = all - ones left in
          let s = still one o in
          let z : n + 1 ≡ all - ones (left - one) = omega (arith, s.2) in
          record {
            put = subst (λ (k : ℕ). Putting out at text next r (group_text i c (left_rows w (left - one) k))) z (putting_next h.put (line_text (pos i ∷ pos c ∷ seller_in w p)) _ next r (left_next w i c left n p e s.0 one o) x.buffer x.next);
            few = subst (few_put (left - one)) z s.1;
            so_far = omega (arith, h.so_far, x.few, s.2);
            fewer = omega (arith, s.2);
          }
