-- Lines that are put by a call that answers To: printed, or copied from lines before them. Assumes nothing.
use Rattle.std.specs.Prelude.{None, Option, Some}
use Prim.Native.Nat.{ℕ, ◌+◌, ◌≤◌}
use mathlib.Core.Path.{◌≡◌, ap, ◌∙◌}
use mathlib.Core.Bool.{Bool, true, ◌&&◌, cond}
use mathlib.Core.List.{List}
use native.Mathlib.Omega.{arith}
use borrow.Author.Tests.{le-leb}
use lib.Dec.{leb}
use lib.ListN.{length}
use lib.Seq.{sets}
use Rattle.rules_mitigation.specs.Mitigation.{most_mitigated_steps}
use Rattle.rules_page.specs.Pages.{curve_bytes, Put}
use Rattle.line_copies.specs.Lines as copies
use Rattle.curve_page.specs.Widths.{has_both, lines_in, lines_to}

-- two tests that hold
both_hold : (a b c d : ℕ) → a ≤ b → c ≤ d → (leb a b && leb c d) ≡ true
both_hold a b c d h k = ap (λ (t : Bool). t && leb c d) (le-leb a b h) ∙ le-leb c d k

-- what an answer says
to_is : (answer : Option ℕ) (n next : ℕ) → answer ≡ Some n → answer ≡ Some next → next ≡ n
to_is answer n next e f = cc

pub full_never : {X : Type 0} (answer : Option ℕ) (n : ℕ) → answer ≡ Some n → answer ≡ None → X
full_never answer n e f = absurd (let z : ◌≡◌ {A = ℕ} 0 1 = cc in omega arith)

-- ---- the lines of a curve, and their widths
module _ (out : List ℕ) (at : ℕ) (text widths : List ℕ) (base : ℕ) (ws last wide : List ℕ) (answer : Option ℕ) (room : at + curve_bytes ≤ length out) (more : base + most_mitigated_steps ≤ length widths)
    (e : last ≡ lines_in (has_both out at widths base) out at text) (f : wide ≡ lines_in (has_both out at widths base) widths base ws) (g : answer ≡ lines_to (has_both out at widths base) at text)
    (h : has_both out at widths base ≡ true → length text ≤ curve_bytes) where
  has : has_both out at widths base ≡ true
  has = both_hold (at + curve_bytes) (length out) (base + most_mitigated_steps) (length widths) room more

  fresh_answer : answer ≡ Some (at + length text)
  unfolding lines_to
  fresh_answer = g ∙ ap (λ (b : Bool). cond b (Some (at + length text)) None) has

  pub fresh_to : (next : ℕ) → answer ≡ Some next → Put curve_bytes out at text last next × (wide ≡ sets widths base ws)
  unfolding lines_in
  fresh_to next k =
      let n = to_is answer (at + length text) next fresh_answer k in (
        record { buffer = e ∙ ap (λ (b : Bool). cond b (sets out at text) out) has; next = n; few = omega (arith, n, h has) },
        f ∙ ap (λ (b : Bool). cond b (sets widths base ws) widths) has,
      )

  pub fresh_full : {X : Type 0} → answer ≡ None → X
  fresh_full k = full_never answer (at + length text) fresh_answer k

-- ---- lines copied
module _ (page : List ℕ) (from at n : ℕ) (widths : List ℕ) (base d : ℕ) (last : List ℕ) (answer : Option ℕ) (source : from + n ≤ at) (room : at + n ≤ length page)
    (e : last ≡ copies.with_lines page from at n widths base d) (f : answer ≡ copies.lines_to page from at n) where
  later : copies.is_later page from at n ≡ true
  later = both_hold (from + n) at (at + n) (length page) source room

  again_answer : answer ≡ Some (at + n)
  unfolding copies.lines_to
  again_answer = f ∙ ap (λ (b : Bool). cond b (Some (at + n)) None) later

  pub again_to : (next : ℕ) → answer ≡ Some next → (last ≡ sets page at (copies.lines_again page from n widths base d)) × (next ≡ at + n)
  unfolding copies.with_lines
  again_to next k =
      (e ∙ ap (λ (b : Bool). cond b (sets page at (copies.lines_again page from n widths base d)) page) later, to_is answer (at + n) next again_answer k)

  pub again_full : {X : Type 0} → answer ≡ None → X
  again_full k = full_never answer (at + n) again_answer k
