-- Laws of the id at the head of a line, as head_at answers it. Assumes nothing.
use Rattle.std.specs.Prelude.{None, Option, Some}
use Prim.Native.Nat.{ℕ, suc, ◌+◌, ◌≤◌, ◌<◌}
use mathlib.Core.Path.{◌≡◌, refl, sym, ap, ap₂, ◌∙◌}
use mathlib.Core.List.{List}
use mathlib.Core.Bool.{Bool, true, false, cond, ◌&&◌}
use native.Mathlib.Omega.{arith}
use borrow.Author.Tests.{lt-ltb, le-leb, ltb-true, leb-true, ltb-false}
use lib.Dec.{ltb, leb}
use lib.ListN.{length}
use lib.IntN.{ℤ, pos}
use Rattle.rules_number.specs.Order.{eq_z}
use Rattle.rules_number.proofs.OrderLaws.{eq_z_true, eq_z_same}
use Rattle.rules_text.specs.Offsets.{number_at, closed_by, row_at, id_row_at}
use Rattle.rules_text.proofs.ListLaws.{some_pair}
use Rattle.text_bytes.specs.declared.Head.{Head}
use Rattle.text_bytes.specs.declared.Head.TheVariants.{Unread, Other, Past}
use Rattle.text_bytes.specs.Heads.{head_of, fits, head_on}
use Rattle.text_bytes.proofs.ShortLaws.{one_same, two_same, one_bytes, two_bytes, id_same, id_other}

-- p is past the id n of two digits at most, and k bytes are left there
pub record After (n : ℕ) (s : List ℕ) (at k p : ℕ) : Type 0 where
  pub few : n < 100
  pub left : p + k ≤ length s
  pub is : Some (pos n, p) ≡ closed_by s 32 (number_at s at)

-- another id than n stands there, or none
pub record Elsewhere (n : ℕ) (s : List ℕ) (at : ℕ) : Type 0 where
  pub other : (q : ℕ) → Some (pos n, q) ≡ closed_by s 32 (number_at s at) → ⊥

-- an id of two digits and a space take three bytes at most
near : (s : List ℕ) (at n q : ℕ) → at + 3 ≤ length s → n < 100 → Some (pos n, q) ≡ closed_by s 32 (number_at s at) → q ≤ at + 3
near s at n q room few is = go (ltb n 10) refl
  where
    go : (b : Bool) → ltb n 10 ≡ b → q ≤ at + 3
    go true e =
        let h = ltb-true n 10 e in
        let b = one_bytes s at n q is h in
        let w = one_same s at n room (at + 2) refl h b.0 b.1 in
        let z : q ≡ at + 2 = (some_pair (is ∙ sym w)).1 in
        omega arith
    go false e =
        let h = ltb-false n 10 e in
        let b = two_bytes s at n q is h few in
        let w = two_same s at n room (at + 3) refl h few b.0 b.1 b.2 in
        let z : q ≡ at + 3 = (some_pair (is ∙ sym w)).1 in
        omega arith

module _ (n k : ℕ) (s : List ℕ) (at : ℕ) where
  by_fits : {b : Bool} → fits n k s at ≡ b → cond b (head_of n (closed_by s 32 (number_at s at))) Unread ≡ head_on n k s at
  by_fits e = ap (λ (b : Bool). cond b (head_of n (closed_by s 32 (number_at s at))) Unread) (sym e)

  -- ---- what head_at answers is the head
  pub unread_is : (n < 100 → at + (k + 3) ≤ length s → ⊥) → Unread ≡ head_on n k s at
  unread_is h = go (ltb n 100) refl (leb (at + (k + 3)) (length s)) refl
    where
      go : (a : Bool) → ltb n 100 ≡ a → (b : Bool) → leb (at + (k + 3)) (length s) ≡ b → Unread ≡ head_on n k s at
      go true e true f = absurd (h (ltb-true n 100 e) (leb-true (at + (k + 3)) (length s) f))
      go true e false f = by_fits (ap₂ ◌&&◌ e f)
      go false e b f = by_fits (ap₂ ◌&&◌ e f)

  module _ (few : n < 100) (room : at + (k + 3) ≤ length s) where
    read_is : head_of n (closed_by s 32 (number_at s at)) ≡ head_on n k s at
    read_is = by_fits (ap₂ ◌&&◌ (lt-ltb n 100 few) (le-leb (at + (k + 3)) (length s) room))

    other_of : ((q : ℕ) → Some (pos n, q) ≡ closed_by s 32 (number_at s at) → ⊥) → (x : Option (ℤ × ℕ)) → closed_by s 32 (number_at s at) ≡ x → Other ≡ head_of n x
    other_of h None e = refl
    other_of h (Some (z, q)) e = go (eq_z (pos n) z) refl
      where
        go : (b : Bool) → eq_z (pos n) z ≡ b → Other ≡ cond b (Past q) Other
        go true i = absurd (h q (ap (λ (w : ℤ). Some (w, q)) (eq_z_true (pos n) z i) ∙ sym e))
        go false i = refl

    pub other_is : ((q : ℕ) → Some (pos n, q) ≡ closed_by s 32 (number_at s at) → ⊥) → Other ≡ head_on n k s at
    other_is h = other_of h (closed_by s 32 (number_at s at)) refl ∙ read_is

    pub past_is : (p : ℕ) → Some (pos n, p) ≡ closed_by s 32 (number_at s at) → Past p ≡ head_on n k s at
    past_is p e = ap (λ (b : Bool). cond b (Past p) Other) (sym (eq_z_same (pos n))) ∙ ap (head_of n) e ∙ read_is

  -- ---- and what the head tells
  head_other : Other ≡ head_on n k s at → (q : ℕ) → Some (pos n, q) ≡ closed_by s 32 (number_at s at) → ⊥
  head_other h q e = go (fits n k s at) refl
    where
      go : (b : Bool) → fits n k s at ≡ b → ⊥
      go true f = let z : Other ≡ Past q = h ∙ sym (by_fits f) ∙ ap (head_of n) (sym e) ∙ ap (λ (b : Bool). cond b (Past q) Other) (eq_z_same (pos n)) in let o : ◌≡◌ {A = ℕ} 0 1 = cc in omega arith
      go false f = let z : Other ≡ Unread = h ∙ sym (by_fits f) in let o : ◌≡◌ {A = ℕ} 0 1 = cc in omega arith

  past_of : (p : ℕ) (x : Option (ℤ × ℕ)) → closed_by s 32 (number_at s at) ≡ x → Past p ≡ head_of n x → Some (pos n, p) ≡ x
  past_of p None e h = let o : ◌≡◌ {A = ℕ} 0 1 = cc in absurd (omega arith)
  past_of p (Some (z, q)) e h = go (eq_z (pos n) z) refl h
    where
      go : (b : Bool) → eq_z (pos n) z ≡ b → Past p ≡ cond b (Past q) Other → ◌≡◌ {A = Option (ℤ × ℕ)} (Some (pos n, p)) (Some (z, q))
      go true i w = let j : p ≡ q = cc in ap₂ (λ (x : ℤ) (k : ℕ). Some (x, k)) (eq_z_true (pos n) z i) j
      go false i w = let o : ◌≡◌ {A = ℕ} 0 1 = cc in absurd (omega arith)

  head_past : (p : ℕ) → Past p ≡ head_on n k s at → After n s at k p
  head_past p h = go (ltb n 100) refl (leb (at + (k + 3)) (length s)) refl
    where
      unread : fits n k s at ≡ false → ⊥
      unread f = let z : Past p ≡ Unread = h ∙ sym (by_fits f) in let o : ◌≡◌ {A = ℕ} 0 1 = cc in omega arith

      go : (a : Bool) → ltb n 100 ≡ a → (b : Bool) → leb (at + (k + 3)) (length s) ≡ b → After n s at k p
      go true e true f =
          let few = ltb-true n 100 e in
          let room = leb-true (at + (k + 3)) (length s) f in
          let x = closed_by s 32 (number_at s at) in
          let is = past_of p x refl (h ∙ sym (read_is few room)) in
          record { few = few; left = omega (arith, near s at n p (omega (arith, room)) few is, room); is = is }
      go true e false f = absurd (unread (ap₂ ◌&&◌ e f))
      go false e b f = absurd (unread (ap₂ ◌&&◌ e f))

-- ---- by what a call of it answers
pub after_is : {n k : ℕ} {s : List ℕ} {at p : ℕ} {r : Head} → r ≡ head_on n k s at → r ≡ Past p → After n s at k p
after_is {n} {k} {s} {at} {p} e i = head_past n k s at p (sym i ∙ e)

pub elsewhere_is : {n : ℕ} (k : ℕ) {s : List ℕ} {at : ℕ} {r : Head} → r ≡ head_on n k s at → r ≡ Other → Elsewhere n s at
elsewhere_is {n} k {s} {at} e i = record { other = head_other n k s at (sym i ∙ e) }

-- a line that begins with another id is no row, of however many values
pub other_row : {n : ℕ} {s : List ℕ} {at : ℕ} → Elsewhere n s at → (m : ℕ) → m ≤ 6 → None ≡ id_row_at (suc (suc m)) n s at
other_row {n} {s} {at} h m short = id_other s at n m short h.other

pub after_three : {n : ℕ} {s : List ℕ} {at k p : ℕ} → After n s at k p → row_at 3 s at 3 ≡ id_row_at 3 n s at
after_three {n} {s} {at} {k} {p} h = id_same s at n p h.is
