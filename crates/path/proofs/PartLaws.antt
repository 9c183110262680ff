-- A part of a slice written over at once. Assumes nothing.
use mathlib.Core.List.{List, ◌++◌}
use mathlib.Core.Path.{◌≡◌, refl, sym, ap, ◌∙◌}
use Prim.Native.Nat.{ℕ, ◌+◌, ◌≤◌}
use native.Mathlib.Nat.{le_refl}
use native.Mathlib.Omega.{arith}
use borrow.Rule.Slice.PartMut.{put_mid}
use lib.ListN.{length, take, drop}
use lib.Seq.{sets, take_all}
use Rattle.std.proofs.lemmas.List.Edits.{sets-eq}
use Rattle.std.proofs.lemmas.Slice.{put_mid-paste}

pub part_is : {A : Type 0} (l : List A) (i k : ℕ) (ys vs : List A) → ys ≡ vs → length vs ≡ k → i + k ≤ length l → put_mid i k l ys ≡ sets l i vs
part_is l i k ys vs e n h =
    put_mid-paste i k l ys vs (length vs) e n refl ∙ ap (λ (x : List _). take i l ++ x ++ drop (i + length vs) l) (take_all (length vs) vs (le_refl (length vs)))
    ∙ sym (sets-eq vs l i (omega (arith, n, h)))
