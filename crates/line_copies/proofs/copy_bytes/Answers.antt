-- Goals of `line_copies::copy_bytes` that the search leaves. Assumes nothing.
use Rattle.std.proofs.Common.{◌≡◌, ℕ, ◌+◌, ◌-◌, ◌≤◌, List, ◌++◌, length, take, drop, sym, ap, ◌∙◌, arith}
use Rattle.std.proofs.lemmas.List.Edits.{sets, sets-eq}
use mathlib.Core.List.{append_assoc}
use Rattle.std.proofs.Math.ListN.{length-drop}
use Rattle.std.proofs.lemmas.List.{length-take-le, drop-take, take-take, drop-drop}
use Rattle.line_copies.proofs.copy_bytes.Goals as goal

module _ (page : List ℕ) (from at n : ℕ) (source : from + n ≤ at) (room : at + n ≤ length page) where
  -- what stands before the place is as it was
  read : take n (drop from (take at page)) ≡ take n (drop from page)
  read =
      let m : at ≡ from + (at - from) = omega (arith, source) in
      ap (λ (j : ℕ). take n (drop from (take j page))) m ∙ ap (take n) (drop-take from (at - from) page) ∙ take-take n (at - from) (drop from page) (omega (arith, source))

  -- the page in two parts, with the bytes over the front of the second
  copied_by : (before after copied : List ℕ) → before ≡ take at page → after ≡ drop at page → copied ≡ take (from + n - from) (drop from before)
      → before ++ (copied ++ drop n after) ≡ sets page at (take n (drop from page))
  copied_by before after copied f b h =
      let t = take n (drop from page) in
      let long : length t ≡ n = length-take-le n (drop from page) (omega (arith, source, room, length-drop from page)) in
      let k : from + n - from ≡ n = omega arith in
      let c : copied ≡ t = h ∙ ap (λ (j : ℕ). take j (drop from before)) k ∙ ap (λ (l : List ℕ). take n (drop from l)) f ∙ read in
      let d : drop n after ≡ drop (at + n) page = ap (drop n) b ∙ drop-drop n at page in
      ap (λ (l : List ℕ). l ++ (copied ++ drop n after)) f ∙ ap (λ (l : List ℕ). take at page ++ (l ++ drop n after)) c ∙ ap (λ (l : List ℕ). take at page ++ (t ++ l)) d
      ∙ sym (sets-eq t page at (omega (arith, long, room)) ∙ ap (λ (j : ℕ). (take at page ++ t) ++ drop (at + j) page) long ∙ append_assoc (take at page) t (drop (at + n) page))

pub returns : goal.returns
returns c =
    let a = c.args in
    let e = c.split_at_mut-before.ensures in
    copied_by a.page.now a.from a.at a.n c.requires.0 c.requires.1 c.split_at_mut-before.result.0.now c.split_at_mut-before.result.1.now c.copy_over.new.into e.front e.back c.copy_over.ensures
