-- Goals of `line_copies::copy_over` that the search leaves. Assumes nothing.
use Rattle.std.proofs.Common.{◌≡◌, ℕ, suc, ◌+◌, ◌<◌, ◌≤◌, List, [], ◌∷◌, ◌++◌, length, take, set, get_or, sym, ap, ◌∙◌, arith}
use Rattle.std.proofs.Math.ListN.{length-set}
use Rattle.std.proofs.Math.Seq.{take-suc, take-suc-set}
use Rattle.std.proofs.lemmas.List.{take_all}
use Rattle.line_copies.proofs.copy_over.Goals as goal

next : (into bytes : List ℕ) (k : ℕ) → k < length bytes → length into ≡ length bytes → take k into ≡ take k bytes
    → (length (set into k (get_or bytes k 0)) ≡ length bytes) × (take (k + 1) (set into k (get_or bytes k 0)) ≡ take (k + 1) bytes)
next into bytes k here long same =
    let x = get_or bytes k 0 in
    let e : k + 1 ≡ suc k = omega arith in (
      length-set into k x ∙ long,
      ap (λ (j : ℕ). take j (set into k x)) e ∙ take-suc-set into k x (omega (arith, long, here)) ∙ ap (λ (t : List ℕ). t ++ (x ∷ [])) same
          ∙ sym (take-suc bytes k 0 here) ∙ sym (ap (λ (j : ℕ). take j bytes) e),
    )

all : (into bytes : List ℕ) (k : ℕ) → length bytes ≤ k → length into ≡ length bytes → take k into ≡ take k bytes → into ≡ bytes
all into bytes k past long same = sym (take_all k into (omega (arith, long, past))) ∙ same ∙ take_all k bytes past

pub loop-k-preserved : goal.loop-k-preserved
loop-k-preserved c = next c.loop-k.into c.args.bytes.now c.loop-k.k (omega arith) c.loop-k.invariant.0 c.loop-k.invariant.1

pub returns : goal.returns
returns c = all c.loop-k.into c.args.bytes.now c.loop-k.k (omega arith) c.loop-k.invariant.0 c.loop-k.invariant.1
