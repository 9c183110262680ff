-- Laws of how a run ends, one for each way, beside those of what it prints (RunLaws). Assumes nothing.
use Prim.Native.Nat.{ℕ, zero, suc, ◌≤◌, ◌<◌}
use mathlib.Core.Path.{◌≡◌, refl, ap, ◌∙◌}
use mathlib.Core.List.{List, [], ◌∷◌}
use mathlib.Core.Bool.{Bool, cond}
use native.Mathlib.Omega.{arith}
use borrow.Author.Tests.{lt-ltb, le-ltb}
use lib.ListN.{length}
use Rattle.rules_interval.specs.declared.Interval.{Interval}
use Rattle.rules_opening.specs.Openings.{opening_refusal}
use Rattle.rules_opening.specs.declared.Opening.{Opening}
use Rattle.rules_hour.specs.Hours.{Hour, hour_refusal, hour_after}
use Rattle.rules_hour.specs.Opened.{opened_hour}
use Rattle.rules_text.specs.Numbers.{Line, lines}
use Rattle.rules_text.specs.Tables.{Reading, faulty, found}
use Rattle.rules_parts.specs.Parts.{read_opening, read_interval}
use Rattle.rules_run.specs.Run.{ended_by, part_end, answer_end, intervals_end_by, intervals_end, hour_end, parts_end_by, parts_end, end_with, end_of}

-- ---- with the next interval and those after it
by_part : (f : ℕ) (h : Hour) (n : ℕ) (ls : List Line) → 0 < length ls
    → intervals_end (suc f) h n ls ≡ part_end (read_interval n ls) (λ v m rest. answer_end m (hour_refusal h v) (intervals_end f (hour_after h v) m rest))
unfolding intervals_end_by
by_part f h n [] s = absurd (omega (arith, s))
by_part f h n (l ∷ ls) s = refl

module _ (f : ℕ) (h : Hour) (n : ℕ) (ls : List Line) (some : 0 < length ls) where
  read_end : (r : Reading Interval) → read_interval n ls ≡ r
      → intervals_end (suc f) h n ls ≡ part_end r (λ v m rest. answer_end m (hour_refusal h v) (intervals_end f (hour_after h v) m rest))
  read_end r e = by_part f h n ls some ∙ ap (λ (x : Reading Interval). part_end x (λ v m rest. answer_end m (hour_refusal h v) (intervals_end f (hour_after h v) m rest))) e

  pub faulty_end : (k : ℕ) → read_interval n ls ≡ faulty k → intervals_end (suc f) h n ls ≡ ended_by 17 k
  faulty_end k e = read_end (faulty k) e

  module _ (v : Interval) (m : ℕ) (rest : List Line) (e : read_interval n ls ≡ found v m rest) where
    answered : (k : ℕ) → hour_refusal h v ≡ k → intervals_end (suc f) h n ls ≡ answer_end m k (intervals_end f (hour_after h v) m rest)
    answered k g = read_end (found v m rest) e ∙ ap (λ (x : ℕ). answer_end m x (intervals_end f (hour_after h v) m rest)) g

    pub refused_end : (k : ℕ) → hour_refusal h v ≡ k → 0 < k → intervals_end (suc f) h n ls ≡ ended_by k m
    refused_end zero g l = absurd (omega (arith, l))
    refused_end (suc k) g l = answered (suc k) g

    pub accepted_end : hour_refusal h v ≡ 0 → intervals_end (suc f) h n ls ≡ intervals_end f (hour_after h v) m rest
    accepted_end g = answered 0 g

-- after the last line nothing is refused
pub none_end : (f : ℕ) (h : Hour) (n : ℕ) → intervals_end f h n [] ≡ ended_by 0 0
unfolding intervals_end_by
none_end zero h n = refl
none_end (suc f) h n = refl

-- ---- with the parts of a text
module _ (ls : List Line) where
  read_parts : (r : Reading Opening) → read_opening 0 ls ≡ r → parts_end ls ≡ part_end r (λ o n rest. answer_end n (opening_refusal o) (hour_end (opened_hour o) n rest))
  unfolding parts_end_by
  read_parts r e = ap (λ (x : Reading Opening). part_end x (λ o n rest. answer_end n (opening_refusal o) (hour_end (opened_hour o) n rest))) e

  pub parts_faulty_end : (k : ℕ) → read_opening 0 ls ≡ faulty k → parts_end ls ≡ ended_by 17 k
  parts_faulty_end k e = read_parts (faulty k) e

  module _ (o : Opening) (n : ℕ) (rest : List Line) (e : read_opening 0 ls ≡ found o n rest) where
    parts_answered : (k : ℕ) → opening_refusal o ≡ k → parts_end ls ≡ answer_end n k (hour_end (opened_hour o) n rest)
    parts_answered k g = read_parts (found o n rest) e ∙ ap (λ (x : ℕ). answer_end n x (hour_end (opened_hour o) n rest)) g

    pub parts_refused_end : (k : ℕ) → opening_refusal o ≡ k → 0 < k → parts_end ls ≡ ended_by k n
    parts_refused_end zero g l = absurd (omega (arith, l))
    parts_refused_end (suc k) g l = parts_answered (suc k) g

    pub parts_accepted_end : opening_refusal o ≡ 0 → parts_end ls ≡ hour_end (opened_hour o) n rest
    parts_accepted_end g = parts_answered 0 g

-- ---- of a text
module _ (text : List ℕ) where
  pub too_long_end : 65536 < length text → end_of text ≡ ended_by 18 1
  unfolding end_with
  too_long_end h = ap (λ (b : Bool). cond b (ended_by 18 1) (parts_end (lines text))) (lt-ltb 65536 (length text) h)

  pub read_text_end : length text ≤ 65536 → end_of text ≡ parts_end (lines text)
  unfolding end_with
  read_text_end h = ap (λ (b : Bool). cond b (ended_by 18 1) (parts_end (lines text))) (le-ltb 65536 (length text) h)
