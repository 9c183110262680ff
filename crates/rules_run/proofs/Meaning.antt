-- What the run means, in paper 01's words. Assumes nothing.
use Prim.Native.Nat.{ℕ, zero, suc, ◌+◌, ◌≤◌, ◌<◌}
use mathlib.Core.Path.{◌≡◌, refl, sym, ap, ◌∙◌}
use mathlib.Core.List.{List, [], ◌∷◌, ◌++◌}
use mathlib.Core.Bool.{Bool, cond}
use native.Mathlib.Omega.{arith}
use borrow.Author.Tests.{lt-ltb, le-ltb}
use lib.ListN.{length}
use Rattle.rules_hour.specs.Demand3.{hour_of}
use Rattle.rules_hour.specs.Hours.{hour_refusal, hour_after, hour_verdicts, hour_after_all}
use Rattle.rules_hour.specs.Opened.{opened_hour}
use Rattle.rules_hour.specs.Hours.{Hour}
use Rattle.rules_opening.specs.declared.Opening.{Opening}
use Rattle.rules_interval.specs.declared.Interval.{Interval}
use Rattle.rules_text.specs.Numbers.{Line, bytes, lines}
use Rattle.rules_text.specs.Tables.{Reading, faulty, found}
use Rattle.rules_text.specs.Printing.{digits, decimal, line_text, refusal_text}
use Rattle.rules_parts.specs.Parts.{read_interval}
use Rattle.rules_run.specs.Run.{part, answer, page_of, intervals_by, intervals, parts_text, output_by, output, page_leaving}
use Rattle.rules_run.proofs.RunLaws.{accepted_text, accepts_few, accepts_counts}

-- "18 is tested first": whatever else is wrong with a text of over 65,536 bytes
pub longer_refused : (text : List ℕ) → 65536 < length text → output text ≡ bytes "refusal line\n18 1\n"
unfolding output_by digits decimal line_text refusal_text
longer_refused text h = ap (λ (b : Bool). cond b (refusal_text 18 1) (parts_text (lines text))) (lt-ltb 65536 (length text) h)

-- a text of 65,536 bytes is read
pub others_read : (text : List ℕ) → length text ≤ 65536 → output text ≡ parts_text (lines text)
unfolding output_by
others_read text h = ap (λ (b : Bool). cond b (refusal_text 18 1) (parts_text (lines text))) (le-ltb 65536 (length text) h)

-- one part more or less
step : (k f i : ℕ) (h : Hour) (n : ℕ) (ls : List Line)
    → ((v : Interval) (m : ℕ) (rest : List Line) → hour_refusal h v ≡ 0 → intervals f (suc i) (hour_after h v) m rest ≡ intervals k (suc i) (hour_after h v) m rest)
    → intervals (suc f) i h n ls ≡ intervals (suc k) i h n ls
unfolding intervals_by
step k f i h n [] same = refl
step k f i h n (l ∷ ls) same = go (read_interval n (l ∷ ls))
  where
    further : (v : Interval) (m : ℕ) (rest : List Line) (r : ℕ) → hour_refusal h v ≡ r
        → answer m r (page_of i h v ++ intervals f (suc i) (hour_after h v) m rest) ≡ answer m r (page_of i h v ++ intervals k (suc i) (hour_after h v) m rest)
    further v m rest (suc r) g = refl
    further v m rest zero g = ap (λ (t : List ℕ). page_of i h v ++ t) (same v m rest g)

    go : (r : Reading Interval)
        → part r (λ v m rest. answer m (hour_refusal h v) (page_of i h v ++ intervals f (suc i) (hour_after h v) m rest))
        ≡ part r (λ v m rest. answer m (hour_refusal h v) (page_of i h v ++ intervals k (suc i) (hour_after h v) m rest))
    go (faulty line) = refl
    go (found v m rest) = further v m rest (hour_refusal h v) refl

-- "four intervals": an hour that accepts k more refuses the one after them, so that room for more parts would change nothing
pub five_suffice : (k f i : ℕ) (h : Hour) (n : ℕ) (ls : List Line) → h.standing.accepted + k ≡ 4 → suc k ≤ f → intervals f i h n ls ≡ intervals (suc k) i h n ls
five_suffice k zero i h n ls e l = absurd (omega (arith, l))
five_suffice zero (suc f) i h n ls e l = step 0 f i h n ls (λ v m rest g. absurd (omega (arith, e, accepts_few h v g)))
five_suffice (suc k) (suc f) i h n ls e l = step (suc k) f i h n ls (λ v m rest g. five_suffice k f (suc i) (hour_after h v) m rest (omega (arith, e, accepts_counts h v g)) (omega (arith, l)))

-- ---- the hour that is printed is the one of demand 3
-- one call more
after_one : (h : Hour) (calls : List Interval) (v : Interval) → hour_after_all h (calls ++ v ∷ []) ≡ hour_after (hour_after_all h calls) v
unfolding hour_after_all
after_one h [] v = refl
after_one h (w ∷ calls) v = after_one (hour_after h w) calls v

-- "Each accepted interval, counted from 1, prints its three tables .. before the next is read": the page has the hour that the whole list of calls leaves
pub page_of_list : (o : Opening) (calls : List Interval) (f i n : ℕ) (ls : List Line) → 0 < length ls → (v : Interval) (m : ℕ) (rest : List Line)
    → read_interval n ls ≡ found v m rest → hour_refusal (hour_of o calls) v ≡ 0
    → intervals (suc f) i (hour_of o calls) n ls
    ≡ page_leaving i (hour_of o (calls ++ v ∷ [])) v.constraints (hour_verdicts (hour_of o calls) v) ++ intervals f (suc i) (hour_of o (calls ++ v ∷ [])) m rest
page_of_list o calls f i n ls some v m rest e g =
    accepted_text f i (hour_of o calls) n ls some v m rest e g
    ∙ ap (λ (h : Hour). page_leaving i h v.constraints (hour_verdicts (hour_of o calls) v) ++ intervals f (suc i) h m rest) (sym (after_one (opened_hour o) calls v))
