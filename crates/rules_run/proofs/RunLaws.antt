-- Laws of specs/Run. Assumes nothing.
use Rattle.std.specs.Prelude.{None, Option, Some}
use Prim.Native.Nat.{ℕ, zero, suc, ◌+◌, ◌≤◌, ◌<◌}
use mathlib.Core.Path.{◌≡◌, refl, sym, ap, subst, ◌∙◌}
use mathlib.Core.List.{List, [], ◌∷◌, ◌++◌}
use mathlib.Core.Bool.{Bool, true, false, cond}
use native.Mathlib.Omega.{arith}
use borrow.Author.Tests.{le-leb, lt-leb, lt-ltb, le-ltb, ltb-true, leb-true}
use lib.Dec.{leb, ltb}
use lib.ListN.{length, length-append}
use lib.IntN.{pos}
use lib.Seq.{sets}
use Rattle.rules_curve.proofs.CheckLaws.{then_both, unless_holds}
use Rattle.rules_interval.specs.declared.Interval.{Interval}
use Rattle.rules_hour.specs.Hours.{fresh_standing, blank_hour, call_refusal, next_standing, standing_unless, standing_after, hour_refusal, hour_after}
use Rattle.rules_opening.specs.Openings.{opening_refusal}
use Rattle.rules_hour.specs.Opened.{fresh_hour, hour_unless, opened_hour}
use Rattle.rules_hour.specs.Hours.{Hour}
use Rattle.rules_opening.specs.declared.Opening.{Opening}
use Rattle.rules_text.specs.Numbers.{Line, bytes, lines}
use Rattle.rules_text.specs.Tables.{Reading, faulty, found}
use Rattle.rules_text.specs.Printing.{line_text, refusal_text}
use Rattle.rules_parts.specs.Parts.{read_opening, read_interval}
use Rattle.rules_run.specs.Run.{part, answer, page_of, intervals_by, intervals, hour_text, parts_text_by, parts_text, output_by, output, Ended, ended_by, parts_end, end_of, ran_within, ran_to}
use Rattle.rules_run.specs.declared.Ran.{Ran}
use Rattle.rules_run.specs.declared.Ran.TheVariants as ran
use Rattle.rules_run.proofs.CountLaws.{Uses, opening_using}
use Rattle.rules_run.proofs.EndLaws.{too_long_end, read_text_end}
use Rattle.rules_page.specs.Pages.{put_within, put_within_to}
use Rattle.rules_text.proofs.PrintLaws.{line_few}

-- a text that has room is put by a call that answers To
module _ (room : ℕ) (out : List ℕ) (at : ℕ) (text last : List ℕ) (answer : Option ℕ) (fits : at + room ≤ length out)
    (e : last ≡ put_within room out at text) (f : answer ≡ put_within_to room out at text) where
  put_both : (last ≡ sets out at text) × (answer ≡ Some (at + length text))
  unfolding put_within put_within_to
  put_both =
      let h = le-leb (at + room) (length out) fits in
      (e ∙ ap (λ (b : Bool). cond b (sets out at text) out) h, f ∙ ap (λ (b : Bool). cond b (Some (at + length text)) None) h)

  pub put_to : (next : ℕ) → answer ≡ Some next → (last ≡ sets out at text) × (next ≡ at + length text)
  put_to next g = (put_both.0, let h : answer ≡ Some (at + length text) = put_both.1 in cc)

  pub put_full : {X : Type 0} → answer ≡ None → X
  put_full g = absurd (let h : answer ≡ Some (at + length text) = put_both.1 in let z : ◌≡◌ {A = ℕ} 0 1 = cc in omega arith)

-- the lines of a refusal are short
pub refusal_few : (number line : ℕ) → length (refusal_text number line) ≤ 64
unfolding refusal_text
refusal_few number line = omega (arith, length-append (bytes "refusal line\n") (line_text (pos number ∷ pos line ∷ [])), line_few (pos number ∷ pos line ∷ []))

-- ---- what interval i and those after it print
pub by_part : (f i : ℕ) (h : Hour) (n : ℕ) (ls : List Line) → 0 < length ls
    → intervals (suc f) i h n ls ≡ part (read_interval n ls) (λ v m rest. answer m (hour_refusal h v) (page_of i h v ++ intervals f (suc i) (hour_after h v) m rest))
unfolding intervals_by
by_part f i h n [] s = absurd (let z : ◌≡◌ {A = ℕ} 0 1 = omega (arith, s) in omega arith)
by_part f i h n (l ∷ ls) s = refl

module _ (f i : ℕ) (h : Hour) (n : ℕ) (ls : List Line) (some : 0 < length ls) where
  read_text : (r : Reading Interval) → read_interval n ls ≡ r
      → intervals (suc f) i h n ls ≡ part r (λ v m rest. answer m (hour_refusal h v) (page_of i h v ++ intervals f (suc i) (hour_after h v) m rest))
  read_text r e =
      by_part f i h n ls some
      ∙ ap (λ (x : Reading Interval). part x (λ v m rest. answer m (hour_refusal h v) (page_of i h v ++ intervals f (suc i) (hour_after h v) m rest))) e

  pub faulty_text : (k : ℕ) → read_interval n ls ≡ faulty k → intervals (suc f) i h n ls ≡ refusal_text 17 k
  faulty_text k e = read_text (faulty k) e

  module _ (v : Interval) (m : ℕ) (rest : List Line) (e : read_interval n ls ≡ found v m rest) where
    answered : (k : ℕ) → hour_refusal h v ≡ k → intervals (suc f) i h n ls ≡ answer m k (page_of i h v ++ intervals f (suc i) (hour_after h v) m rest)
    answered k g = read_text (found v m rest) e ∙ ap (λ (x : ℕ). answer m x (page_of i h v ++ intervals f (suc i) (hour_after h v) m rest)) g

    pub refused_text : (k : ℕ) → hour_refusal h v ≡ k → 0 < k → intervals (suc f) i h n ls ≡ refusal_text k m
    refused_text zero g l = absurd (omega (arith, l))
    refused_text (suc k) g l = answered (suc k) g

    pub accepted_text : hour_refusal h v ≡ 0 → intervals (suc f) i h n ls ≡ page_of i h v ++ intervals f (suc i) (hour_after h v) m rest
    accepted_text g = answered 0 g

-- nothing is left to print after the last line
pub none_text : (f i : ℕ) (h : Hour) (n : ℕ) → intervals f i h n [] ≡ []
unfolding intervals_by
none_text zero i h n = refl
none_text (suc f) i h n = refl

-- ---- the hour's count
module _ (h : Hour) (v : Interval) (g : hour_refusal h v ≡ 0) where
  pub accepts_few : h.standing.accepted < 4
  unfolding call_refusal
  accepts_few = ltb-true h.standing.accepted 4 (unless_holds (ltb h.standing.accepted 4) 11 (then_both _ _ g).0)

  pub accepts_counts : (hour_after h v).standing.accepted ≡ h.standing.accepted + 1
  unfolding hour_after standing_after next_standing
  accepts_counts = ap (λ (n : ℕ). (standing_unless n (next_standing h.market h.standing v) h.standing).accepted) g

-- ---- what the parts of a text print
module _ (ls : List Line) where
  read_parts : (r : Reading Opening) → read_opening 0 ls ≡ r → parts_text ls ≡ part r (λ o n rest. answer n (opening_refusal o) (hour_text (opened_hour o) n rest))
  unfolding parts_text_by
  read_parts r e = ap (λ (x : Reading Opening). part x (λ o n rest. answer n (opening_refusal o) (hour_text (opened_hour o) n rest))) e

  pub parts_faulty : (k : ℕ) → read_opening 0 ls ≡ faulty k → parts_text ls ≡ refusal_text 17 k
  parts_faulty k e = read_parts (faulty k) e

  pub parts_faulty_few : (k : ℕ) → read_opening 0 ls ≡ faulty k → k ≤ suc (length ls)
  parts_faulty_few k e = omega (arith, subst (Uses 0 ls) e (opening_using 0 ls))

  module _ (o : Opening) (n : ℕ) (rest : List Line) (e : read_opening 0 ls ≡ found o n rest) where
    parts_answered : (k : ℕ) → opening_refusal o ≡ k → parts_text ls ≡ answer n k (hour_text (opened_hour o) n rest)
    parts_answered k g = read_parts (found o n rest) e ∙ ap (λ (x : ℕ). answer n x (hour_text (opened_hour o) n rest)) g

    pub parts_refused : (k : ℕ) → opening_refusal o ≡ k → 0 < k → parts_text ls ≡ refusal_text k n
    parts_refused zero g l = absurd (omega (arith, l))
    parts_refused (suc k) g l = parts_answered (suc k) g

    pub parts_accepted : opening_refusal o ≡ 0 → parts_text ls ≡ hour_text (opened_hour o) n rest
    parts_accepted g = parts_answered 0 g

    -- the lines are used up
    pub parts_left : n + length rest ≡ length ls
    parts_left = omega (arith, subst (Uses 0 ls) e (opening_using 0 ls))

-- an opened hour has accepted nothing
pub opened_fresh : (o : Opening) → (opened_hour o).standing.accepted ≡ 0
unfolding opened_hour fresh_hour fresh_standing blank_hour
opened_fresh o = go (opening_refusal o)
  where
    go : (k : ℕ) → (hour_unless k (fresh_hour o)).standing.accepted ≡ 0
    go zero = refl
    go (suc k) = refl

-- ---- a run into a lent page
module _ (out text : List ℕ) where
  -- the answer of a run that printed this and ended so
  abbrev answering : Bool → List ℕ → Ended → Ran
  answering b printed e = cond b (ran.Printed (length printed) e.number e.line) ran.TooSmall

  pub too_small : length out < 655424 → (out ≡ ran_within out (output text)) × (ran.TooSmall ≡ ran_to out (output text) (end_of text))
  unfolding ran_within ran_to
  too_small h =
      let e = lt-leb 655424 (length out) h in
      (sym (ap (λ (b : Bool). cond b (sets out 0 (output text)) out) e), sym (ap (λ (b : Bool). answering b (output text) (end_of text)) e))

  -- the page and the answer after n bytes and a refusal on a line, and the room that they took
  abbrev pub Ends : List ℕ → ℕ → ℕ → ℕ → Type 0
  Ends put n number line =
      (put ≡ ran_within out (output text))
      × ((ran.Printed n number line ≡ ran_to out (output text) (end_of text)) × (655424 ≤ length out → length (output text) ≤ 655424))

  module _ (fits : 655424 ≤ length out) where
    -- what is printed is t, and it ends so
    puts : (t : List ℕ) (end : Ended) → output text ≡ t → end_of text ≡ end → (put : List ℕ) (n number line : ℕ)
        → put ≡ sets out 0 t → n ≡ length t → n ≤ 655424 → ended_by number line ≡ end → Ends put n number line
    unfolding ran_within ran_to
    puts t end e d put n number line f g l z =
        let h = le-leb 655424 (length out) fits in
        let q : ran.Printed n number line ≡ answering true (output text) (end_of text)
        = ap (λ (k : ℕ). ran.Printed k number line) (g ∙ ap length (sym e)) ∙ ap (λ (x : Ended). ran.Printed (length (output text)) x.number x.line) (z ∙ sym d) in (
          f ∙ ap (sets out 0) (sym e) ∙ sym (ap (λ (b : Bool). cond b (sets out 0 (output text)) out) h),
          (q ∙ sym (ap (λ (b : Bool). answering b (output text) (end_of text)) h), λ k. omega (arith, g, l, ap length e)),
        )

    pub too_long : 65536 < length text → (put : List ℕ) (n number line : ℕ)
        → put ≡ sets out 0 (refusal_text 18 1) → n ≡ 0 + length (refusal_text 18 1) → n ≤ 655424 → ended_by number line ≡ ended_by 18 1 → Ends put n number line
    unfolding output_by
    too_long h put n number line f g =
        puts (refusal_text 18 1) (ended_by 18 1) (ap (λ (b : Bool). cond b (refusal_text 18 1) (parts_text (lines text))) (lt-ltb 65536 (length text) h)) (too_long_end text h) put n number line f
        (omega (arith, g))

    pub ran_parts : length text ≤ 65536 → (put : List ℕ) (n number line : ℕ)
        → put ≡ sets out 0 (parts_text (lines text)) → n ≡ length (parts_text (lines text)) → n ≤ 655424 → ended_by number line ≡ parts_end (lines text) → Ends put n number line
    unfolding output_by
    ran_parts h =
        puts (parts_text (lines text)) (parts_end (lines text)) (ap (λ (b : Bool). cond b (refusal_text 18 1) (parts_text (lines text))) (le-ltb 65536 (length text) h)) (read_text_end text h)

-- a count is that of a text that has room
pub count_few : (out printed : List ℕ) (e : Ended) (k number line : ℕ) → ran.Printed k number line ≡ ran_to out printed e → (655424 ≤ length out → length printed ≤ 655424) → k ≤ 655424
unfolding ran_to
count_few out printed e k number line f h = go (leb 655424 (length out)) refl f
  where
    go : (b : Bool) → leb 655424 (length out) ≡ b → ran.Printed k number line ≡ cond b (ran.Printed (length printed) e.number e.line) ran.TooSmall → k ≤ 655424
    go true t f = let p : k ≡ length printed = cc in omega (arith, p, h (leb-true 655424 (length out) t))
    go false t f = absurd (let z : ◌≡◌ {A = ℕ} 0 1 = cc in omega arith)
