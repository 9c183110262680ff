-- Laws of the answers of noskjerf_told, one for each way out. Assumes nothing.
use Prim.Native.Nat.{ℕ, ◌≤◌, ◌<◌}
use mathlib.Core.Path.{◌≡◌, refl, sym, ap, ◌∙◌}
use mathlib.Core.Bool.{Bool, true, false, cond, ◌&&◌}
use mathlib.Core.List.{List, [], ◌∷◌}
use native.Mathlib.Omega.{arith}
use borrow.Author.Tests.{le-leb, lt-leb}
use lib.Dec.{leb}
use lib.IntN.{ℤ, pos, negsuc}
use lib.ListN.{length}
use lib.Seq.{sets}
use Rattle.rules_run.specs.Run.{Ended, run_room, ran_within, ran_to}
use Rattle.rules_run.specs.declared.Ran.TheVariants.{Printed, TooSmall}
use Rattle.rules_library.specs.Answers.{told_room, told_answer, told_page, told_after}

module _ (page told printed : List ℕ) (e : Ended) where
  -- the answer, the page and the slice are as they should be
  abbrev pub Answered : ℤ → List ℕ → List ℕ → Type 0
  Answered r p t = (r ≡ told_answer page told printed) × ((p ≡ told_page page told printed) × (t ≡ told_after page told e))

  by_room : (b : Bool) → told_room page told ≡ b
      → Answered (cond b (pos (length printed)) (negsuc 0)) (cond b (sets page 0 printed) page) (cond b (sets told 0 (e.number ∷ e.line ∷ [])) told)
  unfolding told_answer told_page told_after
  by_room b h = (
    ap (λ (x : Bool). cond x (pos (length printed)) (negsuc 0)) (sym h),
    (ap (λ (x : Bool). cond x (sets page 0 printed) page) (sym h), ap (λ (x : Bool). cond x (sets told 0 (e.number ∷ e.line ∷ [])) told) (sym h)),
  )

  pub few_told : length told < 2 → Answered (negsuc 0) page told
  few_told h = by_room false (ap (λ (b : Bool). b && leb run_room (length page)) (lt-leb 2 (length told) h))

  module _ (h : 2 ≤ length told) (put : List ℕ) (f : put ≡ ran_within page printed) where
    room : (b : Bool) → leb run_room (length page) ≡ b → told_room page told ≡ b
    room b g = ap (λ (x : Bool). x && leb run_room (length page)) (le-leb 2 (length told) h) ∙ g

    -- the page and the answer of the run, by whether the page has room
    page_by : (b : Bool) → leb run_room (length page) ≡ b → put ≡ cond b (sets page 0 printed) page
    unfolding ran_within
    page_by b g = f ∙ ap (λ (x : Bool). cond x (sets page 0 printed) page) g

    answer_by_lem : (b : Bool) → leb run_room (length page) ≡ b → ran_to page printed e ≡ cond b (Printed (length printed) e.number e.line) TooSmall
    unfolding ran_to
    answer_by_lem b g = ap (λ (x : Bool). cond x (Printed (length printed) e.number e.line) TooSmall) g

    pub no_room : TooSmall ≡ ran_to page printed e → Answered (negsuc 0) put told
    no_room z = go (leb run_room (length page)) refl
      where
        go : (b : Bool) → leb run_room (length page) ≡ b → Answered (negsuc 0) put told
        go true g = absurd (let y : ran_to page printed e ≡ Printed (length printed) e.number e.line = answer_by_lem true g in let o : ◌≡◌ {A = ℕ} 0 1 = cc in omega arith)
        go false g = let w = by_room false (room false g) in (w.0, (page_by false g ∙ w.1.0, w.1.1))

    pub written : (n number line : ℕ) → Printed n number line ≡ ran_to page printed e → Answered (pos n) put (sets told 0 (number ∷ line ∷ []))
    written n number line z = go (leb run_room (length page)) refl
      where
        go : (b : Bool) → leb run_room (length page) ≡ b → Answered (pos n) put (sets told 0 (number ∷ line ∷ []))
        go true g =
            let y : ran_to page printed e ≡ Printed (length printed) e.number e.line = answer_by_lem true g in
            let a : n ≡ length printed = cc in
            let b : number ≡ e.number = cc in
            let c : line ≡ e.line = cc in
            let w = by_room true (room true g) in (
              ap pos a ∙ w.0,
              (page_by true g ∙ w.1.0, ap (λ (x : ℕ). sets told 0 (x ∷ line ∷ [])) b ∙ ap (λ (x : ℕ). sets told 0 (e.number ∷ x ∷ [])) c ∙ w.1.1),
            )
        go false g = absurd (let y : ran_to page printed e ≡ TooSmall = answer_by_lem false g in let o : ◌≡◌ {A = ℕ} 0 1 = cc in omega arith)
