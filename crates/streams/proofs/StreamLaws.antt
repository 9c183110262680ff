-- Laws of what a run of standard input answers, one for each way out. Assumes nothing.
use mathlib.Core.Bool.{Bool, true, false, cond}
use mathlib.Core.List.{List}
use mathlib.Core.Path.{◌≡◌, refl, ap, ◌∙◌}
use Prim.Native.Nat.{ℕ, ◌≤◌, ◌<◌}
use native.Mathlib.Omega.{arith}
use borrow.Author.Tests.{leb-true, leb-false}
use lib.Dec.{leb}
use lib.ListN.{length, take}
use lib.Seq.{sets}
use Rattle.rules_run.specs.Run.{Ended, output, run_room, ran_within, ran_to}
use Rattle.rules_run.specs.declared.Ran.TheVariants as ran
use Rattle.streams.specs.Streams.{bytes_run, bytes_handed, bytes_printed, page_after, IsHanded, IsSmall}
use Rattle.streams.specs.declared.Streamed.{Streamed}
use Rattle.streams.specs.declared.Streamed.TheVariants.{Written, Unwritten, Unread, TooSmall}

-- what the answer says of the text that was read, and of the page before and after
abbrev pub Says : Streamed → List ℕ → List ℕ → List ℕ → Type 0
Says r text before after =
    (bytes_run r ≤ length text) × ((after ≡ page_after r text before) × ((bytes_handed r ≡ bytes_printed r text) × (IsSmall r → length before < run_room)))

module _ (before printed : List ℕ) (e : Ended) where
  by_room : (b : Bool) → leb run_room (length before) ≡ b → ran_to before printed e ≡ cond b (ran.Printed (length printed) e.number e.line) ran.TooSmall
  unfolding ran_to
  by_room b g = ap (λ (x : Bool). cond x (ran.Printed (length printed) e.number e.line) ran.TooSmall) g

  -- a page without room is as it was
  pub too_small : (text after : List ℕ) → after ≡ ran_within before printed → ran.TooSmall ≡ ran_to before printed e → Says TooSmall text before after
  unfolding ran_within
  too_small text after put z = go (leb run_room (length before)) refl
    where
      go : (b : Bool) → leb run_room (length before) ≡ b → Says TooSmall text before after
      go true g = absurd (let y = z ∙ by_room true g in let o : ◌≡◌ {A = ℕ} 0 1 = cc in omega arith)
      go false g = (omega arith, (put ∙ ap (λ (x : Bool). cond x (sets before 0 printed) before) g, (refl, λ x. leb-false run_room (length before) g)))

  -- as many bytes as are printed, all of them on the page
  module _ (k number line : ℕ) (z : ran.Printed k number line ≡ ran_to before printed e) where
    counted : (k ≡ length printed) × (run_room ≤ length before)
    counted = go (leb run_room (length before)) refl
      where
        go : (b : Bool) → leb run_room (length before) ≡ b → (k ≡ length printed) × (run_room ≤ length before)
        go true g = let y = z ∙ by_room true g in (cc, leb-true run_room (length before) g)
        go false g = absurd (let y = z ∙ by_room false g in let o : ◌≡◌ {A = ℕ} 0 1 = cc in omega arith)

    pub within : (run_room ≤ length before → length printed ≤ run_room) → k ≤ length before
    within few = omega (arith, counted.0, counted.1, few counted.1)

-- what was read is what was run, and what it prints is handed over
pub handed : (r : Streamed) (n k number line : ℕ) (e : Ended) (text before after : List ℕ) → IsHanded n k r → n ≤ length text → after ≡ ran_within before (output (take n text))
    → ran.Printed k number line ≡ ran_to before (output (take n text)) e → Says r text before after
handed (Written a b) n k number line e text before after x h put z = rw (x.0, x.1) (h, (put, ((counted before (output (take n text)) e k number line z).0, λ y. absurd y)))
handed (Unwritten a b) n k number line e text before after x h put z = rw (x.0, x.1) (h, (put, ((counted before (output (take n text)) e k number line z).0, λ y. absurd y)))
handed Unread n k number line e text before after x h put z = absurd x
handed TooSmall n k number line e text before after x h put z = absurd x
