-- What noskjerf_default and noskjerf_gas_default answer: -1 first, exactly where a slice is too short, whatever is refused; else the number of the refusal. Assumes nothing.
use Prim.Native.Nat.{ℕ, ◌≤◌, ◌<◌}
use mathlib.Core.Path.{◌≡◌, ap}
use mathlib.Core.Bool.{Bool}
use mathlib.Core.List.{List}
use mathlib.Core.Logic.{◌⊎◌, inl, inr}
use borrow.Author.Tests.{le-leb, lt-leb}
use lib.Dec.{leb}
use lib.IntN.{ℤ, pos, negsuc}
use lib.ListN.{length}
use Rattle.rules_cost.specs.Costs.{cost_refusal}
use Rattle.rules_cost.specs.declared.Costs.{Costs}
use Rattle.rules_gas.specs.Booked.{list_refusal}
use Rattle.rules_text.proofs.ListLaws.{and-false}
use Rattle.rules_library.specs.Slices.{answer_of, put_answer, default_answer}
use Rattle.rules_library.specs.Gas.{gas_answer}

module _ (edges : List ℕ) (prices : List ℤ) where
  -- the answer to a curve of 13 edges and 11 prices with this number
  pub record Answers (n : ℕ) (answer : ℤ) : Type 0 where
    pub too_short : (length edges < 13) ⊎ (length prices < 11) → answer ≡ negsuc 0
    pub with_room : 13 ≤ length edges → 11 ≤ length prices → answer ≡ pos n

  pub put_answer_lem : (n : ℕ) → Answers n (put_answer edges prices n)
  put_answer_lem n = record { too_short = short; with_room = λ h k. rw (le-leb 13 (length edges) h, le-leb 11 (length prices) k) }
    where
      short : (length edges < 13) ⊎ (length prices < 11) → put_answer edges prices n ≡ negsuc 0
      short (inl h) = rw (lt-leb 13 (length edges) h)
      short (inr h) = rw (lt-leb 11 (length prices) h) (ap (λ (b : Bool). answer_of b n) (and-false (leb 13 (length edges))))

  pub default_answer_lem : (c : Costs) → Answers (cost_refusal c) (default_answer edges prices c)
  default_answer_lem c = put_answer_lem (cost_refusal c)

  pub gas_answer_lem : (day : ℕ) (l : List ℕ) (c : Costs) → Answers (list_refusal day l c) (gas_answer edges prices day l c)
  gas_answer_lem day l c = put_answer_lem (list_refusal day l c)
