-- Laws of the outputs of resources put in turn, and of the interval that is read from them. Assumes nothing.
use Prim.Native.Nat.{ℕ, suc, ◌+◌, ◌*◌, ◌≤◌, ◌<◌}
use mathlib.Core.List.{List, [], ◌∷◌}
use mathlib.Core.Path.{◌≡◌, refl, sym, ◌∙◌}
use native.Mathlib.Omega.{arith}
use borrow.Author.Count.{below_more}
use lib.IntN.{ℤ, pos}
use lib.ListN.{length, set}
use lib.Seq.{sets}
use Rattle.rules_number.proofs.ListedLaws.{listed_is}
use Rattle.rules_number.proofs.OverLaws.{listed_same}
use Rattle.rules_interval.specs.declared.Interval.{Interval}
use Rattle.rules_text.proofs.ListLaws.{sets_before}
use Rattle.rules_library.specs.Slices.{cell_at}
use Rattle.rules_state.specs.Layout.{most_resources}
use Rattle.rules_state.specs.Intervals.{outputs_in}
use Rattle.rules_state.specs.Openings.{numbers_in}
use Rattle.rules_state.proofs.StandLaws.{Stands, stands_stored}
use Rattle.interval.specs.Over.{interval_over}
use Rattle.engine.specs.Outputs.{OutputsIn}

-- four numbers put in turn
four_put : (l : List ℤ) (i : ℕ) (a b c d : ℤ) → set (set (set (set l i a) (i + 1) b) (i + 2) c) (i + 3) d ≡ sets l i (a ∷ b ∷ c ∷ d ∷ [])
four_put l i a b c d =
    let e : i + 1 ≡ suc i = omega arith in
    let f : i + 2 ≡ suc (suc i) = omega arith in
    let g : i + 3 ≡ suc (suc (suc i)) = omega arith in
    rw (e, f, g)

module _ (lmp dispatch available floor : List ℤ) where
  -- those of resource r
  abbrev pub four : ℕ → List ℤ
  four r = cell_at lmp r ∷ cell_at dispatch r ∷ cell_at available r ∷ cell_at floor r ∷ []

  -- those of the first n resources stand in a list
  abbrev pub Put : List ℤ → ℕ → Type 0
  Put l n = (r : ℕ) → r < n → Stands l (4 * r) (four r)

  pub next : (l : List ℤ) (r : ℕ) (a b c d : ℤ) → a ≡ cell_at lmp r → b ≡ cell_at dispatch r → c ≡ cell_at available r → d ≡ cell_at floor r
      → set (set (set (set l (4 * r) a) (4 * r + 1) b) (4 * r + 2) c) (4 * r + 3) d ≡ sets l (4 * r) (four r)
  next l r a b c d e f g h = rw (e, f, g, h) (four_put l (4 * r) (cell_at lmp r) (cell_at dispatch r) (cell_at available r) (cell_at floor r))

  pub put_next : (l : List ℤ) (n : ℕ) → 4 * n + 4 ≤ length l → Put l n → Put (sets l (4 * n) (four n)) (n + 1)
  put_next l n room p =
      below_more _ _ (λ r h k m. sets_before (pos 0) l (4 * n) (four n) (4 * r + k) (omega arith) ∙ p r h k m) (stands_stored l (4 * n) (four n) (omega arith))

  -- output k of each
  each : (l : List ℤ) → Put l most_resources → (k : ℕ) (w : List ℤ) → k < 4 → ((r : ℕ) → cell_at (four r) k ≡ cell_at w r) → outputs_in l k ≡ numbers_in w most_resources
  each l p k w h e = listed_same (λ r. cell_at l (4 * r + k)) (cell_at w) most_resources (λ r m. p r m k h ∙ e r)

  pub all_put : (l : List ℤ) → Put l most_resources → OutputsIn l lmp dispatch available floor
  all_put l p = record {
    lmp_in = each l p 0 lmp (omega arith) (λ r. refl);
    dispatch_in = each l p 1 dispatch (omega arith) (λ r. refl);
    available_in = each l p 2 available (omega arith) (λ r. refl);
    floor_in_lem = each l p 3 floor (omega arith) (λ r. refl);
  }

-- an array of 64 numbers is those numbers
whole : (l : List ℤ) → length l ≡ most_resources → numbers_in l most_resources ≡ l
whole l n = sym (listed_is (pos 0) l (cell_at l) most_resources n (λ r h. refl))

-- the interval that is read from the outputs of its own resources
pub read_over : (v : Interval) (l : List ℤ) → length v.lmp ≡ most_resources → length v.dispatch ≡ most_resources → length v.available ≡ most_resources → length v.floor ≡ most_resources
    → OutputsIn l v.lmp v.dispatch v.available v.floor
    → interval_over v.constraints v.shadow v.resources l v.factors v.parameter ≡ v
read_over v l a b c d p =
    let e = p.lmp_in ∙ whole v.lmp a in
    let f = p.dispatch_in ∙ whole v.dispatch b in
    let g = p.available_in ∙ whole v.available c in
    let h = p.floor_in_lem ∙ whole v.floor d in
    rw (e, f, g, h)
