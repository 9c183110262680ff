-- Steps put one after the other, neighbours with one price as one. Assumes nothing.
use mathlib.Core.Bool.{false}
use mathlib.Core.List.{List, [], ◌∷◌, ◌++◌, append_assoc}
use mathlib.Core.Logic.{◌⊎◌, inr, ⊎_elim}
use mathlib.Core.Path.{◌≡◌, refl, sym, ap, ◌∙◌}
use Prim.Native.Nat.{ℕ, ◌+◌, ◌<◌}
use native.Mathlib.Omega.{arith}
use lib.IntN.{ℤ}
use lib.ListN.{length, set, length-append}
use lib.Seq.{sets, set-set}
use Rattle.rules_number.specs.Order.{eq_z}
use Rattle.rules_number.proofs.OrderLaws.{eq_z_cases}
use Rattle.rules_curve.specs.declared.Step.{Step}
use Rattle.rules_mitigation.specs.Mitigation.{joined, joined_after}
use Rattle.rules_mitigation.proofs.SegmentLaws.{joined_same, joined_other}
use Rattle.rules_text.proofs.ListLaws.{sets_append}

module _ (before : List Step) (kept : List Step) where
  -- a step is put after others
  pub put_more : (t : Step) → set (sets before 0 kept) (length kept) t ≡ sets before 0 (kept ++ (t ∷ []))
  put_more t =
      let e : length kept ≡ 0 + length kept = omega arith in
      ap (λ (k : ℕ). set (sets before 0 kept) k t) e ∙ sym (sets_append before 0 kept (t ∷ []))

  -- and in the place of the last
  pub put_over : (s t : Step) → set (sets before 0 (kept ++ (s ∷ []))) (length kept) t ≡ sets before 0 (kept ++ (t ∷ []))
  put_over s t = ap (λ (l : List Step). set l (length kept) t) (sym (put_more s)) ∙ set-set (sets before 0 kept) (length kept) s t ∙ put_more t

-- ---- n steps are put, the last at this price, and these are left: joined to them, they are the whole
module _ (whole : List Step) (s₀ now : List Step) (last : ℤ) (n : ℕ) (rest : List Step) where
  pub record Fresh : Type 0 where
    pub none : n ≡ 0
    pub same : now ≡ s₀
    pub left : joined rest ≡ whole

  pub record Begun : Type 0 where
    pub kept : List Step
    pub newest : Step
    pub counted : length kept + 1 ≡ n
    pub price : newest.price ≡ last
    pub put : now ≡ sets s₀ 0 (kept ++ (newest ∷ []))
    pub left : kept ++ joined_after newest rest ≡ whole

  abbrev pub Reached : Type 0
  Reached = Fresh ⊎ Begun

module _ {whole : List Step} {s₀ now : List Step} {last : ℤ} {n : ℕ} (t : Step) (rest : List Step) (k : ℕ) where
  -- the first step
  put_first : Fresh whole s₀ now last n (t ∷ rest) → k ≡ 0 → Begun whole s₀ (set now k t) t.price (k + 1) rest
  unfolding joined
  put_first w z = record {
    kept = [];
    newest = t;
    counted = omega arith;
    price = refl;
    put = rw (z, w.same);
    left = w.left;
  }

  module _ (w : Begun whole s₀ now last n (t ∷ rest)) where
    -- one at the price of the last
    put_same : last ≡ t.price → k + 1 ≡ n → Begun whole s₀ (set now k t) t.price (k + 1) rest
    put_same e z =
        let at : k ≡ length w.kept = omega (arith, z, w.counted) in
        record {
          kept = w.kept;
          newest = t;
          counted = omega (arith, at);
          price = refl;
          put = rw (at, w.put) (put_over s₀ w.kept w.newest t);
          left = ap (λ (l : List Step). w.kept ++ l) (sym (joined_same w.newest t rest (w.price ∙ e))) ∙ w.left;
        }

    -- one at another
    put_other : eq_z last t.price ≡ false → k ≡ n → Begun whole s₀ (set now k t) t.price (k + 1) rest
    put_other e z =
        let more = w.kept ++ (w.newest ∷ []) in
        let at : k ≡ length more = omega (arith, z, w.counted, length-append w.kept (w.newest ∷ [])) in
        record {
          kept = more;
          newest = t;
          counted = omega (arith, at);
          price = refl;
          put = rw (at, w.put) (put_more s₀ more t);
          left = append_assoc w.kept (w.newest ∷ []) (joined_after t rest)
              ∙ ap (λ (l : List Step). w.kept ++ l) (sym (joined_other w.newest t rest (ap (λ (x : ℤ). eq_z x t.price) w.price ∙ e))) ∙ w.left;
        }

  -- a step is put where it belongs
  pub put_next : Reached whole s₀ now last n (t ∷ rest)
      → (n ≡ 0 → k ≡ 0) → (0 < n → last ≡ t.price → k + 1 ≡ n) → (0 < n → eq_z last t.price ≡ false → k ≡ n)
      → Reached whole s₀ (set now k t) t.price (k + 1) rest
  put_next w f s o = inr (⊎_elim (λ x. put_first x (f x.none)) begun w)
    where
      begun : Begun whole s₀ now last n (t ∷ rest) → Begun whole s₀ (set now k t) t.price (k + 1) rest
      begun x =
          let h : 0 < n = omega (arith, x.counted) in
          ⊎_elim (λ e. put_same x e (s h e)) (λ e. put_other x e (o h e)) (eq_z_cases last t.price)

-- nothing is left: the whole is put
pub record Ended (whole : List Step) (s₀ now : List Step) (n : ℕ) : Type 0 where
  pub count : n ≡ length whole
  pub steps_are : now ≡ sets s₀ 0 whole

pub put_ended : {whole : List Step} {s₀ now : List Step} {last : ℤ} {n : ℕ} → Reached whole s₀ now last n [] → Ended whole s₀ now n
unfolding joined joined_after
put_ended {whole} {s₀} {now} {last} {n} w = ⊎_elim fresh begun w
  where
    fresh : Fresh whole s₀ now last n [] → Ended whole s₀ now n
    fresh x = rw (← x.left) (record { count = x.none; steps_are = x.same })

    begun : Begun whole s₀ now last n [] → Ended whole s₀ now n
    begun x =
        rw (← x.left)
        (record { count = omega (arith, x.counted, length-append x.kept (x.newest ∷ [])); steps_are = x.put })
