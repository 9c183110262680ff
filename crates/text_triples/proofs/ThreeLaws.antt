-- Laws of lines of three values. Assumes nothing.
use Rattle.std.specs.Prelude.{None, Some, Option}
use Rattle.std.proofs.Common.{◌≡◌, ℕ, List, [], ◌∷◌, set, replicate, ℤ, pos, refl, arith}
use Rattle.rules_text.specs.declared.Row as source
use Rattle.rules_text.specs.Offsets.{number_at, closed_by, row_at}
use Rattle.rules_text.proofs.RowLaws.{Rowing, rowing_start, rowing_missing, rowing_more, rowing_done, row_none, row_some}

-- what is stored of a row, value by value
abbrev none : List ℤ
none = replicate 3 (pos 0)

abbrev one : ℤ → List ℤ
one x = set none 0 x

abbrev two : ℤ → ℤ → List ℤ
two x y = set (one x) 1 y

module _ (s : List ℕ) (at : ℕ) where
  -- its first value is none
  pub no_first : None ≡ closed_by s 32 (number_at s at) → None ≡ row_at 3 s at 3
  no_first e = row_none 3 s at 3 refl (rowing_missing 3 s at 3 none at 0 (rowing_start 3 s at 3 (omega arith)) (omega arith) e)

  module _ (x : ℤ) (p : ℕ) (first : Some (x, p) ≡ closed_by s 32 (number_at s at)) where
    after_one : Rowing 3 s at 3 (one x) p 1
    after_one = rowing_more 3 s at 3 none at 0 (rowing_start 3 s at 3 (omega arith)) (omega arith) x p first

    -- or its second
    pub no_second : None ≡ closed_by s 32 (number_at s p) → None ≡ row_at 3 s at 3
    no_second e = row_none 3 s at 3 refl (rowing_missing 3 s at 3 (one x) p 1 after_one (omega arith) e)

    module _ (y : ℤ) (q : ℕ) (second : Some (y, q) ≡ closed_by s 32 (number_at s p)) where
      after_two : Rowing 3 s at 3 (two x y) q 2
      after_two = rowing_more 3 s at 3 (one x) p 1 after_one (omega arith) y q second

      -- or its third
      pub no_third : None ≡ closed_by s 10 (number_at s q) → None ≡ row_at 3 s at 3
      no_third e = row_none 3 s at 3 refl (rowing_missing 3 s at 3 (two x y) q 2 after_two (omega arith) e)

      pub three_is : (z : ℤ) (n : ℕ) → Some (z, n) ≡ closed_by s 10 (number_at s q) → ◌≡◌ {A = Option (source.Row 3)} (Some (record { v = x ∷ y ∷ z ∷ []; next = n })) (row_at 3 s at 3)
      three_is z n e =
          let r = rowing_done 3 s at 3 (set (two x y) 2 z) n 3 (rowing_more 3 s at 3 (two x y) q 2 after_two (omega arith) z n e) (omega arith) in
          row_some 3 s at 3 refl (set (two x y) 2 z) n r.values r.end

-- the values of a line that calls hand back
pub by_values : {a x b y d z : ℤ} {n : ℕ} → a ≡ x → b ≡ y → d ≡ z
    → ◌≡◌ {A = Option (source.Row 3)} (Some (record { v = a ∷ b ∷ d ∷ []; next = n })) (Some (record { v = x ∷ y ∷ z ∷ []; next = n }))
by_values p q r = cc
