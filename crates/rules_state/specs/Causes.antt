-- Why an interval cuts a resource or does not, in numbers: four of each resource.
use Rattle.std.specs.Prelude.{Bool, cond, ℕ, ltb, ℤ, pos, replicate}
use mathlib.Core.List.{List, [], ◌∷◌, flat_map}
use Rattle.rules_number.specs.Over.{listed}
use Rattle.rules_interval.specs.Intervals.{lmp_at}
use Rattle.rules_interval.specs.declared.Interval.{Interval}
use Rattle.rules_path.specs.declared.Market.{Market}
use Rattle.rules_hour.specs.Cuts.{component, competitive_price, cut_of}
use Rattle.rules_state.specs.Layout.{most_resources, cause_width}
use Rattle.rules_state.specs.States.{mark_of, price_of}

-- 1 where the interval cuts resource r, else 0; its component C; its competitive price; its floor price L, 0 where it isn't cut
unfoldable pub cause_of : Market → Interval → ℕ → List ℤ
cause_of m v r = mark_of (cut_of m v r) ∷ component m v r ∷ competitive_price (lmp_at v r) (component m v r) ∷ price_of (cut_of m v r) ∷ []

-- the hour has resource r; past its resources there are zeros
abbrev pub is_there : Market → ℕ → Bool
is_there m r = ltb r m.resources

unfoldable pub cause_at : Market → Interval → ℕ → List ℤ
cause_at m v r = cond (is_there m r) (cause_of m v r) (replicate cause_width (pos 0))

unfoldable pub causes_cells : Market → Interval → List ℤ
causes_cells m v = flat_map (cause_at m v) (listed (λ r. r) most_resources)
