-- `gas_book::price_of` meets its contract. Assumes nothing.
use Rattle.std.proofs.Common.{◌≡◌, ℕ, ◌-◌, List, [], ◌∷◌, length, refl, ◌∙◌, arith}
use Rattle.std.specs.List.{slice_get}
use Rattle.std.proofs.lemmas.Option.{slice_get-get_or}
use Rattle.rules_gas.specs.Book.{last_price}
use Rattle.rules_gas.proofs.BookLaws.{last_none, last_is}
use Rattle.gas_book.proofs.price_of.Goals as goal

last_got : (l : List ℕ) → slice_get l (length l - 1) ≡ last_price l
last_got [] = last_none [] refl
last_got (x ∷ l) = slice_get-get_or (x ∷ l) (length (x ∷ l) - 1) 0 (omega arith) ∙ last_is (x ∷ l) (λ e. omega arith)

pub returns-clause-price : goal.returns-clause-price
returns-clause-price c = c.copied.ensures ∙ c.last.ensures.value ∙ last_got c.args.run.now
