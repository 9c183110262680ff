-- The refusals and their order (paper 01, Refused, by place; paper 02 from 19 on). In definitions a refusal is its number in the paper's table, and 0 stands for none.
use Rattle.std.specs.Prelude.{Bool, cond, ℕ, zero, suc, Result, Ok, Err}
use Rattle.rules_curve.specs.declared.Refusal.{Refusal}
use Rattle.rules_curve.specs.declared.Refusal.TheVariants.{StepCount, Edge, Price, PointCount, Quantity, HeatRate, CostRange, IncrementalRate, Counts, Membership, OutsideDefault, HourFull, ResourceCount, ConstraintCount, IntervalRange, Output, Form, Length, PassTurn, HourOpen, GasBook, PartsApart, PartsTogether, TradingDay, NothingBinds}

-- the paper's number of each refusal
abbrev pub number_of : Refusal → ℕ
number_of StepCount = 1
number_of Edge = 2
number_of Price = 3
number_of PointCount = 4
number_of Quantity = 5
number_of HeatRate = 6
number_of CostRange = 7
number_of IncrementalRate = 8
number_of Counts = 9
number_of Membership = 10
number_of OutsideDefault = 11
number_of HourFull = 12
number_of ResourceCount = 13
number_of ConstraintCount = 14
number_of IntervalRange = 15
number_of Output = 16
number_of Form = 17
number_of Length = 18
number_of PassTurn = 19
number_of HourOpen = 20
number_of GasBook = 21
number_of PartsApart = 23
number_of PartsTogether = 24
number_of TradingDay = 25
number_of NothingBinds = 26

-- the number of an outcome: 0 where the call is accepted
abbrev pub outcome_number : {T : Type 0} → Result T Refusal → ℕ
outcome_number (Ok x) = 0
outcome_number (Err r) = number_of r

-- number n unless the test holds
abbrev pub unless : Bool → ℕ → ℕ
unless test n = cond test 0 n

infixl 5 ◌then◌
-- the first refusal wins
abbrev pub ◌then◌ : ℕ → ℕ → ℕ
zero then b = b
(suc a) then b = suc a

-- the first refusal of f 0, .., f (n - 1)
unfoldable pub each_to : (ℕ → ℕ) → ℕ → ℕ
each_to f zero = 0
each_to f (suc n) = each_to f n then f n
