-- `classroom::bid` meets its contract. Assumes nothing.
use Rattle.std.proofs.Common.{◌≡◌, ℕ, ◌<◌, ◌≤◌, ◌+◌, ◌-◌, ◌*◌, ◌/◌, ◌%◌, ◌∙◌, get_or, arith}
use borrow.Author.Tests.{lt-ltb, le-ltb}
use Rattle.rules_classroom.specs.Classroom.{classroom_bid}
use Rattle.classroom.specs.Places.{bid_by, ends_of_two, prices_of_two, prices_of_three, bid_at}
use Rattle.classroom.proofs.PlaceLaws.{at_place}
use Rattle.classroom.proofs.bid.Goals as goal

module _ (k : ℕ) where
  of_one : k < 9 → bid_by 1 ((k / 3 + 1) * 100) (k % 3 * 100) ≡ classroom_bid k
  unfolding bid_at
  of_one h = rw (lt-ltb k 9 h) at (at_place k)

  of_two : 9 ≤ k → k < 27 → bid_by 2 (get_or ends_of_two ((k - 9) / 6) 0) (get_or prices_of_two ((k - 9) % 6) 0) ≡ classroom_bid k
  unfolding bid_at
  of_two h m = rw (le-ltb k 9 h, lt-ltb k 27 m) at (at_place k)

  of_three : 27 ≤ k → k < 37 → bid_by 3 123 (get_or prices_of_three (k - 27) 0) ≡ classroom_bid k
  unfolding bid_at
  of_three h m = let l : 9 ≤ k = omega arith in rw (le-ltb k 9 l, le-ltb k 27 h, lt-ltb k 37 m) at (at_place k)

  past : 37 ≤ k → bid_by 0 0 0 ≡ classroom_bid k
  unfolding bid_at
  past h = let l : 9 ≤ k = omega arith in let m : 27 ≤ k = omega arith in rw (le-ltb k 9 l, le-ltb k 27 m, le-ltb k 37 h) at (at_place k)

pub returns-then-k-lt9 : goal.returns-then-k-lt9
returns-then-k-lt9 c = c.bid_by.ensures ∙ of_one c.args.k (omega arith)

pub returns-then-k-lt27 : goal.returns-then-k-lt27
returns-then-k-lt27 c = c.bid_by-then-k-lt27.ensures ∙ of_two c.args.k (omega arith) (omega arith)

pub returns-then-k-lt-BIDS : goal.returns-then-k-lt-BIDS
returns-then-k-lt-BIDS c = c.bid_by-then-k-lt-BIDS.ensures ∙ of_three c.args.k (omega arith) (omega arith)

pub returns : goal.returns
returns c = c.bid_by-2.ensures ∙ past c.args.k (omega arith)
