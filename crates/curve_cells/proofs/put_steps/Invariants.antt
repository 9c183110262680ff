-- What the loop of `curve_cells::put_steps` keeps: the ends and the prices before its index are put.
use Rattle.std.proofs.Common.{length, ◌≡◌}
use Rattle.rules_curve.specs.declared.Step.{Step}
use Rattle.cells.proofs.PutLaws.{Left}
use Rattle.curve_cells.proofs.put_steps.Given as goal

abbrev pub invariant-loop-k : goal.invariant-loop-k
invariant-loop-k l = record {
  same_edges : length l.edges ≡ length l.initial.edges;
  same_prices : length l.prices ≡ length l.initial.prices;
  ends_left : Left (λ (s : Step). s.end) l.steps l.initial.edges 2 l.edges l.k;
  prices_left : Left (λ (s : Step). s.price) l.steps l.initial.prices 0 l.prices l.k;
}
