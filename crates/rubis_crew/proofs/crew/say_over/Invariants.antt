use Rattle.std.proofs.Common.{◌≡◌}
use Rattle.crossbeam_queue.specs.Passes.{view, IsPassOf, IsSamePass}
use Rattle.rubis_crew.proofs.crew.say_over.Given as goal

abbrev pub invariant-loop : goal.invariant-loop
invariant-loop g l = record {
  queue : IsPassOf l.jobs l.seat;
  same : IsSamePass l.fn.seat l.seat;
  said : view l.seat ≡ record (view l.fn.seat) { overs = l.counter };
}
