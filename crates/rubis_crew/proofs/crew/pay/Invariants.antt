use Rattle.std.proofs.Common.{◌≡◌}
use Rattle.crossbeam_queue.specs.Passes.{view, IsPassOf, IsSamePass}
use Rattle.rubis_crew.specs.declared.results.Slip.TheVariants.{Pay}
use Rattle.rubis_crew.proofs.crew.pay.Given as goal

abbrev pub invariant-loop : goal.invariant-loop
invariant-loop g l = record {
  next : (goal.iterator-loop g).can_next l.iterator';
  ends : (goal.iterator-loop g).is_finite l.iterator';
  slip : l.slip ≡ Pay l.fn.payment;
  queue : IsPassOf l.results l.desk;
  same : IsSamePass l.fn.desk l.desk;
  view : view l.desk ≡ view l.fn.desk;
}
