use Rattle.rubis_replica.proofs.Common.{◌≡◌, arc_value}
use Rattle.rubis_replica.proofs.shared_batches.unshare.Given as goal

abbrev pub invariant-loop : goal.invariant-loop
invariant-loop g l = record {
  next : (goal.iterator-loop g).can_next l.iterator';
  ends : (goal.iterator-loop g).is_finite l.iterator';
  same : arc_value l.batch ≡ arc_value l.fn.batch;
}
