use Rattle.std.proofs.Common.{◌≡◌, length, take}
use Rattle.rubis_pool_core.specs.Machine.{run_of}
use Rattle.rubis_pool_core.proofs.schedules.run.Given as goal

abbrev pub invariant-loop-event : goal.invariant-loop-event
invariant-loop-event l = l.pool ≡ record {
  capacity = length l.fn.pieces.items;
  count = length l.fn.pieces.items;
  state = run_of l.fn.workers l.fn.pieces.items (take l.event-index l.events);
}
