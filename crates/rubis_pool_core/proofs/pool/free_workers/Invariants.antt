use Rattle.std.proofs.Common.{◌≡◌, ◌≤◌}
use Rattle.std.specs.Prelude.{None, replicate}
use Rattle.std.specs.Vec.{vec_capacity}
use Rattle.rubis_pool_core.proofs.pool.free_workers.Given as goal

abbrev pub invariant-loop : goal.invariant-loop
invariant-loop l = (l.held.items ≡ replicate l.counter None) × (l.fn.workers ≤ vec_capacity l.held)
