use Rattle.std.proofs.Common.{ap, sym, subst, take}
use Rattle.rubis_pool_core.specs.Machine.{PoolOf}
use Rattle.rubis_pool_core.specs.Batches.{Accounted}
use Rattle.rubis_pool_core.proofs.Accounts.{every}
use Rattle.rubis_pool_core.proofs.schedules.run.Goals as goal

pub returns-clause-once : goal.returns-clause-once
returns-clause-once c =
    subst (Accounted c.args.pieces.items) (sym (ap (λ (p : PoolOf). p.state) c.loop-event.invariant))
    (every c.args.workers c.args.pieces.items (take c.loop-event.event-index c.args.events.now))
