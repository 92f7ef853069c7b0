use Rattle.crossbeam_queue.specs.Passes.{view}
use Rattle.rubis_crew.proofs.Handing.{shares}
use Rattle.rubis_crew.proofs.Paying.{joins}
use Rattle.rubis_crew.proofs.crew.Crew.another.Goals as goal

pub another-seat-requires-clause-rule : goal.another-seat-requires-clause-rule
another-seat-requires-clause-rule g c = shares g.J.Job.Fits c.helper.inside.seat.id (view c.helper.inside.seat)

pub another-desk-requires-clause-rule : goal.another-desk-requires-clause-rule
another-desk-requires-clause-rule g c =
    joins g.J.Job.Worked c.helper.inside.desk.id (view c.helper.inside.desk) c.helper.inside.seat.table_id c.helper.invariant.told
