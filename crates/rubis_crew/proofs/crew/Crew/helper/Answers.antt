use Rattle.crossbeam_queue.specs.Passes.{view}
use Rattle.rubis_crew.proofs.Handing.{shares}
use Rattle.rubis_crew.proofs.Paying.{joins}
use Rattle.rubis_crew.proofs.crew.Crew.helper.Goals as goal

pub another-seat-requires-clause-rule : goal.another-seat-requires-clause-rule
another-seat-requires-clause-rule g c = shares g.J.Job.Fits c.lead.inside.seat.id (view c.lead.inside.seat)

pub another-desk-requires-clause-rule : goal.another-desk-requires-clause-rule
another-desk-requires-clause-rule g c =
    joins g.J.Job.Worked c.lead.inside.desk.id (view c.lead.inside.desk) c.lead.inside.seat.table_id c.lead.invariant.pair.told
