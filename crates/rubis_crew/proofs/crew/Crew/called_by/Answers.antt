use Rattle.crossbeam_queue.specs.Passes.{view}
use Rattle.rubis_crew.proofs.Giving.{begins}
use Rattle.rubis_crew.proofs.Handing.{shares}
use Rattle.rubis_crew.proofs.Paying.{collects}
use Rattle.rubis_crew.proofs.crew.Crew.called_by.Goals as goal

pub ruled-requires-clause-rule : goal.ruled-requires-clause-rule
ruled-requires-clause-rule g c = begins g.J.Job.Fits

pub another-token-requires-clause-rule : goal.another-token-requires-clause-rule
another-token-requires-clause-rule g c = shares g.J.Job.Fits c.in_ok-jobs.seat.id (view c.in_ok-jobs.seat)

pub pop_as-requires-clause-rule : goal.pop_as-requires-clause-rule
pop_as-requires-clause-rule g c =
    (collects g.J.Job.Worked c.push_as.new.pass.id (view c.push_as.new.pass), λ items views ruled at. tt)
