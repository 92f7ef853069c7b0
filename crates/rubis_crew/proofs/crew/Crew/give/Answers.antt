use Rattle.crossbeam_queue.specs.Passes.{view}
use Rattle.rubis_crew.proofs.Giving.{gives, few}
use Rattle.rubis_crew.proofs.crew.Crew.give.Goals as goal

pub push_as-requires-clause-rule : goal.push_as-requires-clause-rule
push_as-requires-clause-rule g c = (
  gives g.J.Job.Fits c.lead.inside.seat.id (view c.lead.inside.seat) c.lead.invariant.leads _ _ c.lead.invariant.number c.requires.fits,
  few g.J.Job.Fits c.lead.inside.seat.id (view c.lead.inside.seat) c.lead.invariant.leads,
)
