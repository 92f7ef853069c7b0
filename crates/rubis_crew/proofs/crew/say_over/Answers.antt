use Rattle.std.proofs.Common.{ap, ◌∙◌}
use Rattle.crossbeam_queue.specs.Passes.{view}
use Rattle.rubis_crew.specs.declared.rule.JobView.{JobView}
use Rattle.rubis_crew.proofs.Giving.{says, few}
use Rattle.rubis_crew.proofs.crew.say_over.Goals as goal

pub push_as-requires-clause-rule : goal.push_as-requires-clause-rule
push_as-requires-clause-rule g c =
    let leads = ap (λ (v : JobView g.row.J.Denot). v.leads) c.loop.invariant.said ∙ c.requires.back.0 in
    (says g.J.Job.Fits c.loop.seat.id (view c.loop.seat) leads _, few g.J.Job.Fits c.loop.seat.id (view c.loop.seat) leads)
