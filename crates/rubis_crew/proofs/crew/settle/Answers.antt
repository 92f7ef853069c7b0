use Rattle.std.proofs.Common.{ap, ◌∙◌}
use Rattle.crossbeam_queue.specs.Passes.{view}
use Rattle.rubis_crew.specs.declared.rule.JobView.{JobView}
use Rattle.rubis_crew.proofs.Handing.{owns, settles}
use Rattle.rubis_crew.proofs.crew.settle.Goals as goal

pub learn_as-requires-clause-rule : goal.learn_as-requires-clause-rule
learn_as-requires-clause-rule g c = owns g.J.Job.Fits c.args.seat.now.id (view c.args.seat.now) c.requires.leads

pub another-requires-clause-rule : goal.another-requires-clause-rule
another-requires-clause-rule g c =
    let same = c.learn_as.ensures.queue.1 in
    settles g.J.Job.Fits c.learn_as.new.pass.id (view c.learn_as.new.pass)
    (ap (λ (v : JobView g.row.J.Denot). v.leads) same ∙ c.requires.leads) c.requires.one.0
    (ap (λ (v : JobView g.row.J.Denot). v.held) same ∙ c.requires.one.1)
