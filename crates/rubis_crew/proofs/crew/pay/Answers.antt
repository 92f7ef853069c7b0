use Rattle.std.proofs.Common.{ap, ◌∙◌, sym, subst}
use Rattle.crossbeam_queue.specs.Fifo.{Pushes}
use Rattle.crossbeam_queue.specs.Passes.{view, ruled_capacity}
use Rattle.rubis_crew.specs.declared.results.ResultView.{ResultView}
use Rattle.rubis_crew.specs.declared.results.Slip.{Slip}
use Rattle.rubis_crew.specs.Rule.{AreResults, HasPaid}
use Rattle.rubis_crew.proofs.Paying.{pays}
use Rattle.rubis_crew.proofs.crew.pay.Goals as goal

pub push_as-requires-clause-rule : goal.push_as-requires-clause-rule
push_as-requires-clause-rule g c =
    let told = ap (λ (v : ResultView g.row.J.Denot). v.of) c.loop.invariant.view ∙ c.requires.paid.1 in (
      subst
          (λ (slip : Slip g.row.J.Denot g.row.J-Output.Denot).
          Pushes (AreResults g.J.Job.Worked) (ruled_capacity c.args.results.now) c.loop.desk.id (view c.loop.desk) slip
          (HasPaid (view c.loop.desk) slip))
          (sym c.loop.invariant.slip)
          (pays g.J.Job.Worked c.loop.desk.id (view c.loop.desk) (ruled_capacity c.args.results.now) c.requires.paid.0 c.args.payment told
          c.requires.paid.2),
      λ items views ruled at. tt,
    )
