use Rattle.std.proofs.Common.{subst}
use Rattle.crossbeam_queue.specs.Passes.{view}
use Rattle.rubis_crew.specs.declared.rule.JobEntry.{JobEntry}
use Rattle.rubis_crew.specs.Rule.{HasTaken}
use Rattle.rubis_crew.proofs.Handing.{hands, helped, takes}
use Rattle.rubis_crew.proofs.crew.Crew.help.Goals as goal

pub pop_as-requires-clause-rule : goal.pop_as-requires-clause-rule
pop_as-requires-clause-rule g c =
    (takes g.J.Job.Fits c.me.inside.seat.id (view c.me.inside.seat), λ items views ruled at. tt)

pub another-token-requires-clause-rule : goal.another-token-requires-clause-rule
another-token-requires-clause-rule g c = hands g.J.Job.Fits c.pop_as.new.pass.id (view c.pop_as.new.pass)

pub returns-in-Some-Work : goal.returns-in-Some-Work
returns-in-Some-Work g c =
    let x = c.in-Some-Work.given in
    let taken =
    subst (λ (item : JobEntry g.row.J.Denot). HasTaken g.J.Job.Fits (view c.me.inside.seat) item (view c.pop_as.new.pass))
    c.in-Some-Work.field-0-is c.in-Some-Work.ensures.rule in (
      x,
      helped c.me.inside.seat c.pop_as.new.pass c.another-token.new.pass c.another-token.result c.me.inside.desk c.pay.new.desk x
          c.args.me.now c.me.view_is c.in-Some-Work.ensures.queue c.another-token.ensures.queue.0 c.pay.ensures.queue
          (record {
            none = c.me.invariant.holds_none;
            taken = taken.1;
            left = c.another-token.ensures.rule.0;
            handed = c.another-token.ensures.rule.1;
            paid = c.pay.ensures.paid;
          }),
    )
