use Rattle.std.proofs.Common.{refl, subst}
use Rattle.crossbeam_queue.specs.Passes.{view}
use Rattle.rubis_crew.specs.declared.rule.JobEntry.{JobEntry}
use Rattle.rubis_crew.specs.Rule.{HasTaken}
use Rattle.rubis_crew.proofs.Handing.{after_taking, still_leads, takes}
use Rattle.rubis_crew.proofs.crew.Crew.take_unworked.Goals as goal

pub pop_as-requires-clause-rule : goal.pop_as-requires-clause-rule
pop_as-requires-clause-rule g c =
    (takes g.J.Job.Fits c.lead.inside.seat.id (view c.lead.inside.seat), λ items views ruled at. tt)

pub settle-requires-clause-one : goal.settle-requires-clause-one
settle-requires-clause-one g c κs within =
    let x = c.in-Some-Work.given in
    let taken =
    subst (λ (item : JobEntry g.row.J.Denot). HasTaken g.J.Job.Fits (view c.lead.inside.seat) item (view c.pop_as.new.pass))
    c.in-Some-Work.field-0-is c.in-Some-Work.ensures.rule in
    let came =
    after_taking (view c.lead.inside.seat) (view c.pop_as.new.pass) x c.lead.invariant.pair.holds_none taken.1 in
    (x, came.held)

pub invariant_of-lead : goal.invariant_of-lead
invariant_of-lead g c =
    let x = c.in-Some-Work.given in
    let taken =
    subst (λ (item : JobEntry g.row.J.Denot). HasTaken g.J.Job.Fits (view c.lead.inside.seat) item (view c.pop_as.new.pass))
    c.in-Some-Work.field-0-is c.in-Some-Work.ensures.rule in
    let came =
    after_taking (view c.lead.inside.seat) (view c.pop_as.new.pass) x c.lead.invariant.pair.holds_none taken.1 in
    still_leads c.lead.inside.next c.lead.inside.count c.lead.inside.ended c.lead.inside.seat c.pop_as.new.pass c.settle.new.seat c.lead.inside.desk
    c.lead.inside.desk x c.lead.invariant c.in-Some-Work.ensures.queue came c.settle.ensures c.lead.invariant.pair.desk_free refl
