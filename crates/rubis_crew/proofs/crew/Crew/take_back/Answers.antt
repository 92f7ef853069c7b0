use Rattle.std.proofs.Common.{ap, ◌∙◌, subst}
use Rattle.crossbeam_queue.specs.Passes.{view}
use Rattle.rubis_crew.specs.declared.job.Given.{Given}
use Rattle.rubis_crew.specs.declared.results.ResultView.{ResultView}
use Rattle.rubis_crew.specs.declared.results.Slip.{Slip}
use Rattle.rubis_crew.specs.Rule.{BelongsTo}
use Rattle.rubis_crew.proofs.Handing.{receives, after_receiving, still_leads}
use Rattle.rubis_crew.proofs.Paying.{collects}
use Rattle.rubis_crew.proofs.crew.Crew.take_back.Goals as goal

pub pop_as-requires-clause-rule : goal.pop_as-requires-clause-rule
pop_as-requires-clause-rule g c =
    (collects g.J.Job.Worked c.lead.inside.desk.id (view c.lead.inside.desk), λ items views ruled at. tt)

pub absorb-requires-clause-rule : goal.absorb-requires-clause-rule
absorb-requires-clause-rule g c =
    receives g.J.Job.Fits c.lead.inside.seat.id (view c.lead.inside.seat) c.in-Some-Pay.payment.token.id (view c.in-Some-Pay.payment.token)

pub settle-requires-clause-one : goal.settle-requires-clause-one
settle-requires-clause-one g c κs within =
    let paid =
    subst (λ (slip : Slip g.row.J.Denot g.row.J-Output.Denot). BelongsTo g.J.Job.Worked c.in-Some-Pay.ensures.rule.1.0 slip)
    c.in-Some-Pay.field-0-is c.in-Some-Pay.ensures.rule.1.2 in
    let x : Given g.row.J.Denot = record { number = c.in-Some-Pay.payment.number; job = paid.job } in
    let came =
    after_receiving (view c.lead.inside.seat) (view c.absorb.new.pass) x c.lead.invariant.pair.holds_none (view c.in-Some-Pay.payment.token)
    paid.held c.absorb.ensures.rule in
    (x, came.held)

pub invariant_of-lead : goal.invariant_of-lead
invariant_of-lead g c =
    let told = c.in-Some-Pay.ensures.rule.0 in
    let paid =
    subst (λ (slip : Slip g.row.J.Denot g.row.J-Output.Denot). BelongsTo g.J.Job.Worked c.in-Some-Pay.ensures.rule.1.0 slip)
    c.in-Some-Pay.field-0-is c.in-Some-Pay.ensures.rule.1.2 in
    let x : Given g.row.J.Denot = record { number = c.in-Some-Pay.payment.number; job = paid.job } in
    let came =
    after_receiving (view c.lead.inside.seat) (view c.absorb.new.pass) x c.lead.invariant.pair.holds_none (view c.in-Some-Pay.payment.token)
    paid.held c.absorb.ensures.rule in
    still_leads c.lead.inside.next c.lead.inside.count c.lead.inside.ended c.lead.inside.seat c.absorb.new.pass c.settle.new.seat c.lead.inside.desk
    c.pop_as.new.pass x c.lead.invariant c.absorb.ensures.queue came c.settle.ensures (c.in-Some-Pay.ensures.queue.2 ∙ c.lead.invariant.pair.desk_free)
    (ap (λ (v : ResultView g.row.J.Denot). v.of) told)
