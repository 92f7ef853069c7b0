use Rattle.rubis_replica.proofs.Common.{◌+◌, ◌∙◌, ap, sym, arc_value, PassState, having}
use Rattle.rubis_replica.specs.Folding.{messages_of}
use Rattle.rubis_replica.specs.declared.folding.SharedBatch.{SharedBatch}
use Rattle.rubis_replica.proofs.GivenOut.{as_folded, task_fits}
use Rattle.rubis_replica.proofs.folding.PartJob.work.Goals as goal

pub work-pass-requires-clause-pieces : goal.work-pass-requires-clause-pieces
work-pass-requires-clause-pieces g c =
    let b = arc_value c.args.self.batch in
    task_fits b c.args.self.pass.posted c.task.result.batch.now c.task.result.homes.now c.task.result.first c.requires.share.pieces
    (c.task.ensures.batch ∙ ap messages_of c.deref.ensures) (c.task.ensures.homes ∙ ap (λ (x : SharedBatch). x.homes.items) c.deref.ensures)
    (c.task.ensures.first ∙ ap (λ (x : SharedBatch). x.span.from + 1) c.deref.ensures)

pub returns : goal.returns
returns g c =
    let seen = ap (λ (p : PassState). p.seen_none) c.work-pass.ensures.pass in (
      record {
        pass = c.work-pass.ensures.pass ∙ (λ i. having c.args.self.pass c.work-pass.result.0.taken (sym seen i));
        worked =
            as_folded (arc_value c.args.self.batch) c.task.result.batch.now c.task.result.first c.work-pass.result.0.taken c.work-pass.result.1.items
            (c.task.ensures.batch ∙ ap messages_of c.deref.ensures) (c.task.ensures.first ∙ ap (λ (x : SharedBatch). x.span.from + 1) c.deref.ensures)
            c.work-pass.ensures.done;
      },
      seen,
    )
