use Rattle.rubis_replica.proofs.Common.{◌+◌, ◌∙◌, length, refl, sym, ap, arith, arc_value, PassState}
use Rattle.rubis_replica.specs.Folding.{messages_of}
use Rattle.rubis_replica.specs.declared.folding.SharedBatch.{SharedBatch}
use Rattle.rubis_replica.proofs.GivenOut.{as_folded, mine_worked, task_fits}
use Rattle.rubis_replica.proofs.hands.fan_out.Goals as goal

pub work-pass-requires-clause-pieces : goal.work-pass-requires-clause-pieces
work-pass-requires-clause-pieces g c =
    let b = arc_value c.args.job.now.batch.now in
    task_fits b c.give_all-pass.result.posted c.task.result.batch.now c.task.result.homes.now c.task.result.first c.give_all-pass.ensures.pass.0.pieces
    (c.task.ensures.batch ∙ ap messages_of c.deref.ensures) (c.task.ensures.homes ∙ ap (λ (x : SharedBatch). x.homes.items) c.deref.ensures)
    (c.task.ensures.first ∙ ap (λ (x : SharedBatch). x.span.from + 1) c.deref.ensures)

pub take_all-requires-clause-worked : goal.take_all-requires-clause-worked
take_all-requires-clause-worked g c κs within =
    let same = ap (λ (p : PassState). length p.posted) c.work-pass.ensures.pass in
    let room = c.work-pass.ensures.room in
    mine_worked (arc_value c.args.job.now.batch.now) _ (ap (λ (p : PassState). p.seen_none) c.work-pass.ensures.pass)
    (as_folded (arc_value c.args.job.now.batch.now) c.task.result.batch.now c.task.result.first c.work-pass.result.0.taken c.work-pass.result.1.items
    (c.task.ensures.batch ∙ ap messages_of c.deref.ensures) (c.task.ensures.first ∙ ap (λ (x : SharedBatch). x.span.from + 1) c.deref.ensures)
    c.work-pass.ensures.done) (omega (arith, room, same)) refl

pub returns : goal.returns
returns g c =
    let back = c.take_all.ensures.back in
    let worked = c.work-pass.ensures.pass in
    let shared = c.give_all-pass.ensures.pass in (
      back.0,
      back.1 ∙ ap (λ (p : PassState). p.board) worked ∙ shared.0.board_is ∙ sym c.requires.pass.1.board_is,
      back.2 ∙ ap (λ (p : PassState). p.posted) worked ∙ shared.1,
      (let now = back.3 in
          let same = ap (λ (p : PassState). p.parts) worked in
          let sum = c.give_all-pass.ensures.out.1 in omega (arith, now, same, sum)),
      c.take_all.ensures.worked,
    )
