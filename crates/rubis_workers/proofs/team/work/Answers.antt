use Rattle.rubis_workers.proofs.Common.{[], ◌∷◌, ◌++◌, length, ap, ◌∙◌, sym, subst, arith, All, AllZip, length-append, PassState}
use Rattle.rubis_workers.specs.Work.{having}
use Rattle.rubis_workers.proofs.Folded.{part_length, last_is, zip_append, zip_length}
use Rattle.rubis_workers.proofs.team.work.Goals as goal

pub work_on-requires : goal.work_on-requires
work_on-requires g c =
    last_is (g.T.Task.Fits c.args.job.now.task.now) c.loop.pass.posted c.loop.pass.taken c.in-Some-take.piece c.in-Some-take.ensures.posted
    (subst (All (g.T.Task.Fits c.args.job.now.task.now)) (sym (ap (λ (p : PassState). p.posted) c.loop.invariant.2)) c.requires.pieces)

pub push_reserved-requires : goal.push_reserved-requires
push_reserved-requires g c =
    let long = part_length c.loop.pass.posted (c.loop.pass.taken ++ c.in-Some-take.piece ∷ []) c.in-Some-take.ensures.posted in
    let posted = ap (λ (p : PassState). length p.posted) c.loop.invariant.2 in
    let done = zip_length (g.T.Task.Worked c.args.job.now.task.now) c.loop.pass.taken c.loop.room.items c.loop.invariant.3 in
    let more = length-append c.loop.pass.taken (c.in-Some-take.piece ∷ []) in
    let room = c.loop.invariant.4 in
    let ok = c.loop.room.ok in
    omega arith

pub loop-preserved : goal.loop-preserved
loop-preserved g c =
    let now = c.in-Some-take.ensures.piece.1 in
    let was = c.loop.invariant.2 in
    let taken = ap (λ (p : PassState). p.taken) now in (
      tt,
      tt,
      now ∙ (λ i. having (was i) (sym taken i) (sym (ap (λ (p : PassState). p.seen_none) now) i)),
      subst (λ l. AllZip (g.T.Task.Worked c.args.job.now.task.now) l c.push_reserved.new.self.items) (sym taken)
          (subst (AllZip (g.T.Task.Worked c.args.job.now.task.now) (c.loop.pass.taken ++ c.in-Some-take.piece ∷ [])) (sym c.push_reserved.ensures.items)
          (zip_append (g.T.Task.Worked c.args.job.now.task.now) c.loop.pass.taken (c.in-Some-take.piece ∷ []) c.loop.room.items (c.work_on.result ∷ [])
          c.loop.invariant.3 (c.work_on.ensures, tt))),
      (let same = c.push_reserved.ensures.capacity in let room = c.loop.invariant.4 in omega arith),
    )
