use Rattle.rubis_workers.proofs.Common.{◌++◌, ap, sym, subst, AllZip, PassState}
use Rattle.rubis_workers.proofs.Folded.{zip_append, zip_length}
use Rattle.rubis_workers.proofs.team.+fan_out+fn-fan_out-join+arg3.Goals as goal

pub joined-requires-clause-ours : goal.joined-requires-clause-ours
joined-requires-clause-ours g t c =
    sym (zip_length (g.T.Task.Worked c.args.job.now.task.now) c.join-new.result.1.pass.taken c.join-new.result.1.list.items c.join-new.ensures.second.1.0)

pub joined-requires-clause-theirs : goal.joined-requires-clause-theirs
joined-requires-clause-theirs g t c =
    sym (zip_length (g.T.Task.Worked c.args.job.now.task.now) c.join-new.result.0.0.taken c.join-new.result.0.1.items c.join-new.ensures.first.1)

pub returns-clause-done : goal.returns-clause-done
returns-clause-done g t c =
    let Worked = g.T.Task.Worked c.args.job.now.task.now in
    let mine = c.join-new.result.1 in
    let theirs = c.join-new.result.0 in
    subst (λ l. AllZip Worked l c.joined.result.list.items) (sym (ap (λ (p : PassState). p.taken) c.joined.ensures.pass))
    (subst (AllZip Worked (mine.pass.taken ++ theirs.0.taken)) (sym c.joined.ensures.list)
    (zip_append Worked mine.pass.taken theirs.0.taken mine.list.items theirs.1.items c.join-new.ensures.second.1.0 c.join-new.ensures.first.1))
