use Rattle.rubis_workers.proofs.Common.{◌≡◌, ◌≤◌, length, AllZip, vec_capacity}
use Rattle.rubis_workers.specs.Work.{having}
use Rattle.rubis_workers.proofs.team.work.Given as goal

abbrev pub invariant-loop : goal.invariant-loop
invariant-loop g l =
    (goal.iterator-loop g).can_next l.iterator' × (goal.iterator-loop g).is_finite l.iterator'
    × (l.pass ≡ having l.fn.pass l.pass.taken l.pass.seen_none)
    × AllZip (g.T.Task.Worked l.job.task.now) l.pass.taken l.room.items × (length l.fn.pass.posted ≤ vec_capacity l.room)
