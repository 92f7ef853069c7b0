use Rattle.rubis_replica.proofs.Common.{◌+◌, ◌∙◌, sym, ap, arc_value, PassState}
use Rattle.rubis_workers.proofs.Counts.{counts_length}
use Rattle.rubis_replica.specs.Folding.{cores_of}
use Rattle.rubis_replica.proofs.GivenOut.{of_batch, of_board, one_back, worked_too}
use Rattle.rubis_replica.proofs.hands.take_all.Goals as goal

pub joined-team-requires-clause-boards : goal.joined-team-requires-clause-boards
joined-team-requires-clause-boards g c =
    let out = c.loop.invariant.out in (
      out.board_is,
      of_board {G = g.row.G.Denot} c.args.crew.now.id c.args.job.now.board.now (arc_value c.args.job.now.batch.now) c.loop.team.pass c.loop.lead
          c.next_back.new.lead c.in-Some-next_back.done out c.in-Some-next_back.ensures.back,
    )

pub joined-team-requires-clause-ours : goal.joined-team-requires-clause-ours
joined-team-requires-clause-ours g c =
    let b = arc_value c.args.job.now.batch.now in
    sym (counts_length (b.span.from + 1) (cores_of b) c.loop.team.pass.taken c.loop.team.list.items c.loop.invariant.worked.worked)

pub joined-team-requires-clause-theirs : goal.joined-team-requires-clause-theirs
joined-team-requires-clause-theirs g c =
    let b = arc_value c.args.job.now.batch.now in
    let done = c.in-Some-next_back.done in
    sym (counts_length (b.span.from + 1) (cores_of b) done.pass.taken done.list.items
    (of_batch {G = g.row.G.Denot} c.args.crew.now.id c.args.job.now.board.now b c.loop.team.pass c.loop.lead c.next_back.new.lead done
    c.loop.invariant.out c.in-Some-next_back.ensures.back))

pub loop-preserved-in-Some-next_back : goal.loop-preserved-in-Some-next_back
loop-preserved-in-Some-next_back g c =
    let id = c.args.crew.now.id in
    let board = c.args.job.now.board.now in
    let b = arc_value c.args.job.now.batch.now in
    let done = c.in-Some-next_back.done in
    let comes = c.in-Some-next_back.ensures.back in
    let out = c.loop.invariant.out in
    let joined = c.joined-team.ensures.pass in
    let back =
    one_back {G = g.row.G.Denot} id board b c.loop.team.pass c.joined-team.result.pass c.loop.lead c.next_back.new.lead done out comes joined in
    record {
      next = tt;
      ends = tt;
      out = back.0;
      worked =
          worked_too b c.loop.team c.joined-team.result done.pass done.list c.loop.invariant.worked
          (of_batch {G = g.row.G.Denot} id board b c.loop.team.pass c.loop.lead c.next_back.new.lead done out comes) joined c.joined-team.ensures.list
          c.joined-team.ensures.room c.joined-team.ensures.others;
      posted = ap (λ (p : PassState). p.posted) joined ∙ c.loop.invariant.posted;
      sum = back.1 ∙ c.loop.invariant.sum;
    }
