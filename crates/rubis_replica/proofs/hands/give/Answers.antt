use Rattle.rubis_replica.proofs.Common.{◌-◌, ◌∙◌, ap, arith, arc_value, PassState}
use Rattle.rubis_replica.proofs.GivenOut.{one_given, part_fits, shares_too}
use Rattle.rubis_replica.proofs.hands.give.Goals as goal

pub give-requires-clause-fits : goal.give-requires-clause-fits
give-requires-clause-fits g c κs within =
    part_fits c.args.job.now.board.now (arc_value c.args.job.now.batch.now) c.args.pass _ c.requires.pass.0 c.in-Some-Ok-Ok.ensures c.in-Some-Ok-Ok.ensures'
    c.split-mine.ensures.second c.requires.pass.2

pub returns-in-Ok-clause-pass : goal.returns-in-Ok-clause-pass
returns-in-Ok-clause-pass g c =
    let left = c.split-mine.ensures.first in
    let can = c.requires.pass.0 in
    let posted = ap (λ (p : PassState). p.posted) left in (
      shares_too c.args.job.now.board.now (arc_value c.args.job.now.batch.now) c.args.pass c.split-mine.result.0 can
          (ap (λ (p : PassState). p.board) left) posted (ap (λ (p : PassState). p.taken) left ∙ can.taken)
          (ap (λ (p : PassState). p.seen_none) left ∙ can.seen_none),
      posted,
      (let parts = ap (λ (p : PassState). p.parts) left in omega (arith, parts)),
    )

pub returns-in-Ok-clause-out : goal.returns-in-Ok-clause-out
returns-in-Ok-clause-out g c =
    let left = c.split-mine.ensures.first in
    let out =
    one_given c.args.crew.now.id c.args.job.now.board.now (arc_value c.args.job.now.batch.now) c.args.pass c.split-mine.result.0 _ c.args.lead.now
    c.give.new.lead c.requires.out left c.split-mine.ensures.second c.in-Some-Ok-Ok.ensures' c.in-Ok.ensures.given.1 in (
      out.0,
      (let parts = ap (λ (p : PassState). p.parts) left in
          let more = out.1 in
          let two = c.requires.pass.1 in omega (arith, parts, more, two)),
    )
