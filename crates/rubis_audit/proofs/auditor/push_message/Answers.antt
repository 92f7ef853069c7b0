use Rattle.rubis_audit.proofs.Collecting.{pushed_among}
use Rattle.rubis_audit.proofs.auditor.push_message.Goals as goal

pub returns-in_ok-push-in-Some-clause-among : goal.returns-in_ok-push-in-Some-clause-among
returns-in_ok-push-in-Some-clause-among c sites many among =
    pushed_among sites c.args.current.now c.in-Some.log c.push.new.self c.args.message c.in-Some.is c.in_ok-push-in-Some.ensures.ok many among
