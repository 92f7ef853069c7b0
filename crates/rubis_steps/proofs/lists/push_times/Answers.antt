use Rattle.std.proofs.Common.{◌∙◌, arith}
use Rattle.rubis_steps.proofs.Facts.{pushed_more}
use Rattle.rubis_steps.proofs.lists.push_times.Goals as goal

pub loop-done-preserved : goal.loop-done-preserved
loop-done-preserved c = record {
  within = omega arith;
  pushed = c.in_ok-push.ensures.items ∙ pushed_more c.loop-done.done c.args.number c.args.numbers.now.items c.loop-done.invariant.pushed;
}
