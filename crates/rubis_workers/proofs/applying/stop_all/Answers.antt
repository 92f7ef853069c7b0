use Rattle.std.proofs.Common.{rules}
use Rattle.rubis_workers.proofs.Applied.{index_more}
use Rattle.rubis_workers.proofs.applying.stop_all.Goals as goal

pub loop-preserved : goal.loop-preserved
loop-preserved c = record {
  many = search rules;
  at = index_more c.loop.stops.items c.push_reserved.new.self.items c.args.at c.loop.counter c.push_reserved.ensures.items
      c.loop.invariant.many c.loop.invariant.at;
  room = search rules;
}
