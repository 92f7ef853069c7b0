use Rattle.std.proofs.Common.{arith}
use Rattle.rubis_shard.proofs.Parts.{none_at_all}
use Rattle.rubis_shard.proofs.message_parts.MessageParts.next_home.Goals as goal

pub returns-clause-none : goal.returns-clause-none
returns-clause-none c = λ k low high.
    let second = c.home_from-second.ensures.least in
    let third = c.home_from.ensures.least in
    none_at_all c.args.self.now.entry c.args.self.now.shards k
    (c.home_from-first.ensures.none k low (omega arith)) (c.home_from-second.ensures.none k low (omega arith))
    (c.home_from.ensures.none k low high)
