use Rattle.std.proofs.Common.{◌-◌}
use Rattle.rubis_shard.proofs.messages.+fold_homes.Given as goal

abbrev pub decreases-fold_homes : goal.decreases-fold_homes
decreases-fold_homes l = l.message.now.shards - l.at
