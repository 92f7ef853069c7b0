use Rattle.rubis_shard.proofs.Distinct.{keys_differ}
use Rattle.rubis_shard.proofs.row_map.Rows.lens.Goals as goal

pub returns : goal.returns
returns c = keys_differ c.args.self.now c.len.ensures.unique c.len-2.ensures.unique c.len-3.ensures.unique c.len-4.ensures.unique
