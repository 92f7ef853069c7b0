use Rattle.std.proofs.Common.{rules}
use Rattle.rubis_shard.proofs.Changed.{linked_put}
use Rattle.rubis_shard.proofs.row_map.LinkedRows.put.Goals as goal

pub invariant_of-self-in-Vacant : goal.invariant_of-self-in-Vacant
invariant_of-self-in-Vacant c =
    let s = c.args.self.now in
    record { linked = linked_put s.rows.entries _ c.args.key c.args.row s.chains (search rules) (search rules) s.linked }
