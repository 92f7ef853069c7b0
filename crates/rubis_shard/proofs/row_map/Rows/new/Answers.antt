use Rattle.std.proofs.Common.{sym, subst}
use Rattle.rubis_shard.specs.Chains.{AreOthers, AreUsers}
use Rattle.rubis_shard.proofs.row_map.Rows.new.Goals as goal

pub invariant_of-result : goal.invariant_of-result
invariant_of-result c = record {
  are_users = subst AreUsers (sym c.new.ensures) tt;
  are_others = subst AreOthers (sym c.new-2.ensures) tt;
}
