use Rattle.rubis_shard.proofs.Common.{sym, subst, row_key, same_id_key}
use Rattle.rubis_shard.specs.Chains.{IsLinkedSoFar}
use Rattle.rubis_shard.proofs.Changed.{altered_chains, row_stays_at}
use Rattle.rubis_shard.proofs.InMaps.{kept_is_no_nick}
use Rattle.rubis_shard.proofs.row_map.LinkedRows.alter.Goals as goal

pub invariant_of-self : goal.invariant_of-self
invariant_of-self c =
    let s = c.args.self.now in
    let key = c.args.key.now in
    record {
      linked = subst (λ cs. IsLinkedSoFar cs s.chains)
          (sym (altered_chains same_id_key s.rows.entries c.alter_in.new.rows.entries key c.args.change.now c.alter_in.result c.alter_in.ensures.none
          c.alter_in.ensures.some
          (λ was. row_stays_at (row_key key) c.args.change.now was (kept_is_no_nick key) c.requires) row_key))
          s.linked;
    }
