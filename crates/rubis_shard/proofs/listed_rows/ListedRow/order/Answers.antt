use Rattle.rubis_shard.proofs.Common.{◌∙◌, nat_cmp}
use Rattle.rubis_shard.proofs.Picked.{ordered}
use Rattle.rubis_shard.proofs.listed_rows.ListedRow.order.Goals as goal

pub returns : goal.returns
returns c =
    c.cmp.ensures ∙ (λ i. nat_cmp (c.key_number.ensures.number i) (c.key_number-2.ensures.number i))
    ∙ ordered c.args.self.now.0 c.args.other.now.0 c.key_number.ensures.listed c.key_number-2.ensures.listed
