use Rattle.rubis_shard.proofs.Common.{sym, ap, ◌∙◌, Some}
use Rattle.rubis_shard.proofs.Linking.{chain_of_other, chain_of_user}
use Rattle.rubis_shard.proofs.chains.chain_of.Goals as goal

pub returns-in-User : goal.returns-in-User
returns-in-User c = ap Some c.chain_of_users.ensures ∙ sym (chain_of_user c.args.key.now c.args.row.now c.in-User.is)

pub returns-in_default : goal.returns-in_default
returns-in_default c = c.chain_of_row.ensures ∙ sym (chain_of_other c.args.key.now c.args.row.now c.in_default.not-User)
