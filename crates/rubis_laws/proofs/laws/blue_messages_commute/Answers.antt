use Rattle.rubis_laws.proofs.Rows.Commuting.{blue_messages_commute}
use Rattle.rubis_laws.proofs.laws.blue_messages_commute.Goals as goal

pub returns : goal.returns
returns c = blue_messages_commute
