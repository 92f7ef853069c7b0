use Rattle.rubis_lives.proofs.KeyFacts.{sends-without-keys}
use Rattle.rubis_lives.proofs.laws.packets_are_sent_without_their_keys.Goals as goal

pub returns : goal.returns
returns c = sends-without-keys
