use Rattle.rubis_keys.proofs.KeyedRunFacts.{red_keys_once}
use Rattle.rubis_keys.proofs.laws.red_keys_are_used_once.Goals as goal

pub returns : goal.returns
returns c = red_keys_once
