use Rattle.rubis_keys.specs.Keys.{keyed_opening}
use Rattle.rubis_keys.proofs.BareFacts.{answers_more, bare_same}
use Rattle.rubis_keys.proofs.KnownFacts.{known_stays, known_there, later_is_told, once_accepted}
use Rattle.rubis_keys.proofs.laws.keys_hold.Goals as goal

pub returns-clause-goes_on : goal.returns-clause-goes_on
returns-clause-goes_on c = answers_more

pub returns-clause-bare : goal.returns-clause-bare
returns-clause-bare c = λ p records. bare_same p (keyed_opening p.site) 1 1 records

pub returns-clause-there : goal.returns-clause-there
returns-clause-there c = λ p records. known_there p (keyed_opening p.site) 1 records (λ q red k h. absurd cc)

pub returns-clause-stays : goal.returns-clause-stays
returns-clause-stays c = known_stays

pub returns-clause-once : goal.returns-clause-once
returns-clause-once c = once_accepted

pub returns-clause-again : goal.returns-clause-again
returns-clause-again c = later_is_told
