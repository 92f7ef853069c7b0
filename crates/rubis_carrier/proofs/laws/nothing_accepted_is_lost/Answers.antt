use Rattle.rubis_carrier.proofs.Telling.{published, told_ok}
use Rattle.rubis_carrier.proofs.Carrying.{nothing_lost}
use Rattle.rubis_carrier.proofs.laws.nothing_accepted_is_lost.Goals as goal

pub returns : goal.returns
returns c = record { kept = told_ok; published = published; stays = nothing_lost }
