use Rattle.rubis_carrier.proofs.Standby.{told_once, told_stays, yields_published}
use Rattle.rubis_carrier.proofs.laws.a_standby_takes_over.Goals as goal

pub returns : goal.returns
returns c = record { once = told_once; stays = told_stays; yields = yields_published }
