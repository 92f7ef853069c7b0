use Rattle.rubis_carrier.proofs.Carrying.{comes_back, first_holds}
use Rattle.rubis_carrier.proofs.laws.the_token_comes_back.Goals as goal

pub returns : goal.returns
returns c = record { back = comes_back; first = first_holds }
