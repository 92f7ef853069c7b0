use Rattle.rubis_carrier.proofs.Over.{comparing_needed}
use Rattle.rubis_carrier.proofs.Sound.{ids_once}
use Rattle.rubis_carrier.proofs.Carrying.{given_again}
use Rattle.rubis_carrier.proofs.laws.ids_are_given_once.Goals as goal

pub returns : goal.returns
returns c = record { once = ids_once; again = given_again; needed = comparing_needed }
