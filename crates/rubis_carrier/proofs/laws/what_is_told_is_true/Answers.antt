use Rattle.rubis_carrier.proofs.Over.{in_order, over_stays}
use Rattle.rubis_carrier.proofs.Telling.{accepted_once, told_one, told_true}
use Rattle.rubis_carrier.proofs.laws.what_is_told_is_true.Goals as goal

pub returns : goal.returns
returns c = record { never = told_true; one = told_one; once = accepted_once; order = in_order; over = over_stays }
