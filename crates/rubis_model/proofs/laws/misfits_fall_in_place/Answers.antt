use Rattle.rubis_model.proofs.InPlace.{in_place, misfits_in_place}
use Rattle.rubis_model.proofs.laws.misfits_fall_in_place.Goals as goal

pub returns : goal.returns
returns c = λ shards first t batch all some. (in_place first t batch, misfits_in_place shards first t batch all some)
