use Rattle.std.proofs.Common.{length}
use Rattle.std.proofs.Math.Nat.{le_refl}
use Rattle.rubis_model.proofs.OneOutcome.{settle_settles, settles_one}
use Rattle.rubis_model.proofs.laws.settling_has_one_outcome.Goals as goal

pub returns : goal.returns
returns c = λ log waiting. (settle_settles (length waiting) log waiting (le_refl (length waiting)), settles_one log waiting)
