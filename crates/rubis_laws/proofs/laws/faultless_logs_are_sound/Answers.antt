use Rattle.rubis_laws.proofs.Audits.Verdicts.{faultless_sound}
use Rattle.rubis_laws.proofs.laws.faultless_logs_are_sound.Goals as goal

pub returns : goal.returns
returns c = faultless_sound
