use Rattle.rubis_laws.proofs.Audits.Verdicts.{agreed_audits_are_sound}
use Rattle.rubis_laws.proofs.laws.agreed_audits_are_sound.Goals as goal

pub returns : goal.returns
returns c = agreed_audits_are_sound
