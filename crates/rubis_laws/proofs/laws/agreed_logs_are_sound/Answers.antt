use Rattle.rubis_laws.proofs.Audits.Verdicts.{faultless_sound, agree_faultless}
use Rattle.rubis_laws.proofs.laws.agreed_logs_are_sound.Goals as goal

pub returns : goal.returns
returns c = λ sites logs among e. faultless_sound sites logs among (agree_faultless sites logs among e)
