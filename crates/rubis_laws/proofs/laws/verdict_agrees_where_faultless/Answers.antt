use Rattle.rubis_laws.proofs.Audits.Verdicts.{agrees_where_faultless}
use Rattle.rubis_laws.proofs.laws.verdict_agrees_where_faultless.Goals as goal

pub returns : goal.returns
returns c = agrees_where_faultless
