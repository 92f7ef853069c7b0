use Rattle.rubis_laws.proofs.Runs.Delivering.{logs_only_grow}
use Rattle.rubis_laws.proofs.laws.logs_only_grow.Goals as goal

pub returns : goal.returns
returns c = logs_only_grow
