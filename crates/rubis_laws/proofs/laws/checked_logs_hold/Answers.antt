use Rattle.rubis_laws.proofs.Runs.Invariants.{checked_holds}
use Rattle.rubis_laws.proofs.laws.checked_logs_hold.Goals as goal

pub returns : goal.returns
returns c = checked_holds
