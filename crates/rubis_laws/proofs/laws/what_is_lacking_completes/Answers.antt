use Rattle.rubis_laws.proofs.Lacking.InOrder.{lack_is_released, lacks_the_rest}
use Rattle.rubis_laws.proofs.Lacking.LackingRuns.{completed_tables_are_equal, lack_is_released_in_runs, one_round_converges, lack_never_waits}
use Rattle.rubis_laws.proofs.laws.what_is_lacking_completes.Goals as goal

pub returns-clause-rest : goal.returns-clause-rest
returns-clause-rest c = lacks_the_rest

pub returns-clause-released : goal.returns-clause-released
returns-clause-released c = lack_is_released

pub returns-clause-runs : goal.returns-clause-runs
returns-clause-runs c = lack_is_released_in_runs

pub returns-clause-tables : goal.returns-clause-tables
returns-clause-tables c = completed_tables_are_equal

pub returns-clause-round : goal.returns-clause-round
returns-clause-round c = one_round_converges

pub returns-clause-held : goal.returns-clause-held
returns-clause-held c = lack_never_waits
