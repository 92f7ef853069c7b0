use Rattle.rubis_laws.proofs.Rebuilding.GivenAll.{given_are_released, given_converge, given_have_the_tables_of_the_run}
use Rattle.rubis_laws.proofs.laws.given_sites_converge.Goals as goal

pub returns-clause-released : goal.returns-clause-released
returns-clause-released c = given_are_released

pub returns-clause-tables : goal.returns-clause-tables
returns-clause-tables c = given_converge

pub returns-clause-run : goal.returns-clause-run
returns-clause-run c = given_have_the_tables_of_the_run
