use Rattle.rubis_laws.proofs.Rows.EqualSets.{equal_sets_equal_tables}
use Rattle.rubis_laws.proofs.laws.equal_sets_equal_tables.Goals as goal

pub returns : goal.returns
returns c = equal_sets_equal_tables
