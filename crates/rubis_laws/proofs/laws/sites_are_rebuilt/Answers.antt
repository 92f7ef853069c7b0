use Rattle.rubis_laws.proofs.Rebuilding.Rebuilt.{asks_are_read_off}
use Rattle.rubis_laws.proofs.Rebuilding.RebuildRecords.{records_rebuild, inputs_rebuild}
use Rattle.rubis_laws.proofs.Rebuilding.RebuiltSites.{sites_are_rebuilt}
use Rattle.rubis_laws.proofs.laws.sites_are_rebuilt.Goals as goal

pub returns-clause-again : goal.returns-clause-again
returns-clause-again c = sites_are_rebuilt

pub returns-clause-inputs : goal.returns-clause-inputs
returns-clause-inputs c = inputs_rebuild

pub returns-clause-records : goal.returns-clause-records
returns-clause-records c = records_rebuild

pub returns-clause-asks : goal.returns-clause-asks
returns-clause-asks c = asks_are_read_off
