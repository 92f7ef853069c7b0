use Rattle.rubis_pool_core.proofs.Batches.{folds_the_batch}
use Rattle.rubis_pool_core.proofs.laws.every_schedule_folds_the_batch.Goals as goal

pub returns : goal.returns
returns c = folds_the_batch
