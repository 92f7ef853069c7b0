use Rattle.rubis_model.proofs.Shares.{fold_batch}
use Rattle.rubis_model.proofs.laws.folds_batch_by_batch.Goals as goal

pub returns : goal.returns
returns c = fold_batch
