use Rattle.rubis_laws.proofs.Rows.FoldIsMeaning.{fold_is_meaning, meaning_is_one}
use Rattle.rubis_laws.proofs.laws.fold_is_meaning.Goals as goal

pub returns-clause-fold : goal.returns-clause-fold
returns-clause-fold c = fold_is_meaning

pub returns-clause-one : goal.returns-clause-one
returns-clause-one c = meaning_is_one
