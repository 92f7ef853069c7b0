use Rattle.rubis_laws.proofs.Runs.Nicknames.{nicknames_are_unique, reds_are_in_one_order}
use Rattle.rubis_laws.proofs.laws.nicknames_are_unique.Goals as goal

pub returns-clause-unique : goal.returns-clause-unique
returns-clause-unique c = nicknames_are_unique

pub returns-clause-order : goal.returns-clause-order
returns-clause-order c = reds_are_in_one_order
