use Rattle.rubis_model.proofs.Shares.{in_its_part, share_is_part}
use Rattle.rubis_model.proofs.laws.shares_fold_to_the_whole.Goals as goal

pub returns-clause-home : goal.returns-clause-home
returns-clause-home c = in_its_part

pub returns-clause-part : goal.returns-clause-part
returns-clause-part c = share_is_part
