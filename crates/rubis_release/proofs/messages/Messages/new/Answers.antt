use Rattle.rubis_release.proofs.Keeping.{none_counted}
use Rattle.rubis_release.proofs.messages.Messages.new.Goals as goal

pub invariant_of-result : goal.invariant_of-result
invariant_of-result c = none_counted c.args.sites c.new.result c.new-2.result c.new-3.result c.new.ensures.items c.new.ensures.len c.new-2.ensures
    c.new-3.ensures
