use Rattle.rubis_keep.proofs.DeedFacts.{looks-found}
use Rattle.rubis_keep.proofs.keep.look.Goals as goal

pub returns-in-Ok : goal.returns-in-Ok
returns-in-Ok g c = looks-found c.args.wanted.now c.in-Ok.found _ _ c.allow.result c.in-Ok.ensures.ok c.allow.ensures
