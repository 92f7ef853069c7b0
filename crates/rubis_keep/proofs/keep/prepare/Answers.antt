use Rattle.rubis_keep.proofs.DeedFacts.{prepares-new}
use Rattle.rubis_keep.proofs.keep.prepare.Goals as goal

pub returns-in-None : goal.returns-in-None
returns-in-None g c = prepares-new c.args.wanted.now c.args.found c.args.settings.now.setup c.args.history.now.steps c.begin_site.new.history.steps
    c.begin_site.result c.in-None.is c.requires.found c.begin_site.ensures.ok c.begin_site.ensures.err c.begin_site.ensures.fault
