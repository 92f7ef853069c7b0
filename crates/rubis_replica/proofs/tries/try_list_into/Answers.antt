use Rattle.rubis_replica.proofs.Trying.{rows_lead}
use Rattle.rubis_replica.proofs.tries.try_list_into.Goals as goal

pub returns-clause-tried : goal.returns-clause-tried
returns-clause-tried g c = rows_lead (λ rows. g.S.RowSink.adds rows c.args.sink.now c.list_into.new.sink) c.args.listing.now c.args.site.now c.list_into.new.self
    c.list_into.result c.list_into.ensures.step
