use Rattle.rubis_replica.proofs.Common.{◌∙◌, ap, Tables}
use Rattle.std.specs.FinMap as map
use Rattle.rubis_replica.proofs.Deciding.{log_tables}
use Rattle.rubis_replica.proofs.Listing.{applied_already}
use Rattle.rubis_replica.proofs.site.Site.row.Goals as goal

pub returns : goal.returns
returns g c =
    let site = c.self.inside in
    let now = c.args.self.now in
    let tables = log_tables now site.intake.place site.intake.state site.batch site.follower (applied_already _ now c.self.view_is c.requires) c.self.invariant in
    rw c.tables.ensures at c.row.ensures ∙ ap (λ (t : Tables). map.get t c.args.key.now) tables
