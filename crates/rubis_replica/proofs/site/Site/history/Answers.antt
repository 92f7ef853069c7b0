use Rattle.rubis_replica.proofs.Common.{◌≡◌, sym, ap, subst, All, List, Message, sites_of}
use Rattle.rubis_replica.specs.State.{SiteState}
use Rattle.rubis_replica.proofs.Standing.{log_counts}
use Rattle.rubis_replica.proofs.site.Site.history.Goals as goal

pub returns-clause-sites : goal.returns-clause-sites
returns-clause-sites g c =
    subst (λ n. All (λ m. sites_of m ≡ n) c.log.result.now) (ap (λ (s : SiteState). s.place.sites) c.self.view_is)
    (subst (λ (l : List Message). All (λ m. sites_of m ≡ c.self.inside.intake.place.sites) l) (sym c.log.ensures.value)
    (log_counts c.self.inside.intake c.log.ensures.conditions))
