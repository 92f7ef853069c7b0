use Rattle.std.proofs.Common.{subst}
use Rattle.rubis_replica.specs.Follow.{IsProgress}
use Rattle.rubis_replica.specs.State.{SiteState}
use Rattle.rubis_replica.proofs.site.Site.is_behind.Goals as goal

pub returns-clause-conditions : goal.returns-clause-conditions
returns-clause-conditions g c = subst (λ (s : SiteState). IsProgress s.state.log s.progress) c.self.view_is c.self.invariant.progress
