use Rattle.std.proofs.Common.{rules, ◌≡◌, IfOk, Ok, subst}
use Rattle.rubis_model.specs.Site.{asked}
use Rattle.rubis_world.specs.Script.{SiteState}
use Rattle.rubis_shadow.specs.declared.shadows.Ask.TheVariants as Ask
use Rattle.rubis_tests.proofs.callers.first_user.Goals as goal

pub returns : goal.returns
returns g c =
    let answers : SiteState → Type 0 = λ s. IfOk c.request.result (λ message. (asked s.place s.state (Ask.User c.args.nick)).1 ≡ Ok message) in
    let answered : answers c.in_ok-site.site = search rules in
    subst answers c.in_ok-site.ensures answered
