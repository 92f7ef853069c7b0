use Rattle.rubis_world.proofs.Common.{rules, ◌≡◌, ap, ◌∙◌, opening_at, resting_at, setup_place, SiteState}
use Rattle.rubis_script.specs.Replica.{Setup}
use Rattle.rubis_world.proofs.Moves.{at_places, fresh_sites, one_more, starts, state_of}
use Rattle.rubis_world.proofs.sites.Sites.new.Goals as goal

abbrev opened : Setup → SiteState
opened q = record { place = setup_place q; state = opening_at q.site; progress = resting_at 0; batch = q.batch }

pub sites-preserved : goal.sites-preserved
sites-preserved c =
    one_more c.args.config.now c.sites.sites.items c.push.new.self.items c.sites.site c.in_ok-new.field-0 c.sites.invariant
    (c.in_ok-new.ensures ∙ ap opened c.site.ensures) c.in_ok-push.ensures.items

pub invariant_of-result : goal.invariant_of-result
invariant_of-result c =
    at_places c.args.config.now c.keep.result c.sites.sites.items
    (c.sites.invariant ∙ ap (fresh_sites c.args.config.now) (let e : c.sites.site ≡ c.args.config.now.sites = search rules in e)) c.keep.ensures.value

pub returns-clause-start : goal.returns-clause-start
returns-clause-start c =
    (λ k. state_of (c.keep.ensures.value k) c.sites.sites.items (c.new-2.ensures.items k))
    ∙ starts c.args.config.now c.sites.sites.items
    (c.sites.invariant ∙ ap (fresh_sites c.args.config.now) (let e : c.sites.site ≡ c.args.config.now.sites = search rules in e))
