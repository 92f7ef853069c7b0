use Rattle.rubis_world.proofs.Common.{◌++◌, ◌∷◌, [], ◌∙◌, ap, arith, sym, map-range_with_len_more, World, log_of}
use Rattle.rubis_world.proofs.checks.logs.Goals as goal

pub places-preserved : goal.places-preserved
places-preserved g c =
    let log = c.in_ok-log.ensures.log ∙ ap (λ (w : World). log_of w c.places.site) c.places.invariant.0.1 in (
      (c.log.ensures.same.0 ∙ c.places.invariant.0.0, c.log.ensures.same.1 ∙ c.places.invariant.0.1),
      c.in_ok-push.ensures.items ∙ (λ k. c.places.invariant.1 k ++ log k ∷ [])
          ∙ sym (map-range_with_len_more (log_of c.args.sites.now.world) 0 c.places.site c.places.site (omega arith)),
    )
