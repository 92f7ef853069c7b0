use Rattle.rubis_pieces.proofs.Common.{rules, refl, ◌∙◌, cores, of_ok}
use Rattle.rubis_pieces.proofs.Follows.{goes_first, goes_turn}
use Rattle.rubis_pieces.proofs.following.follow_one.Goals as goal

pub loop-place-init : goal.loop-place-init
loop-place-init c = (refl, goes_first c.args.number c.args.from (cores c.args.log.now) c.args.tables.now)

pub loop-place-preserved : goal.loop-place-preserved
loop-place-preserved c =
    let folds = of_ok _ c.take_on.result (search rules) c.take_on.ensures.ok in (
      folds.many ∙ c.loop-place.invariant.0,
      goes_turn c.args.number c.args.from c.loop-place.place c.args.log.now c.index-log-place.result c.new-entry.result
          c.args.tables.now c.loop-place.tables c.take_on.new.self (search rules) (search rules) (search rules) (search rules)
          c.new-entry.ensures.core c.loop-place.invariant.1 folds,
    )
