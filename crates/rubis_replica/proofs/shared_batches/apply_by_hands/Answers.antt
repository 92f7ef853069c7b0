use Rattle.std.proofs.Common.{◌∙◌, refl, arith}
use Rattle.rubis_replica.proofs.GivenOut.{none_is_applied}
use Rattle.rubis_replica.proofs.shared_batches.apply_by_hands.Goals as goal

pub returns-in_default-clause-applied : goal.returns-in_default-clause-applied
returns-in_default-clause-applied g c =
    none_is_applied c.args.intake.now.state.log c.args.span.now c.args.tables.now c.args.tables.now c.args.stops.now c.stop_all.new.stops c.requires refl
    (c.stop_all.ensures.many ∙ c.len-in_default.ensures)
    (λ k l. c.stop_all.ensures.at k (let e = c.len-in_default.ensures in omega (arith, e, l))) c.stop_all.ensures.room
