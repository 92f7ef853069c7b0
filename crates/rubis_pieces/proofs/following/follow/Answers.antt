use Rattle.rubis_pieces.proofs.Common.{◌≡◌, rules, sym, ap, ◌∙◌, subst, get_or, arith, length-map, core, cores, core_of, AreHomesOf, ShardState}
use Rattle.rubis_pieces.proofs.Common.{PartHomes, of_ok}
use Rattle.rubis_pieces.proofs.Follows.{follow_turn, homes_at, homes_many, of_err, pass_turn, stops}
use Rattle.rubis_pieces.proofs.following.follow.Goals as goal
use Rattle.rubis_pieces.proofs.following.follow.Goals.{then-has+else-is_err, else-has}

abbrev none : PartHomes
none = record { first = 0; second = 0; third = 0 }

pub take_on-requires-clause-homes : goal.take_on-requires-clause-homes
take_on-requires-clause-homes c =
    let same : c.loop-place.shard.shards ≡ c.args.shard.now.shards = ap (λ (s : ShardState). s.shards) c.loop-place.invariant in
    subst (λ n. AreHomesOf n (core_of c.new-entry.result) (get_or c.args.homes.now c.loop-place.place none)) (sym same)
    (homes_at c.args.shard.now.shards c.loop-place.place c.args.batch.now c.args.homes.now c.index-batch-place.result
    c.new-entry.result none (search rules) (search rules) c.new-entry.ensures.core c.requires.homes)

pub loop-place-preserved : goal.loop-place-preserved
loop-place-preserved c = elim c.if-has.branch [
  | then-has+else-is_err w ↦ w.shard-is ∙ follow_turn c.args.first c.loop-place.place c.args.batch.now w.index-batch-place.result w.new-entry.result
      c.args.shard.now c.loop-place.shard w.take_on.new.self (search rules) (search rules) (search rules)
      w.new-entry.ensures.core c.loop-place.invariant (of_ok _ w.take_on.result (search rules) w.take_on.ensures.ok)
  | else-has w ↦ w.shard-is ∙ pass_turn c.args.first c.loop-place.place c.args.batch.now c.args.homes.now none c.args.shard.now c.loop-place.shard
      (search rules) c.requires.number c.requires.homes (search rules) c.loop-place.invariant
]

pub bounds-homes-place : goal.bounds-homes-place
bounds-homes-place c =
    let many = homes_many c.args.shard.now.shards (cores c.args.batch.now) c.args.homes.now c.requires.homes in
    let long = length-map c.args.batch.now core in
    omega arith

pub returns-then-is_err : goal.returns-then-is_err
returns-then-is_err c =
    stops c.args.first c.loop-place.place c.args.batch.now c.args.shard.now c.loop-place.shard c.take_on.new.self (omega arith)
    c.loop-place.invariant (of_err _ c.take_on.result (search rules) c.take_on.ensures.err)
