use Rattle.std.proofs.Common.{rules, ◌≡◌, List, [], length, sym, subst}
use Rattle.rubis_shard.specs.States.{ShardState}
use Rattle.rubis_shard.specs.Holdings.{AreInOrder}
use Rattle.rubis_pieces.specs.Batches.{AreShares}
use Rattle.rubis_pieces.proofs.Folded.{belongs}
use Rattle.rubis_tests.proofs.threads.empty_batch.Goals as goal

pub returns-clause-belong : goal.returns-clause-belong
returns-clause-belong g c =
    let ss : List ShardState = c.into_shards.result.items in
    let many : c.args.shards ≡ length ss = search rules in
    belongs 1 [] ss c.in_ok-shares.shares.items (subst AreInOrder (sym c.into_shards.ensures.list) c.into_shards.ensures.order)
    (subst (λ n. AreShares n 1 [] c.in_ok-shares.shares.items) many c.in_ok-shares.ensures)
