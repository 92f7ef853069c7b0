use Rattle.rubis_pieces.proofs.Common.{List, ◌+◌, ◌*◌, subst, IfOk, Core}
use Rattle.rubis_pieces.specs.Batches.{AreShares}
use Rattle.rubis_pieces.proofs.Dealt.{part_cores}
use Rattle.rubis_pieces.proofs.splits.split_part.Goals as goal

pub returns : goal.returns
returns c =
    let from = c.args.at * 1024 in
    subst (λ (ms : List Core). IfOk c.split_alone.result (λ shares. AreShares c.args.shards (c.args.first + from) ms shares.items))
    (part_cores c.args.batch.now from c.min.result c.min.ensures) c.split_alone.ensures
