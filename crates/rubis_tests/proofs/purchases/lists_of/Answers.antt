use Rattle.std.proofs.Common.{[], ◌∷◌, sym, subst}
use Rattle.rubis_pieces.specs.Batches.{Belong}
use Rattle.rubis_tests.proofs.purchases.lists_of.Goals as goal

pub returns : goal.returns
returns c =
    let shards = c.in_ok-shards.ensures.items in
    let shares = c.in_ok-shares.ensures.items in
    subst (λ l. Belong l c.in_ok-shares.shares.items) (sym shards)
    (subst (Belong (c.args.first.shard ∷ c.args.second.shard ∷ [])) (sym shares) (c.requires.first, (c.requires.second, tt)))
