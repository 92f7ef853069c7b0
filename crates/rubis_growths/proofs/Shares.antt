-- Shares of a shard.
use Rattle.std.proofs.Common.{[], ◌∷◌, ◌++◌}
use Rattle.std.proofs.lemmas.List.Elements.{All-push}
use Rattle.rubis_shadow.specs.declared.numbered.Numbered.{Numbered}
use Rattle.rubis_shard.specs.States.{ShardState, IsHomeOf}
use Rattle.rubis_shard.specs.declared.shares.Share.{Share}
use Rattle.rubis_pieces.specs.Pieces.{IsShareOf}

-- a share with one part more, whose home is the shard
pub share_push : (shard : ShardState) (share : Share) (part : Numbered) → IsShareOf shard share → IsHomeOf shard part →
    IsShareOf shard record { number = share.number; effects = share.effects ++ part ∷ [] }
share_push shard share part own home = record { number = own.number; home = All-push (IsHomeOf shard) share.effects part own.home home }
