-- What the shards of a log hold, and how a batch after it is folded on.
use Rattle.rubis_shard.proofs.Common.{ℕ, ◌≡◌, ◌+◌, ◌<◌, List, ◌++◌, length, sym, ap, ◌∙◌, arith, Some, nat_eq, filter, slice_get, filter-append}
use Rattle.rubis_shard.proofs.Common.{slice_get_within, home, opening, Core, fold_of, share, part_of}
use Rattle.rubis_model.specs.Log.{numbered_from}
use Rattle.rubis_model.proofs.Shares.{numbered_append, share_is_part}
use Rattle.rubis_shard.specs.States.{ShardState, opening_shard, with_parts}
use Rattle.rubis_shard.specs.Holdings.{shard_of_log, parts_at, HoldsLog, AreInOrder, IsSet, FoldsAtHome}
use Rattle.rubis_shard.proofs.Folds.{with_append}

pub share_append : (shards first : ℕ) (a b : List Core) (k : ℕ)
    → share shards first (a ++ b) k ≡ share shards first a k ++ share shards (first + length a) b k
share_append shards first a b k =
    ap (filter (λ n. nat_eq (home shards n.effect.key) k)) (numbered_append first a b)
    ∙ filter-append (λ n. nat_eq (home shards n.effect.key) k) (numbered_from first a) (numbered_from (first + length a) b)

-- a shard of the log with its share of the batch folded on is that shard of the log with the batch
pub shard_with_share : (shards : ℕ) (log batch : List Core) (k : ℕ)
    → with_parts (shard_of_log shards log k) (share shards (1 + length log) batch k) ≡ shard_of_log shards (log ++ batch) k
shard_with_share shards log batch k =
    sym (with_append (opening_shard shards k) (share shards 1 log k) (share shards (1 + length log) batch k))
    ∙ ap (with_parts (opening_shard shards k)) (sym (share_append shards 1 log batch k))

-- a shard of the log has its part of the log's tables
pub tables_of_shard : (shards : ℕ) (log : List Core) (k : ℕ)
    → (shard_of_log shards log k).folded.tables ≡ part_of shards k (fold_of log).tables
tables_of_shard shards log k = share_is_part shards 1 k opening log

-- ---- the shards of a log are a set
is_of_log : (shards : ℕ) (log : List Core) (ts : List ShardState) (k : ℕ) (s : ShardState) → HoldsLog shards log ts
    → slice_get ts k ≡ Some s → shard_of_log shards log k ≡ s
is_of_log shards log ts k s h e =
    let inside : k < length ts = slice_get_within ts k s e in
    let m = h.many in
    let z = h.each k (omega (arith, inside, m)) in
    cc

pub order_of_log : (shards : ℕ) (log : List Core) (ts : List ShardState) → HoldsLog shards log ts → AreInOrder ts
order_of_log shards log ts h k s e =
    let is = is_of_log shards log ts k s h e in
    (sym (ap (λ (x : ShardState). x.number) is), sym (ap (λ (x : ShardState). x.shards) is) ∙ sym h.many)

pub set_of_log : (shards : ℕ) (log : List Core) (ts : List ShardState) → 0 < shards → HoldsLog shards log ts → IsSet ts
set_of_log shards log ts l h = record {
  some = (let m = h.many in omega (arith, l, m));
  order = order_of_log shards log ts h;
}

-- ---- a batch after the log
pub batch_at_home : (shards : ℕ) (log batch : List Core) (old new : List ShardState) → HoldsLog shards log old
    → FoldsAtHome old (numbered_from (1 + length log) batch) new → HoldsLog shards (log ++ batch) new
batch_at_home shards log batch old new h f = record {
  many = f.many ∙ h.many;
  each = λ k l.
      f.each k (shard_of_log shards log k) (h.each k l)
      ∙ (λ i. Some (with_parts (shard_of_log shards log k) (parts_at (h.many i) k (numbered_from (1 + length log) batch))))
      ∙ ap Some (shard_with_share shards log batch k);
}
