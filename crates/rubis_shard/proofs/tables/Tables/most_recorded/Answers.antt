use Rattle.rubis_shard.proofs.Common.{rules, arith, ℕ, ◌≡◌, ◌<◌, ◌≤◌, List, length, sym, ap, ◌∙◌, slice_index_or}
use Rattle.std.specs.FinMap as map
use Rattle.rubis_shard.specs.Listed.{recorded_from, recorded_of}
use Rattle.rubis_shard.specs.Holdings.{union}
use Rattle.rubis_shard.specs.States.{ShardState}
use Rattle.rubis_shard.proofs.Counting.{recorded_by_shard, shards_end, shards_more, some_is, union_recorded}
use Rattle.rubis_shard.proofs.tables.Tables.most_recorded.Goals as goal

pub loop-shard-preserved : goal.loop-shard-preserved
loop-shard-preserved c =
    let n : ℕ = 0 in
    let ts : List ShardState = c.deref-shard-items.result.now in
    let at = c.loop-shard.shard-index in
    let item : ShardState = c.shard-item.result in
    let inside : at < length ts = search rules in
    let more = shards_more n ts at item inside in
    let one : recorded_of n (slice_index_or ts at item) ≡ recorded_of n item = ap (recorded_of n) (sym c.shard-item.is) in
    let few = some_is c.most_recorded.result _ c.in-Some.all c.in-Some.is c.most_recorded.ensures in
    omega (arith, more, one, few, c.loop-shard.invariant)

pub returns : goal.returns
returns c =
    let n : ℕ = 0 in
    let ts : List ShardState = c.deref-shard-items.result.now in
    let at = c.loop-shard.shard-index in
    let whole : length (recorded_from 0 (map.entries (union c.args.self.now))) ≡ recorded_by_shard 0 ts =
    ap (λ (us : List ShardState). length (recorded_from 0 (map.entries (union us)))) (sym c.self.view_is)
    ∙ union_recorded 0 c.self.inside.shards.items c.self.invariant
    ∙ ap (recorded_by_shard 0) (sym c.deref-shard-items.ensures.value) in
    let outside : length ts ≤ at = search rules in
    let gone = shards_end n ts at outside in
    omega (arith, whole, gone, c.loop-shard.invariant)
