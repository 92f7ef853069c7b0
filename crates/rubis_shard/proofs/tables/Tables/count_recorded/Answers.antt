use Rattle.rubis_shard.proofs.Common.{rules, arith, ◌≡◌, ◌<◌, ◌≤◌, List, length, sym, ap, ◌∙◌, slice_index_or}
use Rattle.std.specs.FinMap as map
use Rattle.rubis_shard.specs.Listed.{number_of_table, recorded_from, recorded_of}
use Rattle.rubis_shard.specs.Holdings.{union}
use Rattle.rubis_shard.specs.States.{ShardState}
use Rattle.rubis_shard.proofs.Counting.{recorded_by_shard, shards_end, shards_more, union_recorded}
use Rattle.rubis_shard.proofs.tables.Tables.count_recorded.Goals as goal

pub count_recorded-count-requires : goal.count_recorded-count-requires
count_recorded-count-requires c =
    let n = c.number_of-first.result in
    let ts : List ShardState = c.deref-shard-items.result.now in
    let at = c.loop-shard.shard-index in
    let whole : length (recorded_from (number_of_table c.args.first) (map.entries (union c.args.self.now))) ≡ recorded_by_shard n ts =
    ap (λ k. length (recorded_from k (map.entries (union c.args.self.now)))) (sym c.number_of-first.ensures)
    ∙ ap (λ (us : List ShardState). length (recorded_from n (map.entries (union us)))) (sym c.self.view_is)
    ∙ union_recorded n c.self.inside.shards.items c.self.invariant
    ∙ ap (recorded_by_shard n) (sym c.deref-shard-items.ensures.value) in
    let item : ShardState = c.shard-item.result in
    let inside : at < length ts = search rules in
    let more = shards_more n ts at item inside in
    let one : recorded_of n (slice_index_or ts at item) ≡ recorded_of n item = ap (recorded_of n) (sym c.shard-item.is) in
    omega (arith, whole, more, one, c.loop-shard.invariant, c.requires)

pub loop-shard-preserved : goal.loop-shard-preserved
loop-shard-preserved c =
    let n = c.number_of-first.result in
    let ts : List ShardState = c.deref-shard-items.result.now in
    let at = c.loop-shard.shard-index in
    let item : ShardState = c.shard-item.result in
    let inside : at < length ts = search rules in
    let more = shards_more n ts at item inside in
    let one : recorded_of n (slice_index_or ts at item) ≡ recorded_of n item = ap (recorded_of n) (sym c.shard-item.is) in
    omega (arith, more, one, c.loop-shard.invariant, c.count_recorded-count.ensures)

pub returns : goal.returns
returns c =
    let n = c.number_of-first.result in
    let ts : List ShardState = c.deref-shard-items.result.now in
    let at = c.loop-shard.shard-index in
    let whole : length (recorded_from (number_of_table c.args.first) (map.entries (union c.args.self.now))) ≡ recorded_by_shard n ts =
    ap (λ k. length (recorded_from k (map.entries (union c.args.self.now)))) (sym c.number_of-first.ensures)
    ∙ ap (λ (us : List ShardState). length (recorded_from n (map.entries (union us)))) (sym c.self.view_is)
    ∙ union_recorded n c.self.inside.shards.items c.self.invariant
    ∙ ap (recorded_by_shard n) (sym c.deref-shard-items.ensures.value) in
    let outside : length ts ≤ at = search rules in
    let gone = shards_end n ts at outside in
    omega (arith, whole, gone, c.loop-shard.invariant)
