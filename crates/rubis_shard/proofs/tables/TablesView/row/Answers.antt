use Rattle.rubis_shard.proofs.Common.{◌≡◌, sym, ap, ◌∙◌, List, [], length, rules, slice_get, Some, slice_get_read, home}
use Rattle.std.specs.FinMap as map
use Rattle.rubis_shard.specs.States.{ShardState}
use Rattle.rubis_shard.specs.Holdings.{union}
use Rattle.rubis_shard.proofs.Picked.{no_items}
use Rattle.rubis_shard.proofs.Unions.{get-union, get-union-none}
use Rattle.rubis_shard.proofs.tables.TablesView.row.Goals as goal

pub returns-then-is_empty : goal.returns-then-is_empty
returns-then-is_empty c =
    let none : c.self.inside.shards.items ≡ [] = no_items _ (search rules) in
    sym (get-union-none c.args.key.now) ∙ ap (λ (ts : List ShardState). map.get (union ts) c.args.key.now) (sym none
    ∙ c.self.view_is)

pub returns : goal.returns
returns c =
    let ts : List ShardState = c.self.inside.shards.items in
    let q = c.args.key.now in
    let at : slice_get ts c.home_of-at.result ≡ Some c.index.result.now =
    slice_get_read ts c.len.result c.home_of-at.result c.index.result.now (search rules) c.home_of-at.ensures.below (search
    rules) in
    let place : home (length ts) q ≡ c.home_of-at.result = search rules in
    c.row.ensures.row ∙ sym (get-union ts q c.index.result.now c.self.invariant (ap (slice_get ts) place ∙ at))
    ∙ ap (λ (us : List ShardState). map.get (union us) q) c.self.view_is
