use Rattle.rubis_shard.proofs.Common.{◌≡◌, sym, ap, ◌∙◌, length, arith, Option, Tables, part_of}
use Rattle.std.specs.FinMap as map
use Rattle.rubis_shard.specs.Listed.{recorded_from, recorded_of}
use Rattle.rubis_shard.specs.Rows.{tables_in}
use Rattle.rubis_shard.specs.States.{ShardState, held_by, held_in}
use Rattle.rubis_shard.specs.declared.shard_store.Store.{Store}
use Rattle.rubis_shard.proofs.Counting.{none_recorded}
use Rattle.rubis_shard.proofs.shards.Shard.count_recorded.Goals as goal

pub count_recorded-requires : goal.count_recorded-requires
unfolding recorded_of
count_recorded-requires c =
    let here : length (recorded_from c.args.first (map.entries (tables_in c.deref.result.now.rows))) ≡ recorded_of c.args.first c.args.self.now =
    ap (λ (s : Store). length (recorded_from c.args.first (map.entries (held_by s).tables))) c.deref.ensures
    ∙ ap (λ (o : Option Store). length (recorded_from c.args.first (map.entries (held_in o).tables))) (sym c.in-Some.is)
    ∙ ap (λ (t : Tables). length (recorded_from c.args.first (map.entries t))) (sym c.self.invariant)
    ∙ ap (λ (s : ShardState). length (recorded_from c.args.first (map.entries (part_of s.shards s.number s.folded.tables)))) c.self.view_is in
    omega (arith, here, c.requires)

pub returns-in-Some : goal.returns-in-Some
unfolding recorded_of
returns-in-Some c =
    let here : length (recorded_from c.args.first (map.entries (tables_in c.deref.result.now.rows))) ≡ recorded_of c.args.first c.args.self.now =
    ap (λ (s : Store). length (recorded_from c.args.first (map.entries (held_by s).tables))) c.deref.ensures
    ∙ ap (λ (o : Option Store). length (recorded_from c.args.first (map.entries (held_in o).tables))) (sym c.in-Some.is)
    ∙ ap (λ (t : Tables). length (recorded_from c.args.first (map.entries t))) (sym c.self.invariant)
    ∙ ap (λ (s : ShardState). length (recorded_from c.args.first (map.entries (part_of s.shards s.number s.folded.tables)))) c.self.view_is in
    omega (arith, here, c.count_recorded.ensures)

pub returns-in-None : goal.returns-in-None
unfolding recorded_of
returns-in-None c =
    let none : 0 ≡ recorded_of c.args.first c.args.self.now =
    sym (none_recorded c.args.first)
    ∙ ap (λ (o : Option Store). length (recorded_from c.args.first (map.entries (held_in o).tables))) (sym c.in-None.is)
    ∙ ap (λ (t : Tables). length (recorded_from c.args.first (map.entries t))) (sym c.self.invariant)
    ∙ ap (λ (s : ShardState). length (recorded_from c.args.first (map.entries (part_of s.shards s.number s.folded.tables)))) c.self.view_is in
    omega (arith, none)
