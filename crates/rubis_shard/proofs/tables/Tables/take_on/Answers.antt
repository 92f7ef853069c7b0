use Rattle.rubis_shard.proofs.Common.{rules, ◌≡◌, List, length, set, refl, subst, arith, Some, OnOk, slice_get, slice_get_read}
use Rattle.rubis_shard.specs.States.{ShardState}
use Rattle.rubis_shard.specs.Holdings.{AreInOrder, FoldsOn, parts_at, core_of, numbered_of, AreHomesOf}
use Rattle.rubis_shard.proofs.Homes.{folds_one_ok, one_kept, order_set}
use Rattle.rubis_shard.proofs.tables.Tables.take_on.Goals as goal

pub invariant_of-self : goal.invariant_of-self
invariant_of-self c =
    let ts : List ShardState = c.self.inside.shards.items in
    let x : ShardState = c.index_mut.result.now in
    let there : slice_get ts c.args.number ≡ Some x = slice_get_read ts (length ts) c.args.number x refl (search rules) (search
    rules) in
    let order : AreInOrder ts = c.self.invariant in
    let kept = one_kept c.take_on.result x c.take_on.new.self (parts_at x.shards x.number (numbered_of c.args.entry.now)) c.take_on.ensures.ok
    c.take_on.ensures.err in
    order_set ts c.args.number x c.take_on.new.self order there kept.0 kept.1

pub returns-clause-ok : goal.returns-clause-ok
returns-clause-ok c =
    let ts : List ShardState = c.self.inside.shards.items in
    let x : ShardState = c.index_mut.result.now in
    let there : slice_get ts c.args.number ≡ Some x = slice_get_read ts (length ts) c.args.number x refl (search rules) (search
    rules) in
    let order : AreInOrder ts = c.self.invariant in
    subst (λ xs. OnOk c.take_on.result
    (FoldsOn c.args.number (parts_at (length xs) c.args.number (numbered_of c.args.entry.now)) xs (set ts c.args.number c.take_on.new.self))) c.self.view_is
    (folds_one_ok c.take_on.result ts c.args.number x c.take_on.new.self (numbered_of c.args.entry.now) order there c.take_on.ensures.ok)

pub take_on-requires-clause-homes : goal.take_on-requires-clause-homes
take_on-requires-clause-homes c =
    let ts : List ShardState = c.self.inside.shards.items in
    let x : ShardState = c.index_mut.result.now in
    let there : slice_get ts c.args.number ≡ Some x = slice_get_read ts (length ts) c.args.number x refl (search rules) (search
    rules) in
    let order : AreInOrder ts = c.self.invariant in
    let many : c.len.result ≡ x.shards = omega (arith, c.len.ensures, (order c.args.number x there).1) in
    subst (λ n. AreHomesOf n (core_of c.args.entry.now) c.of-homes.result) many c.of-homes.ensures
