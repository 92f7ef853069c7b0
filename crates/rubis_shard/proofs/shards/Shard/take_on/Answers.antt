use Rattle.std.proofs.Common.{rules, ap, sym}
use Rattle.rubis_shard.specs.States.{ShardState, with_parts}
use Rattle.rubis_shard.specs.Holdings.{core_of, NoneAt}
use Rattle.rubis_shard.proofs.shards.Shard.take_on.Goals as goal

pub returns-then-not-has-clause-ok : goal.returns-then-not-has-clause-ok
returns-then-not-has-clause-ok c =
    let s : ShardState = c.args.self.now in
    let e = c.args.entry.now in
    let elsewhere : NoneAt s.number c.args.homes.now = search rules in
    ap (with_parts s) (sym (elsewhere s.shards e.number (core_of e) c.requires.number c.requires.homes))
