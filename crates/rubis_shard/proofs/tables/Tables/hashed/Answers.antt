use Rattle.std.proofs.Common.{rules, arith, []}
use Rattle.rubis_shard.specs.States.{opening_shard}
use Rattle.rubis_shard.proofs.Logs.{order_of_log}
use Rattle.rubis_shard.proofs.Picked.{each_more}
use Rattle.rubis_shard.proofs.tables.Tables.hashed.Goals as goal

pub loop-number-preserved : goal.loop-number-preserved
loop-number-preserved c = record {
  many = search rules;
  each = each_more (opening_shard c.args.shards) c.loop-number.list.items _ c.loop-number.number c.in_ok-hashed.field-0 (search
      rules) c.loop-number.invariant.many c.in_ok-hashed.ensures c.loop-number.invariant.each;
}

pub invariant_of-result : goal.invariant_of-result
invariant_of-result c = order_of_log c.args.shards [] c.loop-number.list.items (record {
  many = search rules;
  each = λ k l. c.loop-number.invariant.each k (omega arith);
})
